use Rattle.std.proofs.Common.{◌≡◌, ◌%◌, ℕ, sym, ◌∙◌, ap}
use native.Mathlib.Nat.{mod-eq_of_lt}
use Rattle.reed_solomon.specs.ByteFields.{byte_times}
use Rattle.error_codes.proofs.symbols.ByteFieldSymbolField.invert.Goals as goal

pub returns-then-byte-eq0 : goal.returns-then-byte-eq0
returns-then-byte-eq0 c = λ fits nonzero. absurd (nonzero (sym (mod-eq_of_lt fits) ∙ c.if-byte-eq0.true))

pub returns : goal.returns
returns c = λ fits nonzero.
    let same : c.args.x % 256 ≡ c.args.x = mod-eq_of_lt fits in
    ap (λ (x : ℕ). byte_times c.args.self x c.invert.result) (sym same) ∙ c.invert.ensures
