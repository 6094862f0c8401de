use Rattle.std.proofs.Common.{sym, ◌∙◌, ap₂}
use native.Mathlib.Nat.{mod-eq_of_lt}
use Rattle.c_calls.proofs.LowNumbers.{truncated-lt}
use Rattle.c_calls.proofs.low_bits.LowBitsScalars.invert.Goals as goal

pub invert-requires : goal.invert-requires
invert-requires g c =
    let field = g.S.ScalarWords.field c.args.self.field in
    truncated-lt field.number field.width c.args.x c.truncated.ensures

pub returns : goal.returns
returns g c =
    let field = g.S.ScalarWords.field c.args.self.field in
    let low = c.truncated.ensures in
    ap₂ field.times (sym low) (mod-eq_of_lt c.invert.ensures.fits) ∙ c.invert.ensures.inverse.1 (λ none. c.requires (sym low ∙ none))
