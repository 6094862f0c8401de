use Rattle.std.proofs.Common.{◌≡◌, ◌+◌, ◌*◌, ◌/◌, ◌%◌, ◌^◌, ℕ, ◌∙◌, ap, sym, arith, refl}
use native.Mathlib.Nat.{mod-eq_of_lt}
use Rattle.bits_packed.proofs.BitRows.{bit_added, shift-fits}
use Rattle.bits_packed.proofs.rows.add_bit.Goals as goal

pub returns : goal.returns
returns c =
    let column = 64 * c.args.word + c.args.bit in
    let quotient : column / 64 ≡ c.args.word = omega (arith, c.requires.within) in
    let rest : column % 64 ≡ c.args.bit = omega (arith, c.requires.within) in
    bit_added c.args.shape.words c.args.row column c.place-own.result c.args.value _ c.args.matrix.now
    (c.place-own.ensures.is ∙ ap (λ (v : ℕ). c.args.row * c.args.shape.words + v) (sym quotient)) (omega arith)
    (omega (arith, c.requires.place.column_within, c.requires.within)) c.requires.bit
    (mod-eq_of_lt (shift-fits c.args.value c.args.bit c.requires.bit c.requires.within)
    ∙ ap (λ (k : ℕ). c.args.value * 2 ^ k) (sym rest)) _ refl
