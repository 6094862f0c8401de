use Rattle.std.proofs.Common.{ℕ, ◌+◌, ◌*◌, ◌∙◌, ap, arith, sym}
use Rattle.std.specs.Prelude.{slice_index}
use Rattle.bits_packed.proofs.products.left_word.Goals as goal

pub first_word-place-requires-clause-len : goal.first_word-place-requires-clause-len
first_word-place-requires-clause-len c = c.requires.left ∙ ap (λ (n : ℕ). c.args.rows * n) (sym c.div_ceil-words.ensures)

pub first_word-place-requires-clause-strip : goal.first_word-place-requires-clause-strip
first_word-place-requires-clause-strip c =
    record { within = omega (arith, c.requires.pass, c.div_ceil-words.ensures); narrow = omega arith }

pub returns : goal.returns
returns c =
    ap (slice_index c.args.left.now)
    (c.first_word-place.ensures.is ∙ ap (λ (n : ℕ). c.args.row * n + c.args.pass) c.div_ceil-words.ensures)
