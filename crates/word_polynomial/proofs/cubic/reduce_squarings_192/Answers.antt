use Rattle.std.proofs.Common.{◌≡◌, ℕ, ◌+◌, ◌-◌, ◌%◌, sym, ◌∙◌, ap, arith}
use Rattle.word_polynomial.specs.Cubic.{cubic}
use Rattle.field_base.specs.Powers.{repeated_square}
use Rattle.field_base.specs.Remainder.{mul_mod, poly64_modulus}
use Rattle.field_base.proofs.FieldLemmas.{field_repeated_square-mod_bits}
use Rattle.field_base.proofs.PowerLemmas.{repeated_square-add}
use Rattle.word_polynomial.specs.lemmas.Field192.{field_192}
use Rattle.word_polynomial.specs.Triple.{triple_number}
use Rattle.word_polynomial.proofs.cubic.reduce_squarings_192.Goals as goal

-- as many squarings again, of an element squared before
after : (first rest count x y : ℕ) → first + rest ≡ count % 192
    → y ≡ repeated_square 1 (cubic 64 (mul_mod 64 poly64_modulus)) first x
    → repeated_square 1 (cubic 64 (mul_mod 64 poly64_modulus)) rest y ≡ repeated_square 1 (cubic 64 (mul_mod 64 poly64_modulus)) count x
after first rest count x y parts is =
    let times = cubic 64 (mul_mod 64 poly64_modulus) in
    let turned : rest + first ≡ count % 192 = omega (arith, parts) in
    ap (repeated_square 1 times rest) is ∙ sym (repeated_square-add 192 1 times field_192.ring rest first x)
    ∙ ap (λ (k : ℕ). repeated_square 1 times k x) turned ∙ field_repeated_square-mod_bits 192 times field_192 count x

pub returns-then-rest-lt64-clause-squarings : goal.returns-then-rest-lt64-clause-squarings
returns-then-rest-lt64-clause-squarings c =
    field_repeated_square-mod_bits 192 (cubic 64 (mul_mod 64 poly64_modulus)) field_192 c.args.count (triple_number c.args.x)

pub returns-then-rest-lt128-clause-squarings : goal.returns-then-rest-lt128-clause-squarings
returns-then-rest-lt128-clause-squarings c =
    after 64 (c.args.count % 192 - 64) c.args.count (triple_number c.args.x) (triple_number c.automorphism_192.result)
    (omega (arith, c.if-rest-lt64.false)) c.automorphism_192.ensures

pub returns-else-rest-lt128-clause-squarings : goal.returns-else-rest-lt128-clause-squarings
returns-else-rest-lt128-clause-squarings c =
    let times = cubic 64 (mul_mod 64 poly64_modulus) in
    let once = c.automorphism_192-else-rest-lt128 in
    let twice = c.automorphism_192-else-rest-lt128-2 in
    after 128 (c.args.count % 192 - 128) c.args.count (triple_number c.args.x) (triple_number twice.result)
    (omega (arith, c.if-rest-lt128.false))
    (twice.ensures ∙ ap (repeated_square 1 times 64) once.ensures
    ∙ sym (repeated_square-add 192 1 times field_192.ring 64 64 (triple_number c.args.x)))
