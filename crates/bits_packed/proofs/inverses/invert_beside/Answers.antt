use Rattle.std.proofs.Common.{◌≡◌, ◌<◌, ◌≤◌, ◌+◌, ◌*◌, ℕ, arith, subst}
use Rattle.std.proofs.lemmas.Bool.{eqb-true, eqb-false}
use Rattle.std.proofs.lemmas.Grind.{div_ceil_times}
use Rattle.std.specs.Int.{div_ceil}
use Rattle.field_base.specs.Tower.{tower_mul}
use Rattle.field_slices.specs.Matrices.{AreInverseMatrices, IsMatrixProduct, identity_entry}
use Rattle.bits_packed.specs.BitMatrices.{bit_entry}
use Rattle.bits_packed.proofs.BitIdentities.{bit_inverse_behind, bit_inverse_found, bit_inverse_missing}
use Rattle.bits_packed.proofs.inverses.invert_beside.Goals as goal

-- half of the words of a row have room for the matrix
enough : (size half : ℕ) → half ≡ div_ceil size 64 → size ≤ 64 * half
enough size half is = let room = (div_ceil_times size 64 (omega arith)).0 in omega (arith, room, is)

pub returns-clause-inverse : goal.returns-clause-inverse
returns-clause-inverse c = λ found.
    let half = c.div_ceil-half.result in
    let step = c.reduce_words-rank in
    subst (λ (n : ℕ). AreInverseMatrices (tower_mul 0) c.args.size (bit_entry (n + n) c.args.augmented.now)
    (λ i j. bit_entry (n + n) step.new.matrix i (64 * n + j))) c.div_ceil-half.ensures
    (bit_inverse_found half (enough c.args.size half c.div_ceil-half.ensures) c.args.augmented.now c.write_identity.new.matrix step.new.matrix
    c.write_identity.ensures.entries step.ensures.reduced step.ensures.space
    (eqb-true step.result c.args.size found))

pub returns-clause-singular : goal.returns-clause-singular
returns-clause-singular c = λ missing.
    let half = c.div_ceil-half.result in
    let step = c.reduce_words-rank in
    subst (λ (n : ℕ). (B : ℕ → ℕ → ℕ) → IsMatrixProduct (tower_mul 0) c.args.size c.args.size c.args.size B (bit_entry (n + n) c.args.augmented.now) identity_entry → ⊥)
    c.div_ceil-half.ensures
    (bit_inverse_missing half (enough c.args.size half c.div_ceil-half.ensures) c.args.augmented.now c.write_identity.new.matrix step.new.matrix
    c.write_identity.ensures.entries step.ensures.reduced step.ensures.space
    (eqb-false step.result c.args.size missing))

pub returns-clause-behind : goal.returns-clause-behind
returns-clause-behind c =
    let half = c.div_ceil-half.result in
    let step = c.reduce_words-rank in
    subst (λ (n : ℕ). (i j : ℕ) → i < c.args.size → c.args.size ≤ j → j < 64 * n → bit_entry (n + n) step.new.matrix i (64 * n + j) ≡ 0) c.div_ceil-half.ensures
    (bit_inverse_behind half (enough c.args.size half c.div_ceil-half.ensures) c.args.augmented.now c.write_identity.new.matrix step.new.matrix
    c.write_identity.ensures.entries step.ensures.reduced step.ensures.space)
