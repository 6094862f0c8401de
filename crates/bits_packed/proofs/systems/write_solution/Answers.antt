use Rattle.std.proofs.Common.{inr, ◌*◌, ◌<◌, ℕ, ◌∙◌, ap, arith, subst}
use Rattle.std.proofs.lemmas.Grind.{div_ceil_times}
use Rattle.std.specs.Int.Bits.{xor_zero_l}
use Rattle.std.specs.Prelude.{bit_xor, slice_index}
use Rattle.field_slices.proofs.LinearSystems.{solved_step}
use Rattle.bits_packed.specs.BitMatrices.{IsBitWritten, bit_entry, words_for}
use Rattle.bits_packed.proofs.systems.write_solution.Goals as goal

pub loop-row-preserved : goal.loop-row-preserved
loop-row-preserved c =
    let unknowns = c.args.unknowns in
    let words = words_for unknowns in
    let row = c.loop-row.row in
    let pivot = slice_index c.args.pivots.now in
    let solution = c.loop-row.solution in
    let next = c.add_entry.new.matrix in
    let below = c.loop-row-test.true in
    let fits = c.requires.reduced.pivots_fit row below in
    let enough = (div_ceil_times unknowns 64 (omega arith)).0 in
    let room : pivot row < 64 * words = omega (arith, fits, enough) in
    let rises : (k : ℕ) → k < row → pivot k < pivot row = λ k before. c.requires.reduced.pivots_rise k row before below in
    let write : IsBitWritten words 0 (pivot row) (bit_xor (bit_entry words solution 0 (pivot row)) c.entry-value.result) solution next =
    subst (λ (n : ℕ). IsBitWritten n 0 (pivot row) (bit_xor (bit_entry n solution 0 (pivot row)) c.entry-value.result) solution next)
    c.requires.unknowns c.add_entry.ensures in (
      write.shape ∙ c.loop-row.invariant.0,
      solved_step room
          (write.written
          ∙ ap (λ (x : ℕ). bit_xor x c.entry-value.result)
          (c.loop-row.invariant.1.elsewhere (pivot row) room (λ k before e. let rise = rises k before in absurd (omega (arith, rise, e))))
          ∙ xor_zero_l c.entry-value.result ∙ c.entry-value.ensures)
          (λ j inside other. write.others 0 j inside (inr other)) rises c.loop-row.invariant.1,
    )
