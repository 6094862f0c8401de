use Rattle.std.proofs.Common.{ℕ, ◌∙◌, ap, arith, map, refl}
use Rattle.std.specs.Prelude.{slice_index}
use Rattle.std.specs.Int.{bit_at}
use Rattle.std.proofs.lemmas.List.{length-set}
use Rattle.bits_packed.proofs.BitTransposes.{number_more, number_read}
use Rattle.bits_packed.proofs.WordRanges.{one_more_filled}
use Rattle.bits_packed.proofs.transposes.transposed.Goals as goal

pub loop-row-init : goal.loop-row-init
loop-row-init c = (refl, λ k below. absurd (omega (arith, below)))

pub loop-row-preserved : goal.loop-row-preserved
loop-row-preserved c =
    let row = c.loop-row.row in
    let so_far = c.loop-row.invariant in (
      length-set c.loop-row.rows row c.new.result ∙ so_far.0,
      number_more c.loop-row.rows row c.new.result (λ x. x.bits) (slice_index c.args.words.now) (omega (arith, so_far.0)) c.new.ensures
          so_far.1,
    )

pub loop-column-init : goal.loop-column-init
loop-column-init c = (refl, λ k below. absurd (omega (arith, below)))

pub loop-column-preserved : goal.loop-column-preserved
loop-column-preserved c =
    one_more_filled 64 c.loop-column.column c.to_bits.result (slice_index (map (λ x. x.bits) c.transpose.new.rows)) c.loop-column.out
    (omega arith)
    (c.to_bits.ensures
    ∙ number_read c.transpose.new.rows c.loop-column.column c.index-rows-column.result (λ x. x.bits) (omega arith)) c.loop-column.invariant

pub returns : goal.returns
returns c = λ i j inside fits.
    ap (λ (x : ℕ). bit_at x j) (c.loop-column.invariant.1 i (omega (arith, inside)))
    ∙ c.transpose.ensures i j inside fits
    ∙ ap (λ (x : ℕ). bit_at x i) (c.loop-row.invariant.1 j (omega (arith, fits)))
