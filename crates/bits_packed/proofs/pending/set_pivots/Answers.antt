use Rattle.std.proofs.Common.{◌≡◌, ℕ, ◌*◌, arith, subst}
use Rattle.std.specs.Prelude.{slice_index}
use Rattle.bits_packed.specs.BitMatrices.{ArePivotsSet}
use Rattle.bits_packed.proofs.WordColumns.{pivots_more, pivots_start}
use Rattle.bits_packed.proofs.pending.set_pivots.Goals as goal

pub loop-bit-init : goal.loop-bit-init
loop-bit-init c =
    pivots_start c.args.shape.rows c.args.shape.words (64 * c.args.word) (slice_index c.args.places.now) c.args.matrix.now

pub loop-bit-preserved : goal.loop-bit-preserved
loop-bit-preserved c =
    pivots_more c.args.shape.rows c.args.shape.words (64 * c.args.word) c.loop-bit.bit (slice_index c.args.places.now) c.args.matrix.now
    c.loop-bit.matrix c.set_pivot.new.matrix (omega (arith, c.requires.word)) c.loop-bit.invariant c.set_pivot.ensures

pub returns : goal.returns
returns c =
    let all : c.loop-bit.bit ≡ 64 = omega arith in
    subst (λ (n : ℕ). ArePivotsSet c.args.shape.rows c.args.shape.words (64 * c.args.word) n (slice_index c.args.places.now) c.args.matrix.now
    c.loop-bit.matrix) all c.loop-bit.invariant
