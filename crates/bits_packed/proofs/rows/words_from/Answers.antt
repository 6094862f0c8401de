use Rattle.std.proofs.Common.{ℕ, ◌+◌, arith, refl}
use Rattle.std.specs.Prelude.{slice_index}
use Rattle.bits_packed.proofs.WordRanges.{one_more_filled}
use Rattle.bits_packed.proofs.rows.words_from.Goals as goal

pub loop-place-init : goal.loop-place-init
loop-place-init c = (refl, λ k below. absurd (omega (arith, below)))

pub loop-place-preserved : goal.loop-place-preserved
loop-place-preserved c =
    let wanted : ℕ → ℕ = λ (p : ℕ). slice_index c.args.words.now (c.args.first + p) in
    one_more_filled 8 c.loop-place.place (wanted c.loop-place.place) wanted c.loop-place.out (omega arith) refl c.loop-place.invariant

pub returns : goal.returns
returns c = λ p inside. c.loop-place.invariant.1 p (omega (arith, inside))
