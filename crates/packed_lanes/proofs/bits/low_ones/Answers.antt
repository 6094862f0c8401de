use Rattle.std.proofs.Common.{ℕ, ◌∙◌, ◌-◌, ◌/◌, ◌^◌, ap, ap₂}
use Rattle.packed_lanes.proofs.LaneLemmas.{low_ones}
use Rattle.packed_lanes.proofs.bits.low_ones.Goals as goal

pub returns : goal.returns
returns g c =
    let word = g.met.W.Word in
    word.shr_law c.ONES.result _ c.shr.result c.shr.ensures
    ∙ ap₂ (λ (n k : ℕ). n / 2 ^ (k - c.args.count)) (ap g.W.Word.number c.ONES.ensures ∙ word.ones_number) c.BITS.ensures
    ∙ low_ones g.W.Word.BITS c.args.count c.requires.fits
