use Rattle.std.proofs.Common.{sym, ◌∙◌, ap}
use Rattle.std.proofs.lemmas.List.{get_or_default}
use Rattle.bit_slices.proofs.operations.other_at.Goals as goal

pub returns : goal.returns
returns g c d =
    c.stored.ensures
    ∙ sym (ap g.W.Reads.number (get_or_default c.args.others.now c.args.place d c.index-others-place.result c.requires ∙ sym c.index-others-place.is))
