use Rattle.std.proofs.Common.{◌+◌, ℕ, [], ◌∙◌, ap, arith}
use Rattle.std.proofs.lemmas.List.{get_or_read}
use Rattle.transcripts.specs.Commitments.{digest_at}
use Rattle.transcripts.proofs.openings.leaf_at.Goals as goal

pub index-requires : goal.index-requires
index-requires g c =
    let tree = c.args.tree.now in
    omega (arith, c.requires, c.power_of_two-first.ensures.power, tree.all)

pub returns : goal.returns
returns g c =
    let tree = c.args.tree.now in
    get_or_read tree.nodes.items (c.power_of_two-first.result + c.args.place) _
    (omega (arith, c.requires, c.power_of_two-first.ensures.power, tree.nodes.ok.0, tree.all)) c.index.ensures []
    ∙ ap (λ (n : ℕ). digest_at tree (n + c.args.place)) c.power_of_two-first.ensures.power
