use Rattle.std.proofs.Common.{length, refl, sym, ◌∙◌, ap, subst}
use Rattle.std.proofs.lemmas.List.{take_at}
use Rattle.shard_files.specs.Splits.{IsSplit}
use Rattle.shard_files.proofs.writing.split_stripe.Goals as goal

pub returns-clause-split : goal.returns-clause-split
returns-clause-split c =
    let long = c.in_ok-split_into.ensures.long ∙ ap length c.as_mut_slice.ensures.value ∙ sym c.in-Ok.shards.ok.0 in
    subst (IsSplit c.args.layout.now.origin c.args.content.now) (sym (take_at c.split_into.new.shards _ c.in-Ok.shards.len long))
    (c.in_ok-split_into.ensures.split refl)
