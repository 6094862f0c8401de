use Rattle.std.proofs.Common.{◌≡◌, ◌*◌, ◌≤◌, ℕ, List, length, take, inr, sym, ◌∙◌, ap, ap₂, subst, arith}
use Rattle.std.proofs.lemmas.List.{length-take-le}
use Rattle.std.proofs.lemmas.Result.{err_from_is_err_and}
use Rattle.shard_files.specs.Stripes.{shard_total}
use Rattle.shard_files.specs.declared.head.Origin.{Origin}
use Rattle.shard_files.proofs.Positions.{stripe_room}
use Rattle.shard_files.proofs.reading.write_stripe.Goals as goal

pub content-content-requires : goal.content-content-requires
content-content-requires g c =
    let room = stripe_room c.args.layout.origin c.args.stripe in
    subst (λ (o : Origin). c.stripe_length.result ≤ shard_total o * o.size) (sym c.in_ok-group.ensures.of)
    (omega (arith, room, c.stripe_length.ensures))

pub returns-in-Ok-clause-wrote : goal.returns-in-Ok-clause-wrote
returns-in-Ok-clause-wrote g c =
    let group = c.in_ok-group.group in
    let long : c.stripe_length.result ≤ length group.shards.items =
    omega (
      arith,
      c.stripe_length.ensures,
      stripe_room c.args.layout.origin c.args.stripe,
      subst (λ (o : Origin). length group.shards.items ≡ shard_total o * o.size) c.in_ok-group.ensures.of group.whole,
    ) in (
      c.content-content.result.now,
      group.shards.items,
      c.in-Ok.ensures.bytes,
      ap (λ (n : ℕ). take n group.shards.items) (ap length c.content-content.ensures ∙ length-take-le c.stripe_length.result group.shards.items long)
          ∙ sym c.content-content.ensures,
      subst (λ (o : Origin). length group.shards.items ≡ shard_total o * o.size) c.in_ok-group.ensures.of group.whole,
      c.in_ok-group.ensures.given,
      c.update.ensures,
      ap length c.content-content.ensures ∙ length-take-le c.stripe_length.result group.shards.items long ∙ c.stripe_length.ensures,
      λ files content whole held gives same.
          c.content-content.ensures
          ∙ ap₂ (λ (n : ℕ) (l : List ℕ). take n l) (c.stripe_length.ensures ∙ sym same) (c.in_ok-group.ensures.restored files content whole held gives)
          ∙ gives.split.begins,
    )

pub returns-in_err-group-clause-granted : goal.returns-in_err-group-clause-granted
returns-in_err-group-clause-granted g c =
    λ files whole held gives.
    let error = err_from_is_err_and c.from_residual.result c.from_residual.ensures.1 in
    rw (error.1, error.2) (inr (c.in_err-group.ensures.granted files whole held gives))
