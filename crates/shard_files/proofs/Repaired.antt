-- The bytes of a stripe that was restored are the first of its shards.
use Rattle.std.proofs.Common.{◌≡◌, ℕ, ◌*◌, List, length, take, sym, ◌∙◌, ap, subst, arith}
use Rattle.std.proofs.lemmas.List.{length-take-le}
use Rattle.shard_files.specs.Splits.{BeginWith}
use Rattle.shard_files.specs.Stripes.{shard_total, stripe_length}
use Rattle.shard_files.specs.declared.head.Origin.{Origin}
use Rattle.shard_files.proofs.Positions.{stripe_room}

-- by a group whose origin is known
module _ (origin own : Origin) (same : own ≡ origin) (stripe : ℕ) (bytes whole : List ℕ) (long : length whole ≡ shard_total own * own.size)
    (is : bytes ≡ take (stripe_length own stripe) whole)
  where
    pub all_long : length whole ≡ shard_total origin * origin.size
    all_long = subst (λ (o : Origin). length whole ≡ shard_total o * o.size) same long

    pub first_bytes : bytes ≡ take (stripe_length origin stripe) whole
    first_bytes = subst (λ (o : Origin). bytes ≡ take (stripe_length o stripe) whole) same is

    pub first_long : length bytes ≡ stripe_length origin stripe
    first_long = ap length first_bytes ∙ length-take-le (stripe_length origin stripe) whole (omega (arith, stripe_room origin stripe, all_long))

    pub begin_with : BeginWith bytes whole
    begin_with = ap (λ (n : ℕ). take n whole) first_long ∙ sym first_bytes
