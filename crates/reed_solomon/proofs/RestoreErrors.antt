-- Why shards are not restored: the first that applies.
use Rattle.std.proofs.Common.{◌≡◌, ℕ, ◌<◌, ◌≤◌, Bool, List, length, take, refl, sym, ◌∙◌, ap, subst, arith}
use Rattle.std.specs.Prelude.{Option}
use Rattle.std.specs.declared.vec.Vec.{Vec}
use Rattle.reed_solomon.specs.Shards.{present_count}
use Rattle.reed_solomon.specs.ShardVectors.{CanRestore, HaveSize, RestoreError, first_size, shard_flags}
use Rattle.reed_solomon.specs.declared.shard_vectors.error.ShardVectorError.TheVariants.{TooFewShards, TooManyShards, IncorrectShardSize, TooFewShardsPresent, EmptyShard, Memory}

module _ {Z : Type 0} (k total : ℕ) (shards : List (Option (Vec ℕ Z))) where
  pub fewer : length shards < total → RestoreError k total shards TooFewShards
  fewer less =
      record {
        few = λ _. refl;
        many = λ more. absurd (omega (arith, less, more));
        sizes = λ same _. absurd (omega (arith, less, same));
        present = λ same _ _. absurd (omega (arith, less, same));
        empty = λ same _ _ _. absurd (omega (arith, less, same));
        memory = λ can. absurd (omega (arith, less, can.count));
      }

  pub more : total < length shards → RestoreError k total shards TooManyShards
  more above =
      record {
        few = λ less. absurd (omega (arith, less, above));
        many = λ _. refl;
        sizes = λ same _. absurd (omega (arith, above, same));
        present = λ same _ _. absurd (omega (arith, above, same));
        empty = λ same _ _ _. absurd (omega (arith, above, same));
        memory = λ can. absurd (omega (arith, above, can.count));
      }

  -- as many shards as the code has
  module _ (long : length shards ≡ total) where
    pub unequal : (HaveSize (first_size shards) shards → ⊥) → RestoreError k total shards IncorrectShardSize
    unequal other =
        record {
          few = λ less. absurd (omega (arith, less, long));
          many = λ above. absurd (omega (arith, above, long));
          sizes = λ _ _. refl;
          present = λ _ sized _. absurd (other sized);
          empty = λ _ sized _ _. absurd (other sized);
          memory = λ can. absurd (other can.sizes);
        }

    -- of one size
    module _ (sized : HaveSize (first_size shards) shards) where
      pub lost : present_count (shard_flags shards) < k → RestoreError k total shards TooFewShardsPresent
      lost few =
          record {
            few = λ less. absurd (omega (arith, less, long));
            many = λ above. absurd (omega (arith, above, long));
            sizes = λ _ other. absurd (other sized);
            present = λ _ _ _. refl;
            empty = λ _ _ enough _. absurd (omega (arith, few, enough));
            memory = λ can. absurd (omega (arith, few, can.enough));
          }

      pub no_bytes : k ≤ present_count (shard_flags shards) → first_size shards ≡ 0 → RestoreError k total shards EmptyShard
      no_bytes enough none =
          record {
            few = λ less. absurd (omega (arith, less, long));
            many = λ above. absurd (omega (arith, above, long));
            sizes = λ _ other. absurd (other sized);
            present = λ _ _ few. absurd (omega (arith, few, enough));
            empty = λ _ _ _ _. refl;
            memory = λ can. absurd (can.some none);
          }

  pub refused : CanRestore k total shards → RestoreError k total shards Memory
  refused can =
      record {
        few = λ less. absurd (omega (arith, less, can.count));
        many = λ above. absurd (omega (arith, above, can.count));
        sizes = λ _ other. absurd (other can.sizes);
        present = λ _ _ few. absurd (omega (arith, few, can.enough));
        empty = λ _ _ _ none. absurd (can.some none);
        memory = λ _. refl;
      }

-- what was looked at: as many shards as the code has, of one size, and the flags of those that are there
module _ {Z : Type 0} (k total : ℕ) (shards : List (Option (Vec ℕ Z))) (counted size : ℕ) (flags : List Bool) (counted_is : counted ≡ total)
    (long : length shards ≡ total) (size_is : size ≡ first_size shards) (sized : HaveSize size shards)
    (flags_are : take (length shards) flags ≡ shard_flags shards)
  where
    pub seen_flags : take counted flags ≡ shard_flags shards
    seen_flags = ap (λ (n : ℕ). take n flags) (counted_is ∙ sym long) ∙ flags_are

    seen_sized : HaveSize (first_size shards) shards
    seen_sized = subst (λ (n : ℕ). HaveSize n shards) size_is sized

    pub seen_lost : present_count (take counted flags) < k → RestoreError k total shards TooFewShardsPresent
    seen_lost few = lost k total shards long seen_sized (subst (λ (l : List Bool). present_count l < k) seen_flags few)

    pub seen_empty : k ≤ present_count (take counted flags) → size ≡ 0 → RestoreError k total shards EmptyShard
    seen_empty enough none =
        no_bytes k total shards long seen_sized (subst (λ (l : List Bool). k ≤ present_count l) seen_flags enough) (sym size_is ∙ none)

    pub seen_whole : k ≤ present_count (take counted flags) → (size ≡ 0 → ⊥) → CanRestore k total shards
    seen_whole enough some =
        record {
          count = long;
          sizes = seen_sized;
          enough = subst (λ (l : List Bool). k ≤ present_count l) seen_flags enough;
          some = λ none. some (size_is ∙ none);
        }
