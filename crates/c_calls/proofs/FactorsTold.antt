-- The factors of the shards of a code alone, out of those of as many as any code has.
use Rattle.std.proofs.Common.{◌≡◌, inl, inr, ℕ, Bool, List, get_or, take, sym, ◌∙◌, ap, subst, arith}
use Rattle.std.proofs.lemmas.Bool.{cases_lt}
use Rattle.std.proofs.lemmas.List.{get_or-take, get_or_past, length-take}
use Rattle.field_base.proofs.BasisSums.{sum_below-same}
use Rattle.reed_solomon.specs.Adding.{MakeShard}
use Rattle.reed_solomon.specs.ByteFields.{byte_times}
use Rattle.reed_solomon.specs.declared.byte_field.ByteField.TheVariants.{Qr}

-- those of shards that are none are not read
made_by_first : (k total : ℕ) (present : List Bool) (shard : ℕ) (found : List ℕ) → MakeShard k total present shard found
    → MakeShard k total present shard (take total found)
made_by_first k total present shard found made =
    record {
      others = λ i other.
          elim (cases_lt i total) [
            | inl below ↦ get_or-take total found i 0 below ∙ made.others i other
            | inr past ↦ get_or_past (take total found) i 0 (omega (arith, past, length-take total found))
          ];
      sums = λ symbol word bytes.
          made.sums symbol word bytes
          ∙ sum_below-same (λ i. byte_times Qr (get_or found i 0) (symbol i)) (λ i. byte_times Qr (get_or (take total found) i 0) (symbol i)) total
          (λ i below. ap (λ (f : ℕ). byte_times Qr f (symbol i)) (sym (get_or-take total found i 0 below)));
    }

-- the same by other names of the counts, the flags and the factors
pub factors_told : (k parts total all : ℕ) (seen present : List Bool) (shard : ℕ) (found new : List ℕ) → k ≡ parts → total ≡ all → seen ≡ present
    → new ≡ take all found → MakeShard k total seen shard found → MakeShard parts all present shard new
factors_told k parts total all seen present shard found new of_k of_total of_seen of_new made =
    subst (λ (n : ℕ). MakeShard n all present shard new) of_k
    (subst (λ (flags : List Bool). MakeShard k all flags shard new) of_seen
    (subst (MakeShard k all seen shard) (sym of_new)
    (made_by_first k all seen shard found (subst (λ (n : ℕ). MakeShard k n seen shard found) of_total made))))
