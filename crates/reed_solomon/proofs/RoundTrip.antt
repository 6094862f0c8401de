-- Lost shards of codewords return.
use Rattle.std.proofs.Common.{◌≡◌, inl, inr, ℕ, zero, suc, ◌+◌, ◌*◌, ◌/◌, ◌%◌, ◌<◌, ◌≤◌, Bool, false, List, length, get_or, take, set, replicate, refl, sym, ◌∙◌, ap, subst, arith, lit<}
use Rattle.std.proofs.lemmas.Bool.{true≢false, cases_Bool, cases_lt}
use Rattle.std.proofs.lemmas.List.{ext_get_or, length-set, length-replicate}
use Rattle.std.proofs.lemmas.Nat.{div-add-mod', div_below}
use Rattle.std.proofs.Math.Seq.{take-length}
use native.Mathlib.Nat.{mod-lt}
use Rattle.field_base.proofs.Codewords.{codeword_is_unique}
use Rattle.reed_solomon.specs.ByteFields.{byte_times}
use Rattle.reed_solomon.specs.declared.byte_field.ByteField.TheVariants.{Qr}
use Rattle.reed_solomon.specs.RoundTrip.{ChangesAreSeen, LostShardsReturn}
use Rattle.reed_solomon.specs.Samples.{IsSample}
use Rattle.reed_solomon.specs.Shards.{present_count, shard_byte}
use Rattle.reed_solomon.proofs.ByteFields.{erasure_field}
use Rattle.reed_solomon.proofs.Samples.{no_sample, sample-absent, sample-full, sample-taken, sample_distinct}

-- the first `seen` flags have a sample, with room for the next place
record Sampled (k : ℕ) (present : List Bool) (seen : ℕ) : Type 0 where
  places : List ℕ
  count : ℕ
  sample : IsSample k present seen places count
  few : count ≤ seen
  long : length places ≡ length present

sampled : (k : ℕ) (present : List Bool) (seen : ℕ) → seen ≤ length present → Sampled k present seen
sampled k present zero within =
    record {
      places = replicate (length present) 0;
      count = 0;
      sample = no_sample k present (replicate (length present) 0);
      few = omega arith;
      long = length-replicate (length present) 0;
    }
sampled k present (suc seen) within =
    subst (Sampled k present) (next seen) (step (sampled k present seen (omega (arith, within))))
  where
    next : (n : ℕ) → n + 1 ≡ suc n
    next n = omega arith

    step : Sampled k present seen → Sampled k present (seen + 1)
    step s =
        elim (cases_Bool (get_or present seen false)) [
          | inl here ↦ elim (cases_lt s.count k) [
            | inl room ↦
                record {
                  places = set s.places s.count seen;
                  count = s.count + 1;
                  sample = sample-taken k present seen s.places s.count s.sample (omega (arith, within)) here room (roomy s.count s.places s.few s.long);
                  few = more s.count s.few;
                  long = length-set s.places s.count seen ∙ s.long;
                }
            | inr full ↦
                record {
                  places = s.places;
                  count = s.count;
                  sample = sample-full k present seen s.places s.count s.sample (omega (arith, within)) here full;
                  few = kept s.count s.few;
                  long = s.long;
                }
          ]
          | inr absent ↦
              record {
                places = s.places;
                count = s.count;
                sample = sample-absent k present seen s.places s.count s.sample (omega (arith, within)) absent;
                few = kept s.count s.few;
                long = s.long;
              }
        ]
      where
        roomy : (count : ℕ) (places : List ℕ) → count ≤ seen → length places ≡ length present → count < length places
        roomy count places few long = omega (arith, few, long, within)

        more : (count : ℕ) → count ≤ seen → count + 1 ≤ seen + 1
        more count few = omega (arith, few)

        kept : (count : ℕ) → count ≤ seen → count ≤ seen + 1
        kept count few = omega (arith, few)

-- shards with a byte have a size
positive : (total size n : ℕ) → n < total * size → 0 < size
positive total zero n below = absurd (omega (arith, below))
positive total (suc size) n below = omega arith

pub lost_shards_return : LostShardsReturn
lost_shards_return k total size present whole damaged restored fits flags enough whole_long restored_long words agree done =
    ext_get_or 0 restored whole (restored_long ∙ sym whole_long)
    (λ n below. by_place n (subst (λ (m : ℕ). n < m) restored_long below))
  where
    s : Sampled k present total
    s = sampled k present total (omega (arith, flags))

    all : s.count ≡ k
    all =
        elim (cases_lt s.count k) [
          | inl few ↦ absurd (contradiction few (s.sample.is_all few))
          | inr full ↦ exact full s.sample.at_most
        ]
      where
        contradiction : s.count < k → s.count ≡ present_count (take total present) → ⊥
        contradiction few is =
            let same : present_count (take total present) ≡ present_count present =
            ap present_count (ap (λ (n : ℕ). take n present) (sym flags) ∙ take-length present) in
            absurd (omega (arith, few, is, same, enough))

        exact : k ≤ s.count → s.count ≤ k → s.count ≡ k
        exact low high = omega (arith, low, high)

    sample : IsSample k present total s.places k
    sample = subst (λ (n : ℕ). IsSample k present total s.places n) all s.sample

    column_is : (i column : ℕ) → i < total → column < size → shard_byte size restored i column ≡ shard_byte size whole i column
    column_is i column within inside =
        elim (cases_Bool (get_or present i false)) [
          | inl here ↦ done.keeps i column within inside (inl here) ∙ agree i column within inside here
          | inr absent ↦ (done.restores column inside).missing i within (λ here. absurd (true≢false (sym here ∙ absent)))
              ∙ codeword_is_unique 8 (byte_times Qr) k total (λ j. get_or s.places j 0) (done.restores column inside).word
              (λ p. shard_byte size whole p column) (lit< tt) erasure_field fits
              (sample_distinct k present total s.places k total sample (omega arith)) (done.restores column inside).is_codeword (words column inside)
              (λ j below.
              sym ((done.restores column inside).agrees (get_or s.places j 0) (sample.inside j below)
              (sample.is_present j below, subst (λ (n : ℕ). n < k) (sym (sample.number j below)) below))
              ∙ agree (get_or s.places j 0) column (sample.inside j below) inside (sample.is_present j below))
              i within
        ]

    by_place : (n : ℕ) → n < total * size → get_or restored n 0 ≡ get_or whole n 0
    by_place n below =
        let wide : 0 < size = positive total size n below in
        subst (λ (m : ℕ). get_or restored m 0 ≡ get_or whole m 0) (div-add-mod' n size)
        (column_is (n / size) (n % size) (div_below n size total wide below) (mod-lt n wide))

-- codewords are restored from themselves, whatever shards are at hand
pub changes_are_seen : ChangesAreSeen
changes_are_seen k total size present whole changed fits flags enough whole_long changed_long words agree changed_words =
    lost_shards_return k total size present whole changed changed fits flags enough whole_long changed_long words agree
    record {
      keeps = λ i column within inside at. refl;
      restores = λ column inside.
          record {
            word = λ p. shard_byte size changed p column;
            is_codeword = changed_words column inside;
            agrees = λ i within first. refl;
            missing = λ i below absent. refl;
          };
    }
