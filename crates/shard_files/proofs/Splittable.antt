-- Which files have a layout.
use Rattle.std.proofs.Common.{◌≡◌, ◌≢◌, ◌↔◌, inl, inr, ℕ, ◌+◌, ◌%◌, ◌^◌, ◌≤◌, refl, sym, subst, arith}
use Rattle.std.proofs.lemmas.Bool.{cases_eq, cases_lt}
use Rattle.shard_files.specs.Codes.{HasCode}
use Rattle.shard_files.specs.Stripes.{IsPossible, IsSplittable, even_size}
use Rattle.shard_files.specs.declared.head.Origin.{Origin}
use Rattle.shard_files.proofs.Sizes.{even_small, even_some}

-- no code has more shards than its field has points
few_shards : (code k m size : ℕ) → HasCode code k m size → k + m ≤ 65536
few_shards code k m size has =
    elim (cases_lt code 2) [
      | inl one ↦ let few = has.matrix (omega (arith, one, has.first)) in omega (arith, few)
      | inr two ↦
          elim (cases_lt 65536 (k + m)) [
            | inl many ↦ absurd (has.transform (omega (arith, two, has.last)) (λ n wide. let points : 2 ^ 2 ^ 4 ≡ 65536 = refl in omega (arith, points, many, wide)))
            | inr few ↦ few
          ]
    ]

-- of whole words there is the same code in stripes of each size
other_size : (code k m size other : ℕ) → (code ≡ 2 → other % 2 ≡ 0) → HasCode code k m size → HasCode code k m other
other_size code k m size other even has = record {
  first = has.first;
  last = has.last;
  matrix = has.matrix;
  transform = has.transform;
  whole_words = even;
}

-- the layout of a file is possible where the file can be split
pub splittable : {P : Type 0} (origin : Origin) (code k m bytes : ℕ)
    → (origin.code ≡ code) × (origin.data_shards ≡ k) × (origin.parity_shards ≡ m) → origin.length ≡ bytes
    → (code ≢ 2 → origin.size ≡ even_size k (k + m) bytes)
    × (code ≡ 2 → origin.size ≡ even_size k (k + m) bytes + even_size k (k + m) bytes % 2)
    → (code ≡ 2 → origin.size % 2 ≡ 0) → P ↔ IsPossible origin → P ↔ IsSplittable code k m bytes
splittable {P} origin code k m bytes counts long size even tells = (λ p. split (tells.0 p), λ can. tells.1 (possible can))
  where
    own : HasCode origin.code origin.data_shards origin.parity_shards origin.size → HasCode code k m origin.size
    own has =
        subst (λ (n : ℕ). HasCode n k m origin.size) counts.0
        (subst (λ (n : ℕ). HasCode origin.code n m origin.size) counts.1
        (subst (λ (n : ℕ). HasCode origin.code origin.data_shards n origin.size) counts.2 has))

    named : HasCode code k m origin.size → HasCode origin.code origin.data_shards origin.parity_shards origin.size
    named has =
        subst (λ (n : ℕ). HasCode n origin.data_shards origin.parity_shards origin.size) (sym counts.0)
        (subst (λ (n : ℕ). HasCode code n origin.parity_shards origin.size) (sym counts.1)
        (subst (λ (n : ℕ). HasCode code k n origin.size) (sym counts.2) has))

    split : IsPossible origin → IsSplittable code k m bytes
    split is = (
      omega (arith, is.some_data, counts.1),
      omega (arith, is.some_parity, counts.2),
      other_size code k m origin.size 2 (λ same. refl) (own is.has_code),
      omega (arith, is.small_length, long),
    )

    least : 1 ≤ even_size k (k + m) bytes
    least = even_some k (k + m) bytes

    most : even_size k (k + m) bytes ≤ 2 ^ 24
    most = even_small k (k + m) bytes

    sized : (1 ≤ origin.size) × (origin.size ≤ 2 ^ 24)
    sized =
        elim (cases_eq code 2) [
          | inl words ↦ let is = size.1 words in (omega (arith, is, least), omega (arith, is, most))
          | inr other ↦ let is = size.0 other in (omega (arith, is, least), omega (arith, is, most))
        ]

    possible : IsSplittable code k m bytes → IsPossible origin
    possible can =
        let few = few_shards code k m 2 can.2 in
        record {
          some_data = omega (arith, can.0, counts.1);
          some_parity = omega (arith, can.1, counts.2);
          has_code = named (other_size code k m 2 origin.size even can.2);
          few = omega (arith, few, counts.1, counts.2);
          some_size = sized.0;
          small_size = sized.1;
          small_length = omega (arith, can.3, long);
        }
