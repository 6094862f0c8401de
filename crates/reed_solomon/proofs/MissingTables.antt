-- Tables of the missing shards that are kept: the lists of shards at hand and of missing ones that two calls make agree.
use Rattle.std.proofs.Common.{◌≡◌, inl, inr, ℕ, zero, suc, ◌+◌, ◌-◌, ◌*◌, ◌/◌, ◌%◌, ◌<◌, ◌≤◌, Bool, true, false, List, length, get_or, take, drop, refl, sym, ◌∙◌, ap, arith}
use Rattle.std.proofs.lemmas.Bool.{cases_lt}
use Rattle.std.proofs.lemmas.List.{length-take}
use Rattle.std.proofs.lemmas.List.Sums.{count_by-le-length, count_by_more_yes, count_by_more_no}
use Rattle.field_base.specs.Interpolation.{lagrange}
use Rattle.reed_solomon.specs.ByteFields.{byte_times}
use Rattle.reed_solomon.specs.declared.byte_field.ByteField.TheVariants.{Qr}
use Rattle.reed_solomon.specs.Missing.{AreMissing, HaveMissingTables}
use Rattle.reed_solomon.specs.Samples.{IsSample}
use Rattle.reed_solomon.specs.Shards.{present_count}
use Rattle.reed_solomon.specs.Tables.{HaveRows}
use Rattle.reed_solomon.proofs.GroupWriting.{row_factors}
use Rattle.reed_solomon.proofs.ParityWords.{lagrange-same}

-- ---- how many are missing

-- a flag more is at most one shard more at hand
present_grows : (present : List Bool) (from more : ℕ) → from + more ≤ length present
    → present_count (take (from + more) present) ≤ present_count (take from present) + more
present_grows present from zero fits =
    let none : from + 0 ≡ from = omega arith in
    let same = ap (λ (n : ℕ). present_count (take n present)) none in
    omega (arith, same)
present_grows present from (suc more) fits =
    let next : from + suc more ≡ from + more + 1 = omega arith in
    let same = ap (λ (n : ℕ). present_count (take n present)) next in
    let before = present_grows present from more (omega (arith, fits)) in
    let step = one_flag (get_or present (from + more) false) refl in
    omega (arith, same, before, step)
  where
    one_flag : (flag : Bool) → get_or present (from + more) false ≡ flag
        → present_count (take (from + more + 1) present) ≤ present_count (take (from + more) present) + 1
    one_flag true here = let more_by = count_by_more_yes (λ is_present. is_present) present (from + more) false (omega (arith, fits)) here in omega (arith, more_by)
    one_flag false absent = let as_many = count_by_more_no (λ is_present. is_present) present (from + more) false (omega (arith, fits)) absent in omega (arith, as_many)

-- a sample has no more shards than there are
pub sample_within : (k total : ℕ) (present : List Bool) (places : List ℕ) (count : ℕ) → IsSample k present total places count → count ≤ total
sample_within k total present places count sample =
    let at_hand = sample.counted in
    let most = count_by-le-length (λ is_present. is_present) (take total present) in
    let taken = length-take total present in
    omega (arith, at_hand, most, taken)

-- no more shards are missing than there are of parity, where as many are at hand as there are of data
pub missing_few : (k m until missing count : ℕ) (present : List Bool) (places targets : List ℕ) → length present ≡ k + m → until ≤ length present
    → k ≤ count → IsSample k present (length present) places count → AreMissing present until targets missing → missing ≤ m
missing_few k m until missing count present places targets long inside enough sample list =
    let whole : until + (length present - until) ≡ length present = omega (arith, inside) in
    let grows = present_grows present until (length present - until) (omega (arith, inside)) in
    let same = ap (λ (n : ℕ). present_count (take n present)) whole in
    let at_hand = sample.counted in
    let counted = list.counted in
    omega (arith, grows, same, at_hand, counted, long, enough, inside)

-- ---- the lists agree

-- the places of a sample are told by the flags
sample_same : (k count other seen : ℕ) (present : List Bool) (places others : List ℕ) → IsSample k present seen places count
    → IsSample k present seen others other → (j : ℕ) → j < count → count ≤ k → get_or others j 0 ≡ get_or places j 0
sample_same k count other seen present places others sample second j below most =
    let number = sample.number j below in
    ap (λ (n : ℕ). get_or others n 0) (sym number)
    ∙ (second.covers (get_or places j 0) (sample.inside j below) (sample.is_present j below, omega (arith, number, below, most))).1

-- and so are those of the missing shards
module _ (present : List Bool) (until total count all : ℕ) (places targets : List ℕ) (fits : until ≤ total) (few : AreMissing present until places count)
    (list : AreMissing present total targets all) where
  abbrev Agree : ℕ → Type 0
  Agree t = (t < all) × (get_or targets t 0 ≡ get_or places t 0)

  agree_next : (t : ℕ) → t < count → ((s : ℕ) → s < t → Agree s) → Agree t
  agree_next t below before =
      let within = few.inside t below in
      let found = list.covers (get_or places t 0) (omega (arith, within, fits)) (few.absent t below) in
      let reached : t ≤ found.0 = not_before found.0 found.1 found.2 in
      let inside : t < all = omega (arith, reached, found.1) in
      let at_most : get_or targets t 0 ≤ get_or places t 0 = up_to found.0 reached found.1 found.2 in
      let back = few.covers (get_or targets t 0) (omega (arith, at_most, within)) (list.absent t inside) in
      (inside, omega (arith, at_most, at_least inside back.0 back.1 back.2))
    where
      not_before : (u : ℕ) → u < all → get_or targets u 0 ≡ get_or places t 0 → t ≤ u
      not_before u u_below is =
          elim (cases_lt u t) [
            | inl early ↦
                let same = (before u early).1 in
                let less = few.rising u t early below in
                absurd (omega (arith, same, less, is))
            | inr late ↦ late
          ]

      up_to : (u : ℕ) → t ≤ u → u < all → get_or targets u 0 ≡ get_or places t 0 → get_or targets t 0 ≤ get_or places t 0
      up_to u reached u_below is =
          elim (cases_lt t u) [
            | inl less ↦ let rising = list.rising t u less u_below in omega (arith, rising, is)
            | inr up ↦
                let same : t ≡ u = omega (arith, up, reached) in
                let at = ap (λ (n : ℕ). get_or targets n 0) same in
                omega (arith, at, is)
          ]

      at_least : t < all → (s : ℕ) → s < count → get_or places s 0 ≡ get_or targets t 0 → get_or places t 0 ≤ get_or targets t 0
      at_least inside s s_below is =
          elim (cases_lt s t) [
            | inl early ↦
                let same = (before s early).1 in
                let less = list.rising s t early inside in
                absurd (omega (arith, same, less, is))
            | inr late ↦ elim (cases_lt t s) [
              | inl less ↦ let rising = few.rising t s less s_below in omega (arith, rising, is)
              | inr up ↦
                  let same : t ≡ s = omega (arith, up, late) in
                  let at = ap (λ (n : ℕ). get_or places n 0) same in
                  omega (arith, at, is)
            ]
          ]

  agree_before : (n t : ℕ) → t < n → t < count → Agree t
  agree_before zero t less below = absurd (omega (arith, less))
  agree_before (suc n) t less below =
      agree_next t below (λ s early. agree_before n s (omega (arith, early, less)) (omega (arith, early, below)))

  missing_same : (t : ℕ) → t < count → Agree t
  missing_same t below = agree_before (t + 1) t (omega arith) below

-- so the tables that were made by the one are those of the other
pub tables_agree : (k total until missing : ℕ) (present : List Bool) (places targets tables : List ℕ) → until ≤ total
    → IsSample k present total places k → AreMissing present until targets missing → HaveMissingTables k total present tables
    → HaveRows (λ t j. lagrange 8 (byte_times Qr) (λ i. get_or places i 0) k j (get_or targets t 0)) k missing tables
tables_agree k total until missing present places targets tables fits sample list all t below =
    row_factors (λ j. lagrange 8 (byte_times Qr) (λ i. get_or all.places i 0) k j (get_or all.targets t 0))
    (λ j. lagrange 8 (byte_times Qr) (λ i. get_or places i 0) k j (get_or targets t 0)) (drop (128 * k * (t / 4)) tables) (t % 4) k
    (all.rows t agrees.0)
    (λ j inside.
    lagrange-same k j (get_or all.targets t 0) (λ i. get_or all.places i 0) (λ i. get_or places i 0) inside
    (λ i within. sample_same k k k total present places all.places sample all.sample i within (omega arith))
    ∙ ap (lagrange 8 (byte_times Qr) (λ i. get_or places i 0) k j) agrees.1)
  where
    agrees : (t < all.missing) × (get_or all.targets t 0 ≡ get_or targets t 0)
    agrees = missing_same present until total missing all.missing targets all.targets fits list all.lost t below
