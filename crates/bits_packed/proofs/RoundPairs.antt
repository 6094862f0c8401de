-- A round of a transposition in one pair of rows.
use Rattle.std.proofs.Common.{◌≡◌, ℕ, ◌+◌, ◌*◌, ◌/◌, ◌%◌, ◌<◌, ◌-◌, List, length, get_or, map, set, sym, ap, ap₂, ◌∙◌, arith, subst, inl, inr, ◌⊎◌, get_or-set_same, get_or-set_other}
use Rattle.std.specs.Int.{bit_at}
use Rattle.std.proofs.lemmas.List.{get_or-map, length-map, length-set, map-set}
use Rattle.packed_lanes.specs.Parts.{HasFirstBlocks, HasSecondBlocks}
use Rattle.packed_lanes.proofs.BlockPlaces.{even_mixed, mixed, next_quotient, odd_is_above, odd_mixed, same_mixed}
use Rattle.packed_lanes.proofs.BlockLemmas.{even_has_room}
use Rattle.bits_packed.specs.Rounds.{IsMixed, IsPairInterleaved}

-- a number is even or odd
parity : (a : ℕ) → (a % 2 ≡ 0) ⊎ (a % 2 ≡ 1)
parity a = grind arith

-- after an even block comes an odd one
next_parity_odd : (s i : ℕ) → 0 < s → i / s % 2 ≡ 0 → (i + s) / s % 2 ≡ 1
next_parity_odd s i some even = let next = next_quotient s i some in omega arith

-- a bit of a row, at an equal row and an equal lane
place : (old : List ℕ) (a b c d : ℕ) → a ≡ c → b ≡ d → bit_at (get_or old a 0) b ≡ bit_at (get_or old c 0) d
place old a b c d first second = ap₂ (λ (x y : ℕ). bit_at (get_or old x 0) y) first second

-- s + s = 2 s
twice : (s : ℕ) → s + s ≡ 2 * s
twice s = omega arith

-- the upper row of a pair after its round
pub upper_mixed : (width s r x y z : ℕ) (old : List ℕ) → 0 < s → r / s % 2 ≡ 0
    → IsMixed width s old r x → IsMixed width s old (r + s) y → HasFirstBlocks width s x y z → IsMixed width (2 * s) old r z
upper_mixed width s r x y z old some even upper lower first = subst (λ (t : ℕ). IsMixed width t old r z) (twice s) at
  where
    at : IsMixed width (s + s) old r z
    at j lane = cases (parity (j / s))
      where
        cases : (j / s % 2 ≡ 0) ⊎ (j / s % 2 ≡ 1) → bit_at z j ≡ bit_at (get_or old (mixed (s + s) r j) 0) (mixed (s + s) j r)
        cases (inl also) =
            (first j lane).0 also ∙ upper j lane
            ∙ place old (mixed s r j) (mixed s j r) (mixed (s + s) r j) (mixed (s + s) j r) (same_mixed s r j some (even ∙ sym also)) (same_mixed s j r some (also ∙ sym even))
        cases (inr odd) =
            let above = odd_is_above s j some odd in
            (first j lane).1 odd ∙ lower (j - s) (omega arith)
            ∙ place old (mixed s (r + s) (j - s)) (mixed s (j - s) (r + s)) (mixed (s + s) r j) (mixed (s + s) j r) (even_mixed s r j some even odd above) (odd_mixed s j r some odd even above)

-- the lower row of a pair after its round
pub lower_mixed : (width q s r x y z : ℕ) (old : List ℕ) → 0 < s → width ≡ q * (2 * s) → r / s % 2 ≡ 0
    → IsMixed width s old r x → IsMixed width s old (r + s) y → HasSecondBlocks width s x y z → IsMixed width (2 * s) old (r + s) z
lower_mixed width q s r x y z old some is even upper lower second = subst (λ (t : ℕ). IsMixed width t old (r + s) z) (twice s) at
  where
    next : (r + s) / s % 2 ≡ 1
    next = next_parity_odd s r some even

    back : r + s - s ≡ r
    back = omega arith

    at : IsMixed width (s + s) old (r + s) z
    at j lane = cases (parity (j / s))
      where
        cases : (j / s % 2 ≡ 0) ⊎ (j / s % 2 ≡ 1) → bit_at z j ≡ bit_at (get_or old (mixed (s + s) (r + s) j) 0) (mixed (s + s) j (r + s))
        cases (inl also) =
            (second j lane).0 also ∙ upper (j + s) (even_has_room width q s j some is lane also)
            ∙ place old (mixed s r (j + s)) (mixed s (j + s) r) (mixed (s + s) (r + s) j) (mixed (s + s) j (r + s))
            (ap (λ (a : ℕ). mixed s a (j + s)) (sym back) ∙ odd_mixed s (r + s) j some next also (omega arith))
            (ap (λ (a : ℕ). mixed s (j + s) a) (sym back) ∙ even_mixed s j (r + s) some also next (omega arith))
        cases (inr odd) =
            (second j lane).1 odd ∙ lower j lane
            ∙ place old (mixed s (r + s) j) (mixed s j (r + s)) (mixed (s + s) (r + s) j) (mixed (s + s) j (r + s)) (same_mixed s (r + s) j some (next ∙ sym odd)) (same_mixed s j (r + s) some (odd ∙ sym next))

-- ---- a pair is written

-- writing both results of interleaving two rows in their places interleaves that pair
pair_set : (width s n x y : ℕ) (now : List ℕ) → 0 < s → length now ≡ width → n + s < width
    → HasFirstBlocks width s (get_or now n 0) (get_or now (n + s) 0) x
    → HasSecondBlocks width s (get_or now n 0) (get_or now (n + s) 0) y
    → IsPairInterleaved width s n now (set (set now n x) (n + s) y)
pair_set width s n x y now some long room first second = record {
  first = subst (HasFirstBlocks width s (get_or now n 0) (get_or now (n + s) 0)) (sym at_left) first;
  second = subst (HasSecondBlocks width s (get_or now n 0) (get_or now (n + s) 0)) (sym at_right) second;
  others = λ r a b. get_or-set_other (set now n x) (n + s) r y 0 b ∙ get_or-set_other now n r x 0 a;
}
  where
    at_left : get_or (set (set now n x) (n + s) y) n 0 ≡ x
    at_left =
        get_or-set_other (set now n x) (n + s) n y 0 (λ is. absurd (omega arith))
        ∙ get_or-set_same now n x 0 (omega arith)

    at_right : get_or (set (set now n x) (n + s) y) (n + s) 0 ≡ y
    at_right = let kept = length-set now n x in get_or-set_same (set now n x) (n + s) y 0 (omega arith)

-- pair_set, for rows that stand for numbers
pub pair_written : {A : Type 0} (rows : List A) (num : A → ℕ) (width s n : ℕ) (a b x y : A)
    → 0 < s → length rows ≡ width → n + s < width
    → a ≡ get_or rows n a → b ≡ get_or rows (n + s) b
    → HasFirstBlocks width s (num a) (num b) (num x) → HasSecondBlocks width s (num a) (num b) (num y)
    → IsPairInterleaved width s n (map num rows) (map num (set (set rows n x) (n + s) y))
pair_written rows num width s n a b x y some long less at_n at_m first second =
    let upper : get_or (map num rows) n 0 ≡ num a = get_or-map num rows n a 0 (omega arith) ∙ ap num (sym at_n) in
    let lower : get_or (map num rows) (n + s) 0 ≡ num b = get_or-map num rows (n + s) b 0 (omega arith) ∙ ap num (sym at_m) in
    let numbers : map num (set (set rows n x) (n + s) y) ≡ set (set (map num rows) n (num x)) (n + s) (num y) =
    map-set num (set rows n x) (n + s) y ∙ ap (λ (z : List ℕ). set z (n + s) (num y)) (map-set num rows n x) in
    subst (IsPairInterleaved width s n (map num rows)) (sym numbers)
    (pair_set width s n (num x) (num y) (map num rows) some (length-map rows num ∙ long) less
    (subst (λ (z : ℕ). HasFirstBlocks width s z (get_or (map num rows) (n + s) 0) (num x)) (sym upper)
    (subst (λ (z : ℕ). HasFirstBlocks width s (num a) z (num x)) (sym lower) first))
    (subst (λ (z : ℕ). HasSecondBlocks width s z (get_or (map num rows) (n + s) 0) (num y)) (sym upper)
    (subst (λ (z : ℕ). HasSecondBlocks width s (num a) z (num y)) (sym lower) second)))
