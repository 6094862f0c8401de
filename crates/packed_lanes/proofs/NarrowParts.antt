-- Narrow parts of a number as parts of its wider parts.
use Rattle.std.proofs.Common.{◌≡◌, ◌≢◌, ℕ, ◌+◌, ◌*◌, ◌/◌, ◌%◌, ◌^◌, ◌<◌, ◌≤◌, sym, ap, ap₂, ◌∙◌, arith, subst, inl, inr, ◌⊎◌}
use Rattle.std.specs.Int.{bit_at}
use Rattle.std.proofs.lemmas.Bool.{cases_eq, cases_lt}
use Rattle.std.proofs.lemmas.Nat.{div_below, mul-le}
use Rattle.std.proofs.Math.Pow.{pow_mono}
use Rattle.std.proofs.lemmas.Nat.Bits.{same_from_bits_below}
use native.Mathlib.Nat.{mod-lt}
use Rattle.field_base.specs.Chunks.{chunk}
use Rattle.field_base.proofs.ChunkLists.{chunk-lt}
use Rattle.packed_lanes.specs.Parts.{IsWithField, IsWithPart}
use Rattle.packed_lanes.proofs.BlockLemmas.{place-split, places_up}
use Rattle.packed_lanes.proofs.LaneLemmas.{lane-part, power_some}
use Rattle.packed_lanes.specs.Narrow.{Divides}

-- a place in part k of c parts lies among the places of them all
inside_parts : (w c k j : ℕ) → k < c → j < w → w * k + j < w * c
inside_parts w c k j less within = let up = places_up w k c less in omega (arith, up, within)

-- part k of part i, of which c make one, is part c * i + k
pub part_of_part : (w c n i k : ℕ) → k < c → chunk w k (chunk (w * c) i n) ≡ chunk w (c * i + k) n
part_of_part w c n i k less =
    same_from_bits_below w (chunk w k (chunk (w * c) i n)) (chunk w (c * i + k) n) (chunk-lt w k (chunk (w * c) i n))
    (chunk-lt w (c * i + k) n) each
  where
    each : (j : ℕ) → j < w → bit_at (chunk w k (chunk (w * c) i n)) j ≡ bit_at (chunk w (c * i + k) n) j
    each j within =
        let place : w * c * i + (w * k + j) ≡ w * (c * i + k) + j = grind arith in
        lane-part w (chunk (w * c) i n) k j within ∙ lane-part (w * c) n i (w * k + j) (inside_parts w c k j less within)
        ∙ ap (bit_at n) place ∙ sym (lane-part w n (c * i + k) j within)

-- a narrow word is a part of the word of the row in which it lies
pub part_in_word : (w c n index : ℕ) → 0 < c → chunk w (index % c) (chunk (w * c) (index / c) n) ≡ chunk w index n
part_in_word w c n index some =
    part_of_part w c n (index / c) (index % c) (mod-lt index some) ∙ ap (λ (p : ℕ). chunk w p n) (place-split c index)

-- the part of a word that a run of bits was written to is that run
written_part : (w c m word v x : ℕ) → v < 2 ^ w → IsWithField (w * c) (w * m) w word v x → chunk w m x ≡ v
written_part w c m word v x fits field =
    same_from_bits_below w (chunk w m x) v (chunk-lt w m x) fits (λ j less. lane-part w x m j less ∙ field.0 j less)

-- writing a run of bits to one part of a word keeps the other parts
other_part : (w c m k word v x : ℕ) → k < c → k ≢ m → IsWithField (w * c) (w * m) w word v x → chunk w k x ≡ chunk w k word
other_part w c m k word v x inside other field =
    same_from_bits_below w (chunk w k x) (chunk w k word) (chunk-lt w k x) (chunk-lt w k word)
    (λ j less. lane-part w x k j less ∙ cases j less (cases_lt k m) ∙ sym (lane-part w word k j less))
  where
    cases : (j : ℕ) → j < w → (k < m) ⊎ (m ≤ k) → bit_at x (w * k + j) ≡ bit_at word (w * k + j)
    cases j less (inl before) = field.1 (w * k + j) (inside_parts w m k j before less)
    cases j less (inr after) =
        let up = places_up w m k (grind arith) in
        field.2 (w * k + j) (omega (arith, up)) (inside_parts w c k j inside less)

-- a narrow word written in its word of the row
pub part_written : (w c count n index v x r : ℕ) → 0 < c → v < 2 ^ w
    → IsWithField (w * c) (w * (index % c)) w (chunk (w * c) (index / c) n) v x
    → IsWithPart (w * c) count n (index / c) x r → IsWithPart w (c * count) n index v r
part_written w c count n index v x r some fits field written = (
  sym (part_in_word w c r index some) ∙ ap (λ (z : ℕ). chunk w (index % c) z) written.0
      ∙ written_part w c (index % c) (chunk (w * c) (index / c) n) v x fits field,
  others,
)
  where
    others : (k : ℕ) → k < c * count → k ≢ index → chunk w k r ≡ chunk w k n
    others k inside other = sym (part_in_word w c r k some) ∙ cases (cases_eq (k / c) (index / c)) ∙ part_in_word w c n k some
      where
        same_place : k / c ≡ index / c → k % c ≡ index % c → k ≡ index
        same_place quotient remainder =
            let first = place-split c k in
            let second = place-split c index in
            let product : c * (k / c) ≡ c * (index / c) = ap (λ (z : ℕ). c * z) quotient in
            omega (arith, first, second, product, remainder)

        cases : (k / c ≡ index / c) ⊎ (k / c ≢ index / c)
            → chunk w (k % c) (chunk (w * c) (k / c) r) ≡ chunk w (k % c) (chunk (w * c) (k / c) n)
        cases (inl same) =
            ap (λ (z : ℕ). chunk w (k % c) (chunk (w * c) z r)) same ∙ ap (λ (z : ℕ). chunk w (k % c) z) written.0
            ∙ other_part w c (index % c) (k % c) (chunk (w * c) (index / c) n) v x (mod-lt k some)
            (λ remainder. other (same_place same remainder)) field
            ∙ ap (λ (z : ℕ). chunk w (k % c) (chunk (w * c) z n)) (sym same)
        cases (inr apart) =
            ap (λ (z : ℕ). chunk w (k % c) z)
            (written.1 (k / c) (div_below k c count some (subst (λ (z : ℕ). k < z) (omega arith) inside)) apart)

-- ---- sizes

-- a word is at least one narrow word
pub count_some : (w wide : ℕ) → 0 < wide → Divides w wide → 0 < wide / w
count_some w wide some divides = cases (cases_lt 0 (wide / w))
  where
    cases : (0 < wide / w) ⊎ (wide / w ≤ 0) → 0 < wide / w
    cases (inl more) = more
    cases (inr none) =
        let zero_count : wide / w ≡ 0 = omega (arith, none) in
        let nothing : wide ≡ w * 0 = divides ∙ ap (λ (z : ℕ). w * z) zero_count in
        absurd (omega (arith, nothing, some))

-- a narrow word of the row lies in one of its words
pub place_inside : (w c wide words bits index : ℕ) → 0 < c → wide ≡ w * c → bits ≡ wide * words → w * index < bits → index / c < words
place_inside w c wide words bits index some is all inside =
    div_below index c words some (subst (λ (z : ℕ). index < z) (omega arith) (cases (cases_lt index (c * words))))
  where
    total : bits ≡ w * (c * words)
    total = all ∙ ap (λ (z : ℕ). z * words) is ∙ (grind arith)

    cases : (index < c * words) ⊎ (c * words ≤ index) → index < c * words
    cases (inl less) = less
    cases (inr more) = let up = mul-le w (c * words) w index (omega arith) more in absurd (omega (arith, up, total, inside))

-- a narrow word fits in its word, from its first bit on
pub place_fits : (w c wide index : ℕ) → 0 < c → wide ≡ w * c → w * (index % c) + w ≤ wide
place_fits w c wide index some is = let up = places_up w (index % c) c (mod-lt index some) in omega (arith, up, is)

-- x and y are what the code has read as the bits of a word and of a narrow word
module _ (w wide log index : ℕ) {x y : ℕ} (power : wide ≡ 2 ^ log) (divides : Divides w wide) (is_wide : x ≡ wide) (is_narrow : y ≡ w) where
  -- a word is at least one narrow word
  count : 0 < wide / w
  count = count_some w wide (power_some log wide power) divides

  -- the code reads how many narrow words a word is
  in_word : wide / w ≡ x / y
  in_word = sym (ap₂ (λ (a b : ℕ). a / b) is_wide is_narrow)

  -- place_inside, by that count
  pub word_inside : (words bits : ℕ) → bits ≡ wide * words → w * index < bits → index / (x / y) < words
  word_inside words bits all inside =
      subst (λ (z : ℕ). index / z < words) in_word (place_inside w (wide / w) wide words bits index count divides all inside)

  -- place_fits, by that count
  pub start_fits : {z : ℕ} → z ≡ w → z * (index % (x / y)) + w ≤ wide
  start_fits {z} is =
      subst (λ (a : ℕ). z * (index % a) + w ≤ wide) in_word
      (subst (λ (a : ℕ). a * (index % (wide / w)) + w ≤ wide) (sym is) (place_fits w (wide / w) wide index count divides))

-- a narrow word is a number of a word
pub narrow_fits : (w wide v : ℕ) → 0 < wide / w → Divides w wide → v < 2 ^ w → v < 2 ^ wide
narrow_fits w wide v some divides fits =
    let up = places_up w 0 (wide / w) some in
    let more : 2 ^ w ≤ 2 ^ wide = pow_mono {i = w} {j = wide} (omega (arith, up, divides)) in
    omega (arith, more, fits)

-- ---- in the terms of the code, which names the word, the first bit and what is read

-- the word shifted by the first bit, and cut to the narrow width, is the narrow word
pub read_part : (w c wide n index i start word shifted r : ℕ) → 0 < c → wide ≡ w * c → i ≡ index / c → start ≡ w * (index % c)
    → word ≡ chunk wide i n → shifted ≡ word / 2 ^ start → r ≡ shifted % 2 ^ w → r ≡ chunk w index n
read_part w c wide n index i start word shifted r some is at_word at_start here moved low =
    low ∙ ap (λ (x : ℕ). x % 2 ^ w) (moved ∙ ap₂ (λ (x s : ℕ). x / 2 ^ s) (here ∙ ap₂ (λ (x y : ℕ). chunk x y n) is at_word) at_start)
    ∙ part_in_word w c n index some

-- a word of the row with the narrow word written in it, written back, writes the narrow word of the row
pub write_part : (w c wide count n index i start word v x r : ℕ) → 0 < c → v < 2 ^ w → wide ≡ w * c → i ≡ index / c
    → start ≡ w * (index % c) → word ≡ chunk wide i n → IsWithField wide start w word v x → IsWithPart wide count n i x r
    → IsWithPart w (c * count) n index v r
write_part w c wide count n index i start word v x r some fits is at_word at_start here field written =
    part_written w c count n index v x r some fits
    (subst (λ (z : ℕ). IsWithField (w * c) z w (chunk (w * c) (index / c) n) v x) at_start
    (subst (λ (z : ℕ). IsWithField (w * c) start w z v x) (here ∙ ap₂ (λ (y z : ℕ). chunk y z n) is at_word)
    (subst (λ (z : ℕ). IsWithField z start w word v x) is field)))
    (subst (λ (z : ℕ). IsWithPart (w * c) count n z x r) at_word (subst (λ (z : ℕ). IsWithPart z count n i x r) is written))
