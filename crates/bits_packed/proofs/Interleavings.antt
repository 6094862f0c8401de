-- Interleaved blocks of bits are interleaved lists of lanes.
use Rattle.std.proofs.Common.{◌≡◌, ◌≢◌, ℕ, zero, suc, ◌+◌, ◌-◌, ◌*◌, ◌/◌, ◌%◌, ◌<◌, ◌≤◌, ◌==◌, ◌⊎◌, inl, inr, Bool, get_or, length, refl, sym, ap, ◌∙◌, lit<, arith}
use Rattle.std.specs.Prelude.{if◌then◌else◌}
use Rattle.std.specs.Int.{bit_at}
use Rattle.std.proofs.lemmas.Bool.{cases_lt, eq-eqb, ne_eqb}
use Rattle.std.proofs.Math.Nat.{div-eq_of_lt}
use native.Mathlib.Nat.{mod-lt}
use Rattle.packed_lanes.specs.lemmas.Chunk.{chunks-get, chunks-length}
use Rattle.packed_lanes.specs.Parts.{HasFirstBlocks, HasSecondBlocks}
use Rattle.packed_lanes.proofs.BlockLemmas.{even_has_room}
use Rattle.packed_lanes.proofs.BlockPlaces.{odd_is_above}
use Rattle.bits_packed.specs.Lanes.{AreInterleavedLanes, bits_of}
use Rattle.bits_packed.proofs.LaneLists.{lane-as_part}

-- entry i of a list of lanes is lane i
lane_in_list : (width n i d : ℕ) → i < width → get_or (bits_of width n) i d ≡ bit_at n i
lane_in_list width n i d less = chunks-get 1 width n i d less ∙ sym (lane-as_part n i)

-- what holds for both parities of m holds of the choice by its parity
by_parity : (m x p q : ℕ) → m < 2 → (m ≡ 0 → x ≡ p) → (m ≡ 1 → x ≡ q) → x ≡ (if m == 0 then p else q)
by_parity zero x p q less even odd = even refl
by_parity (suc zero) x p q less even odd = odd refl
by_parity (suc (suc m)) x p q less even odd = absurd (omega arith)

-- the choice where two numbers differ, and where they are equal
differing : (a b p q : ℕ) → a ≢ b → q ≡ (if a == b then p else q)
differing a b p q other = ap (λ (t : Bool). if t then p else q) (sym (ne_eqb a b other))

equal : (a b p q : ℕ) → a ≡ b → p ≡ (if a == b then p else q)
equal a b p q same = ap (λ (t : Bool). if t then p else q) (sym (eq-eqb a b same))

-- a block that is at most the width, and not what the code has read as the width, is below it
pub proper_block : (block width read : ℕ) → block ≤ width → block ≢ read → read ≡ width → block < width
proper_block block width read within other is = below (cases_lt block width)
  where
    below : (block < width) ⊎ (width ≤ block) → block < width
    below (inl less) = less
    below (inr more) = absurd (other (omega (arith, within, more, is)))

-- by blocks shorter than the rows, of which pairs fill the rows
pub blocks_interleaved : (width q block left right first second : ℕ) → 0 < block → block < width → width ≡ q * (2 * block)
    → HasFirstBlocks width block left right first → HasSecondBlocks width block left right second
    → AreInterleavedLanes width block left right first second
blocks_interleaved width q block left right first second some proper fills has_first has_second = record {
  first_lanes = λ i d within.
      let less : i < width = inside i within in
      by_parity (i / block % 2) _ _ _ (mod-lt (i / block) (lit< tt))
      (λ even. lane_in_list width first i d less ∙ (has_first i less).0 even ∙ sym (lane_in_list width left i d less))
      (λ odd.
      let above = odd_is_above block i some odd in
      lane_in_list width first i d less ∙ (has_first i less).1 odd ∙ sym (lane_in_list width right (i - block) d (omega (arith, less))));
  second_lanes = λ i d within.
      let less : i < width = inside i within in
      by_parity (i / block % 2) _ _ _ (mod-lt (i / block) (lit< tt))
      (λ even.
      lane_in_list width second i d less ∙ (has_second i less).0 even
      ∙ sym (lane_in_list width left (i + block) d (even_has_room width q block i some fills less even)))
      (λ odd. lane_in_list width second i d less ∙ (has_second i less).1 odd ∙ sym (lane_in_list width right i d less))
      ∙ differing block (length (bits_of width left)) _ _ not_whole;
}
  where
    inside : (i : ℕ) → i < length (bits_of width left) → i < width
    inside i within = let long = chunks-length 1 width left in omega (arith, within, long)

    not_whole : block ≢ length (bits_of width left)
    not_whole is = let long = chunks-length 1 width left in absurd (omega (arith, is, long, proper))

-- by blocks as long as the rows both stay as they are
pub whole_interleaved : (width block left right : ℕ) → block ≡ width → AreInterleavedLanes width block left right left right
whole_interleaved width block left right whole = record {
  first_lanes = λ i d within.
      let long = chunks-length 1 width left in
      let none : i / block ≡ 0 = div-eq_of_lt (omega (arith, within, long, whole)) in
      by_parity (i / block % 2) _ _ _ (mod-lt (i / block) (lit< tt)) (λ even. refl) (λ odd. absurd (omega (arith, none, odd)));
  second_lanes = λ i d within. equal block (length (bits_of width left)) _ _ (whole ∙ sym (chunks-length 1 width left));
}
