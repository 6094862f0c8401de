-- Products of two vectors of elements that stand in pairs, by the vectors of their halves, and butterflies of vectors.
use Rattle.std.proofs.Common.{◌≡◌, ℕ, suc, ◌+◌, ◌*◌, ◌^◌, ◌<◌, ◌≤◌, Bool, false, List, sym, ◌∙◌, ap, ap₂}
use Rattle.std.specs.Prelude.{bit_xor, IsTrue}
use Rattle.std.specs.Simd.Lanes.{zip2}
use Rattle.additive_transforms.proofs.PairLoops.{pair_back, pair_on}
use Rattle.field_base.specs.Quadratic.{pair}
use Rattle.field_base.specs.Tower.{root, tower_mul}
use Rattle.additive_transforms.specs.Chunks.{AreHalfTimes, AreTimes, AreRegrouped, TakesChunks, chunk_of}
use Rattle.additive_transforms.specs.Rows.{level_of}
use Rattle.additive_transforms.proofs.ChunkProducts.{AreBytes, bytes_summed, chunk-halves, chunk-lt, chunk_xor, whole_times}
use Rattle.additive_transforms.proofs.Scalars.{product_of_pairs}

-- the three products of the halves of all elements, where one vector has the low ones and another the high ones
pub half_products : (n d s s0 s1 : ℕ) (low high sums both lows highs new_low new_high : List ℕ) → s0 < 2 ^ 2 ^ level_of d
    → s1 < 2 ^ 2 ^ level_of d → s ≡ pair (2 ^ level_of d) s0 s1
    → AreBytes n low → AreBytes n high → AreBytes n both → AreBytes n lows → AreBytes n highs → sums ≡ zip2 bit_xor low high
    → AreTimes d s1 sums both → AreTimes d (bit_xor s0 s1) low lows
    → AreTimes d (bit_xor (bit_xor s0 s1) (tower_mul (level_of d) (root (level_of d)) s1)) high highs
    → new_low ≡ zip2 bit_xor lows both → new_high ≡ zip2 bit_xor highs both → AreHalfTimes d s low high new_low new_high
half_products n d s s0 s1 low high sums both lows highs new_low new_high s0_fits s1_fits is low_are high_are both_are lows_are highs_are sum
    of_both of_low of_high low_sum high_sum i =
    ap₂ (pair (2 ^ (level_of d)))
    (chunk_xor d lows both new_low lows_are both_are (bytes_summed n lows both new_low lows_are both_are low_sum) i
    ∙ ap₂ bit_xor (of_low i) half_sum)
    (chunk_xor d highs both new_high highs_are both_are (bytes_summed n highs both new_high highs_are both_are high_sum) i
    ∙ ap₂ bit_xor (of_high i) half_sum)
    ∙ product_of_pairs (level_of d) s s0 s1 (chunk_of d low i) (chunk_of d high i) s0_fits s1_fits (chunk-lt d low low_are i)
    (chunk-lt d high high_are i) is
  where
    half_sum : chunk_of d both i ≡ tower_mul (level_of d) s1 (bit_xor (chunk_of d low i) (chunk_of d high i))
    half_sum =
        of_both i
        ∙ ap (tower_mul (level_of d) s1) (chunk_xor d low high sums low_are high_are (bytes_summed n low high sums low_are high_are sum) i)

-- the products of all elements of two vectors, by their halves
module _ (d s : ℕ) (first second low high new_low new_high now_first now_second : List ℕ) (apart : AreRegrouped d first second low high)
    (times : AreHalfTimes d s low high new_low new_high) (back : AreRegrouped d new_low new_high now_first now_second) where
  -- those of the first
  pub first_times : AreTimes (suc d) s first now_first
  first_times i =
      chunk-halves d now_first i
      ∙ ap₂ (pair (2 ^ (level_of d))) (back.first_low i) (back.second_low i)
      ∙ times (2 * i)
      ∙ ap (tower_mul (suc (level_of d)) s) (ap₂ (pair (2 ^ (level_of d))) (apart.first_low i) (apart.first_high i) ∙ sym (chunk-halves d first i))

  -- and of the second
  pub second_times : AreTimes (suc d) s second now_second
  second_times i =
      chunk-halves d now_second i
      ∙ ap₂ (pair (2 ^ (level_of d))) (back.first_high i) (back.second_high i)
      ∙ times (2 * i + 1)
      ∙ ap (tower_mul (suc (level_of d)) s) (ap₂ (pair (2 ^ (level_of d))) (apart.second_low i) (apart.second_high i) ∙ sym (chunk-halves d second i))

-- ---- butterflies

module _ (n d e s : ℕ) (lo hi low high product : List ℕ) (inverse : Bool) (few : d ≤ e) (fits : s < 2 ^ 2 ^ level_of d)
    (lo_are : AreBytes n lo) (hi_are : AreBytes n hi) (product_are : AreBytes n product) where
  -- the inverse one
  pub vectors_back : IsTrue inverse → AreBytes n high → high ≡ zip2 bit_xor hi lo → AreTimes d s high product → low ≡ zip2 bit_xor lo product
      → TakesChunks inverse e s lo hi low high
  vectors_back chosen high_are high_sum times low_sum i =
      pair_back (tower_mul (level_of e)) s (chunk_of e lo i) (chunk_of e hi i) (chunk_of e low i) (chunk_of e high i) inverse chosen
      (chunk_xor e hi lo high hi_are lo_are (bytes_summed n hi lo high hi_are lo_are high_sum) i)
      (chunk_xor e lo product low lo_are product_are (bytes_summed n lo product low lo_are product_are low_sum) i
      ∙ ap (bit_xor (chunk_of e lo i)) (whole_times d e s high product few fits times high_are i))

  -- and the forward one
  pub vectors_on : inverse ≡ false → AreBytes n low → AreTimes d s hi product → low ≡ zip2 bit_xor lo product → high ≡ zip2 bit_xor hi low
      → TakesChunks inverse e s lo hi low high
  vectors_on chosen low_are times low_sum high_sum i =
      pair_on (tower_mul (level_of e)) s (chunk_of e lo i) (chunk_of e hi i) (chunk_of e low i) (chunk_of e high i) inverse chosen
      (chunk_xor e lo product low lo_are product_are (bytes_summed n lo product low lo_are product_are low_sum) i
      ∙ ap (bit_xor (chunk_of e lo i)) (whole_times d e s hi product few fits times hi_are i))
      (chunk_xor e hi low high hi_are low_are (bytes_summed n hi low high hi_are low_are high_sum) i)
