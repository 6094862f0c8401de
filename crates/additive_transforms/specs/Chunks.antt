-- Sixteen bytes in a register as elements of the tower, one after another, and their products by a scalar of a lower level. Past the
-- bytes there are zeros, so that what is said of each element needs no bound.
use Rattle.std.specs.Prelude.{◌≡◌, ℕ, zero, suc, ◌+◌, ◌*◌, ◌^◌, Bool, List, [], ◌∷◌, slice_index}
use Rattle.additive_transforms.specs.Stages.{TakesBlock}
use Rattle.field_base.specs.Quadratic.{pair}
use Rattle.field_base.specs.Tower.{tower_mul}
use Rattle.additive_transforms.specs.Rows.{level_of}

-- element i of 2 ^ d bytes each: that of a byte, and otherwise the pair of two of the level below
unfoldable pub chunk_of : ℕ → List ℕ → ℕ → ℕ
chunk_of zero bytes i = slice_index bytes i
chunk_of (suc d) bytes i = pair (2 ^ level_of d) (chunk_of d bytes (2 * i)) (chunk_of d bytes (2 * i + 1))

-- each element of 2 ^ d bytes is the product of that of the old bytes by the scalar s
abbrev pub AreTimes : ℕ → ℕ → List ℕ → List ℕ → Type 0
AreTimes d s old new = (i : ℕ) → chunk_of d new i ≡ tower_mul (level_of d) s (chunk_of d old i)

-- each element, whose low half is one of 2 ^ d bytes of one list and whose high half is that of another, is the product by the scalar s
abbrev pub AreHalfTimes : ℕ → ℕ → List ℕ → List ℕ → List ℕ → List ℕ → Type 0
AreHalfTimes d s low high new_low new_high =
    (i : ℕ)
    → pair (2 ^ level_of d) (chunk_of d new_low i) (chunk_of d new_high i)
    ≡ tower_mul (suc (level_of d)) s (pair (2 ^ level_of d) (chunk_of d low i) (chunk_of d high i))

-- elements of 2 ^ d bytes that stand in pairs: the two of each pair are exchanged
pub record AreExchanged (d : ℕ) (old new : List ℕ) : Type 0 where
  pub low : (i : ℕ) → chunk_of d new (2 * i) ≡ chunk_of d old (2 * i + 1)
  pub high : (i : ℕ) → chunk_of d new (2 * i + 1) ≡ chunk_of d old (2 * i)

-- the low ones of the pairs are those of one list, and the high ones those of another
pub record AreMerged (d : ℕ) (lows highs new : List ℕ) : Type 0 where
  pub low : (i : ℕ) → chunk_of d new (2 * i) ≡ chunk_of d lows (2 * i)
  pub high : (i : ℕ) → chunk_of d new (2 * i + 1) ≡ chunk_of d highs (2 * i + 1)

-- the low ones of the pairs of two lists, those of the first at even places and those of the second at odd ones, and so the high ones
pub record AreRegrouped (d : ℕ) (first second low high : List ℕ) : Type 0 where
  pub first_low : (i : ℕ) → chunk_of d low (2 * i) ≡ chunk_of d first (2 * i)
  pub second_low : (i : ℕ) → chunk_of d low (2 * i + 1) ≡ chunk_of d second (2 * i)
  pub first_high : (i : ℕ) → chunk_of d high (2 * i) ≡ chunk_of d first (2 * i + 1)
  pub second_high : (i : ℕ) → chunk_of d high (2 * i + 1) ≡ chunk_of d second (2 * i + 1)

-- in each place the butterfly with the scalar s takes the elements of 2 ^ e bytes of two lists to those of two others
abbrev pub TakesChunks : Bool → ℕ → ℕ → List ℕ → List ℕ → List ℕ → List ℕ → Type 0
TakesChunks inverse e s lo hi now_lo now_hi =
    (i : ℕ)
    → TakesBlock inverse (tower_mul (level_of e)) s 1 (slice_index (chunk_of e lo i ∷ chunk_of e hi i ∷ []))
    (slice_index (chunk_of e now_lo i ∷ chunk_of e now_hi i ∷ []))
