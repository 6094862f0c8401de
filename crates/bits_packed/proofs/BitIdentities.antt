-- The identity matrix over GF(2) behind the words of another, and the inverse that reducing the two leaves.
use Rattle.std.proofs.Common.{◌≡◌, ◌≢◌, ◌⊎◌, inl, inr, ℕ, ◌+◌, ◌-◌, ◌*◌, ◌<◌, ◌≤◌, Bool, List, refl, sym, ◌∙◌, ap, arith}
use Rattle.std.specs.Prelude.{bit_xor, if◌then◌else◌, nat_lt}
use Rattle.std.proofs.lemmas.Bool.{cases_eq, cases_lt, le-ltb, lt-ltb}
use Rattle.field_base.specs.lemmas.BitRing.{bits_ring}
use Rattle.field_base.proofs.BasisSums.{sum_below-same}
use Rattle.field_base.proofs.RingLemmas.{times-zero}
use Rattle.field_base.specs.Tower.{tower_mul}
use Rattle.field_slices.specs.Matrices.{AreInverseMatrices, HaveSameRowSpace, IsMatrixProduct, IsReducedEchelon, beside_identity, identity_entry}
use Rattle.field_slices.proofs.InverseMatrices.{beside-left, beside-right, inverse_found, inverse_missing}
use Rattle.field_slices.proofs.RowSpaces.{combination_row}
use Rattle.bits_packed.specs.BitMatrices.{IsBitRowWritten, IsBitWritten, bit_entry, kept_before}
use Rattle.bits_packed.proofs.BitRows.{entry-lt, kept-behind, kept-front, space_of_columns}
use Rattle.bits_packed.proofs.FourRowTables.{sum_zero}
use Rattle.bits_packed.proofs.PendingSums.{identity-other, identity-same}

-- a row that is cleared from a word on, and has then a bit added, has a row of the identity matrix there
pub identity_row : (words row from place : ℕ) (old mid now : List ℕ)
    → IsBitRowWritten words row (kept_before (64 * from) (bit_entry words old row)) old mid
    → IsBitWritten words row (64 * from + place) (bit_xor (bit_entry words mid row (64 * from + place)) 1) mid now
    → IsBitRowWritten words row (beside_identity (64 * from) (λ i. bit_entry words old row) place) old now
identity_row words row from place old mid now cleared added = record {
  shape = added.shape ∙ cleared.shape;
  entries = λ j inside. elim (cases_lt j (64 * from)) [
    | inl before ↦ added.others row j inside (inr (λ e. omega (arith, e, before))) ∙ cleared.entries j inside
        ∙ kept-front (64 * from) (bit_entry words old row) j before
        ∙ sym (beside-left (64 * from) (λ i. bit_entry words old row) place j before)
    | inr past ↦ behind j inside past (cases_eq j (64 * from + place))
        ∙ sym (beside-right (64 * from) (λ i. bit_entry words old row) place j past)
  ];
  others = λ i j differs inside. added.others i j inside (inl differs) ∙ cleared.others i j differs inside;
}
  where
    zero_there : (j : ℕ) → j < 64 * words → 64 * from ≤ j → bit_entry words mid row j ≡ 0
    zero_there j inside past = cleared.entries j inside ∙ kept-behind (64 * from) (bit_entry words old row) j past

    behind : (j : ℕ) → j < 64 * words → 64 * from ≤ j → (j ≡ 64 * from + place) ⊎ (j ≡ 64 * from + place → ⊥)
        → bit_entry words now row j ≡ identity_entry place (j - 64 * from)
    behind j inside past (inl same) =
        ap (bit_entry words now row) same ∙ added.written
        ∙ ap (λ (x : ℕ). bit_xor x 1) (ap (bit_entry words mid row) (sym same) ∙ zero_there j inside past)
        ∙ sym (identity-same place (j - 64 * from) (omega (arith, same)))
    behind j inside past (inr differs) =
        added.others row j inside (inr differs) ∙ zero_there j inside past
        ∙ sym (identity-other place (j - 64 * from) (λ e. differs (omega (arith, e, past))))

-- ---- the inverse

-- where a column of a matrix beside another stands, of two with n columns in `half` words a row
abbrev column_of : ℕ → ℕ → ℕ → ℕ
column_of half n j = if nat_lt j n then j else 64 * half + (j - n)

column_of-left : (half n j : ℕ) → j < n → column_of half n j ≡ j
column_of-left half n j before = ap (λ (b : Bool). if b then j else 64 * half + (j - n)) (lt-ltb j n before)

column_of-right : (half n j : ℕ) → n ≤ j → column_of half n j ≡ 64 * half + (j - n)
column_of-right half n j past = ap (λ (b : Bool). if b then j else 64 * half + (j - n)) (le-ltb j n past)

module _ (half : ℕ) {n r : ℕ} (fits : n ≤ 64 * half) {pivot : ℕ → ℕ} (old beside now : List ℕ)
    (identity : (i j : ℕ) → i < n → j < 64 * (half + half)
    → bit_entry (half + half) beside i j ≡ beside_identity (64 * half) (bit_entry (half + half) old) i j)
    (reduced : IsReducedEchelon n n r pivot (bit_entry (half + half) now))
    (same : HaveSameRowSpace (tower_mul 0) n (64 * (half + half)) (bit_entry (half + half) beside) (bit_entry (half + half) now)) where
  -- both matrices without the bits behind their columns
  abbrev M : ℕ → ℕ → ℕ
  M i j = bit_entry (half + half) beside i (column_of half n j)

  abbrev N : ℕ → ℕ → ℕ
  N i j = bit_entry (half + half) now i (column_of half n j)

  column_of-fits : (j : ℕ) → j < n + n → column_of half n j < 64 * (half + half)
  column_of-fits j inside =
      elim (cases_lt j n) [
        | inl before ↦ let is = column_of-left half n j before in omega (arith, is, before, fits)
        | inr past ↦ let is = column_of-right half n j past in omega (arith, is, inside, past, fits)
      ]

  halves : (i j : ℕ) → i < n → j < n + n → M i j ≡ beside_identity n (bit_entry (half + half) old) i j
  halves i j inside within =
      identity i (column_of half n j) inside (column_of-fits j within)
      ∙ elim (cases_lt j n) [
        | inl before ↦ left before
        | inr past ↦ right past
      ]
    where
      left : j < n → beside_identity (64 * half) (bit_entry (half + half) old) i (column_of half n j)
          ≡ beside_identity n (bit_entry (half + half) old) i j
      left before =
          ap (beside_identity (64 * half) (bit_entry (half + half) old) i) (column_of-left half n j before)
          ∙ beside-left (64 * half) (bit_entry (half + half) old) i j (omega (arith, before, fits))
          ∙ sym (beside-left n (bit_entry (half + half) old) i j before)

      right : n ≤ j → beside_identity (64 * half) (bit_entry (half + half) old) i (column_of half n j)
          ≡ beside_identity n (bit_entry (half + half) old) i j
      right past =
          let back : 64 * half + (j - n) - 64 * half ≡ j - n = omega arith in
          ap (beside_identity (64 * half) (bit_entry (half + half) old) i) (column_of-right half n j past)
          ∙ beside-right (64 * half) (bit_entry (half + half) old) i (64 * half + (j - n)) (omega arith)
          ∙ ap (identity_entry i) back ∙ sym (beside-right n (bit_entry (half + half) old) i j past)

  -- the left half is as reduced as before
  at_left : (i j : ℕ) → j < n → N i j ≡ bit_entry (half + half) now i j
  at_left i j before = ap (bit_entry (half + half) now i) (column_of-left half n j before)

  left_reduced : IsReducedEchelon n n r pivot N
  left_reduced = record {
    rank_fits = reduced.rank_fits;
    pivots_fit = reduced.pivots_fit;
    pivots_rise = reduced.pivots_rise;
    leading = λ i below. at_left i (pivot i) (reduced.pivots_fit i below) ∙ reduced.leading i below;
    zeros_before = λ i j below before.
        at_left i j (let inside = reduced.pivots_fit i below in omega (arith, before, inside)) ∙ reduced.zeros_before i j below before;
    alone = λ i k below within other. at_left k (pivot i) (reduced.pivots_fit i below) ∙ reduced.alone i k below within other;
    zero_rows = λ i j past within inside. at_left i j inside ∙ reduced.zero_rows i j past within inside;
  }

  both_same : HaveSameRowSpace (tower_mul 0) n (n + n) M N
  both_same =
      space_of_columns (tower_mul 0) n (64 * (half + half)) (n + n) (column_of half n) column_of-fits (bit_entry (half + half) beside)
      (bit_entry (half + half) now) same

  -- column j of the right half
  at_right : (k j : ℕ) → N k (n + j) ≡ bit_entry (half + half) now k (64 * half + j)
  at_right k j =
      let back : n + j - n ≡ j = omega arith in
      ap (bit_entry (half + half) now k) (column_of-right half n (n + j) (omega arith) ∙ ap (λ (x : ℕ). 64 * half + x) back)

  pub bit_inverse_found : r ≡ n → AreInverseMatrices (tower_mul 0) n (bit_entry (half + half) old)
      (λ i j. bit_entry (half + half) now i (64 * half + j))
  bit_inverse_found full =
      let found = inverse_found bits_ring (bit_entry (half + half) old)
      (λ i j. entry-lt (half + half) beside i (column_of half n j)) (λ i j. entry-lt (half + half) now i (column_of half n j)) halves left_reduced
      both_same full in (
        λ i j inside within. found.0 i j inside within
            ∙ sum_below-same (λ k. tower_mul 0 (bit_entry (half + half) old i k) (N k (n + j)))
            (λ k. tower_mul 0 (bit_entry (half + half) old i k) (bit_entry (half + half) now k (64 * half + j))) n
            (λ k _. ap (tower_mul 0 (bit_entry (half + half) old i k)) (at_right k j)),
        λ i j inside within. found.1 i j inside within
            ∙ sum_below-same (λ k. tower_mul 0 (N i (n + k)) (bit_entry (half + half) old k j))
            (λ k. tower_mul 0 (bit_entry (half + half) now i (64 * half + k)) (bit_entry (half + half) old k j)) n
            (λ k _. ap (λ (x : ℕ). tower_mul 0 x (bit_entry (half + half) old k j)) (at_right i k)),
      )

  pub bit_inverse_missing : r ≢ n → (B : ℕ → ℕ → ℕ)
      → IsMatrixProduct (tower_mul 0) n n n B (bit_entry (half + half) old) identity_entry → ⊥
  bit_inverse_missing =
      inverse_missing bits_ring (bit_entry (half + half) old)
      (λ i j. entry-lt (half + half) beside i (column_of half n j)) (λ i j. entry-lt (half + half) now i (column_of half n j)) halves left_reduced
      both_same

  -- behind its columns the right half is 0, as the identity matrix was
  pub bit_inverse_behind : (i j : ℕ) → i < n → n ≤ j → j < 64 * half → bit_entry (half + half) now i (64 * half + j) ≡ 0
  bit_inverse_behind i j inside past within =
      let own =
      combination_row 1 (tower_mul 0) bits_ring n (64 * (half + half)) (bit_entry (half + half) now) (entry-lt (half + half) now) i
      (bit_entry (half + half) now i) inside (λ k _. refl) in
      let found = (same (bit_entry (half + half) now i)).1 own in
      found.1 (64 * half + j) (omega (arith, within))
      ∙ sum_below-same (λ k. tower_mul 0 (found.0 k) (bit_entry (half + half) beside k (64 * half + j))) (λ k. 0) n
      (λ k below. ap (tower_mul 0 (found.0 k)) (nothing k below) ∙ times-zero 1 1 (tower_mul 0) bits_ring (found.0 k))
      ∙ sum_zero (λ k. 0) n (λ k. refl)
    where
      nothing : (k : ℕ) → k < n → bit_entry (half + half) beside k (64 * half + j) ≡ 0
      nothing k below =
          let back : 64 * half + j - 64 * half ≡ j = omega arith in
          identity k (64 * half + j) below (omega (arith, within))
          ∙ beside-right (64 * half) (bit_entry (half + half) old) k (64 * half + j) (omega arith) ∙ ap (identity_entry k) back
          ∙ identity-other k j (λ e. absurd (omega (arith, e, below, past)))
