-- What a point folds matrices to, near matrices are unique, and openings need luck.
use Rattle.std.proofs.Common.{◌≡◌, ◌⊎◌, inl, inr, ℕ, zero, suc, ◌+◌, ◌*◌, ◌^◌, ◌<◌, ◌≤◌, Bool, false, List, [], ◌∷◌, length, sym, ◌∙◌, ap, ap₂, arith}
use Rattle.std.specs.Prelude.{◌||◌, bit_xor, nat_eq, not}
use Rattle.std.proofs.Math.Nat.{two-pow-succ}
use Rattle.std.proofs.lemmas.Bool.{cases_lt}
use Rattle.std.proofs.lemmas.Bool.Decides.{eqb_tells}
use Rattle.std.proofs.lemmas.Nat.{pow_pos}
use Rattle.field_base.specs.Field.{IsField}
use Rattle.field_slices.specs.Codes.{AgreeUnmarked, HasDistance, HaveSymbols, IsNear, IsWordOf}
use Rattle.field_slices.specs.Folds.{IsLuckyAt, fold_rows, rows_folded}
use Rattle.field_slices.specs.Marks.{marked_below}
use Rattle.field_slices.specs.Openings.{IsOpened, NearIsUnique, OpeningsNeedLuck, OtherRowsMiss, misses}
use Rattle.field_slices.proofs.Counting.{none-of-three, three-marks, total-zero}
use Rattle.field_slices.proofs.Folds.{far-lucky}
use Rattle.field_slices.proofs.Words.{word-affine, word-sum}

-- ---- folds of columns, and of code words

pub folded-column : (times : ℕ → ℕ → ℕ) (h : ℕ) (point : List ℕ) (one other : ℕ → ℕ → ℕ) (p : ℕ) → ((i : ℕ) → i < 2 ^ h → one i p ≡ other i p)
    → rows_folded times h point one 0 p ≡ rows_folded times h point other 0 p
unfolding rows_folded
folded-column times h [] one other p same = same 0 (pow_pos h)
folded-column times zero (r ∷ rs) one other p same = same 0 (pow_pos 0)
folded-column times (suc h) (r ∷ rs) one other p same =
    folded-column times h rs (fold_rows times (2 ^ h) r one) (fold_rows times (2 ^ h) r other) p
    (λ i below.
    let twice = two-pow-succ h in
    ap₂ (λ (a b : ℕ). bit_xor a (times r (bit_xor a b))) (same i (omega (arith, below, twice))) (same (2 ^ h + i) (omega (arith, below, twice))))

module _ (width : ℕ) (times : ℕ → ℕ → ℕ) (wide : 0 < width) (field : IsField width times) (size n : ℕ) (generator : ℕ → ℕ → ℕ) where
  pub folded-word : (h : ℕ) (point : List ℕ) (one : ℕ → ℕ → ℕ) → ((i : ℕ) → i < 2 ^ h → IsWordOf times size n generator (one i))
      → IsWordOf times size n generator (rows_folded times h point one 0)
  unfolding rows_folded
  folded-word h [] one rows = rows 0 (pow_pos h)
  folded-word zero (r ∷ rs) one rows = rows 0 (pow_pos 0)
  folded-word (suc h) (r ∷ rs) one rows =
      folded-word h rs (fold_rows times (2 ^ h) r one)
      (λ i below.
      let twice = two-pow-succ h in
      let low = rows i (omega (arith, below, twice)) in
      let high = rows (2 ^ h + i) (omega (arith, below, twice)) in
      word-affine width times wide field.ring size n generator r (one i) (λ p. bit_xor (one i p) (one (2 ^ h + i) p)) low
      (word-sum width times wide field.ring size n generator (one i) (one (2 ^ h + i)) low high))

-- ---- two markings

nothing : ℕ → Bool
nothing p = false

two-marks : (a b : ℕ → Bool) (n : ℕ) → marked_below (λ p. a p || b p || nothing p) n ≤ marked_below a n + marked_below b n
unfolding nothing
two-marks a b n =
    let three = three-marks a b (λ p. false) n in
    let none = total-zero n in
    omega (arith, three, none)

pub near_is_unique : NearIsUnique
near_is_unique times size n d generator distance e height word few one other i below p inside =
    distance (one.matrix i) (other.matrix i) (one.rows i below) (other.rows i below) (λ p. one.marked p || other.marked p || nothing p)
    (let two = two-marks one.marked other.marked n in let a = one.few in let b = other.few in omega (arith, two, a, b, few)) agree p inside
  where
    agree : AgreeUnmarked n (λ p. one.marked p || other.marked p || nothing p) (one.matrix i) (other.matrix i)
    agree p inside unmarked =
        let each = none-of-three (one.marked p) (other.marked p) (nothing p) unmarked in
        sym (one.same i below p inside each.0) ∙ other.same i below p inside each.1

-- ---- openings

-- a place that is not missed
pub not-missed : (a b : ℕ) → not (nat_eq a b) ≡ false → a ≡ b
not-missed a b is = elim (eqb_tells a b) [
  | inl same ↦ same.1
  | inr other ↦ let no : not false ≡ false = sym (ap not other.0) ∙ is in absurd (cc)
]

module _ (width : ℕ) (times : ℕ → ℕ → ℕ) (wide : 0 < width) (field : IsField width times) (size n d : ℕ) (generator : ℕ → ℕ → ℕ)
    (distance : HasDistance times size n generator d) (e h : ℕ) (word : ℕ → ℕ → ℕ) (point : List ℕ) (row : ℕ → ℕ)
    (is_word : IsWordOf times size n generator row) where
  -- a word that misses little is what the point folds the near matrix to
  pub little-missed : (near : IsNear times size n generator e (2 ^ h) word) → marked_below (misses times h word point row) n + e < d
      → (p : ℕ) → p < n → row p ≡ rows_folded times h point near.matrix 0 p
  little-missed near little p inside =
      distance row (rows_folded times h point near.matrix 0) is_word
      (folded-word width times wide field size n generator h point near.matrix near.rows)
      (λ p. misses times h word point row p || near.marked p || nothing p)
      (let two = two-marks (misses times h word point row) near.marked n in let few = near.few in omega (arith, two, few, little)) agree p inside
    where
      agree : AgreeUnmarked n (λ p. misses times h word point row p || near.marked p || nothing p) row (rows_folded times h point near.matrix 0)
      agree p inside unmarked =
          let each = none-of-three (misses times h word point row p) (near.marked p) (nothing p) unmarked in
          not-missed (row p) (rows_folded times h point word 0 p) each.0
          ∙ folded-column times h point word near.matrix p (λ i below. near.same i below p inside each.1)

  -- what the point folds the matrix to is near a word that misses at most e places
  pub near-row : marked_below (misses times h word point row) n ≤ e → IsNear times size n generator e 1 (rows_folded times h point word)
  near-row few = record {
    matrix = λ i. row;
    rows = λ i below. is_word;
    marked = misses times h word point row;
    few = few;
    same = λ i below p inside unmarked.
        let first : i ≡ 0 = omega (arith, below) in
        ap (λ (j : ℕ). rows_folded times h point word j p) first ∙ sym (not-missed (row p) (rows_folded times h point word 0 p) unmarked);
  }

  pub needs-luck : 2 * e < d → HaveSymbols width n (2 ^ h) word → length point ≡ h
      → IsOpened times size n generator e h word point row
      ⊎ ((k : ℕ) × IsLuckyAt times size n generator e h word point k)
      ⊎ (e < marked_below (misses times h word point row) n)
  needs-luck few fits long = cases (cases_lt e (marked_below (misses times h word point row) n))
    where
      opened : marked_below (misses times h word point row) n ≤ e
          → IsNear times size n generator e (2 ^ h) word ⊎ ((k : ℕ) × IsLuckyAt times size n generator e h word point k)
          → IsOpened times size n generator e h word point row
          ⊎ ((k : ℕ) × IsLuckyAt times size n generator e h word point k)
          ⊎ (e < marked_below (misses times h word point row) n)
      opened little (inl near) = inl (record { near = near; folds = little-missed near (omega (arith, little, few)) })
      opened little (inr lucky) = inr (inl lucky)

      cases : (e < marked_below (misses times h word point row) n) ⊎ (marked_below (misses times h word point row) n ≤ e)
          → IsOpened times size n generator e h word point row
          ⊎ ((k : ℕ) × IsLuckyAt times size n generator e h word point k)
          ⊎ (e < marked_below (misses times h word point row) n)
      cases (inl many) = inr (inr many)
      cases (inr little) = opened little (far-lucky width times wide field size n generator e h word point fits long (near-row little))

pub openings_need_luck : OpeningsNeedLuck
openings_need_luck width times size n d generator wide field distance e h word point row few fits long is_word =
    needs-luck width times wide field size n d generator distance e h word point row is_word few fits long

pub other_rows_miss : OtherRowsMiss
other_rows_miss width times size n d generator wide field distance e h word point row long is_word near p inside other =
    elim (cases_lt (marked_below (misses times h word point row) n + e) d) [
      | inl little ↦ absurd (other (little-missed width times wide field size n d generator distance e h word point row is_word near little p inside))
      | inr enough ↦ enough
    ]
