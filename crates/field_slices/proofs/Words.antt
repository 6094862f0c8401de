-- Code words of a generator matrix: their sums, their multiples, and that their symbols are elements.
use Rattle.std.proofs.Common.{◌≡◌, ℕ, zero, suc, ◌^◌, ◌<◌, refl, sym, ◌∙◌, ap, ap₂, subst}
use Rattle.std.specs.Prelude.{bit_xor}
use Rattle.std.proofs.lemmas.Nat.{pow_pos, xor_comm, xor_lt}
use native.Mathlib.Nat.{mod-eq_of_lt}
use lib.Bits.{xor_assoc, xor_self, xor_zero_r}
use Rattle.field_base.specs.Basis.{sum_below}
use Rattle.field_base.specs.Field.{IsField}
use Rattle.field_base.specs.Ring.{IsRing}
use Rattle.field_base.proofs.RingLemmas.{sum_times, xor_cancel, xor_left_comm, xor_nothing}
use Rattle.field_slices.specs.Codes.{IsWordOf, encoded}

module _ (width : ℕ) (times : ℕ → ℕ → ℕ) (wide : 0 < width) (ring : IsRing width 1 times) (size n : ℕ) (generator : ℕ → ℕ → ℕ) where
  encoded-fits : (size : ℕ) (message : ℕ → ℕ) (p : ℕ) → encoded times size generator message p < 2 ^ width
  unfolding sum_below
  encoded-fits zero message p = pow_pos width
  encoded-fits (suc size) message p =
      xor_lt width (encoded times size generator message p) (times (message size) (generator size p)) (encoded-fits size message p)
      (ring.below (message size) (generator size p))

  pub word-fits : (a : ℕ → ℕ) → IsWordOf times size n generator a → (p : ℕ) → p < n → a p < 2 ^ width
  word-fits a word p below = subst (λ (v : ℕ). v < 2 ^ width) (sym (word.is p below)) (encoded-fits size word.message p)

  encoded-sum : (size : ℕ) (one other : ℕ → ℕ) (p : ℕ)
      → encoded times size generator (λ j. bit_xor (one j) (other j)) p
      ≡ bit_xor (encoded times size generator one p) (encoded times size generator other p)
  unfolding sum_below
  encoded-sum zero one other p = refl
  encoded-sum (suc size) one other p =
      ap₂ bit_xor (encoded-sum size one other p) (sum_times width 1 times ring (one size) (other size) (generator size p))
      ∙ swapped (encoded times size generator one p) (encoded times size generator other p) (times (one size) (generator size p))
      (times (other size) (generator size p))
    where
      swapped : (a b c d : ℕ) → bit_xor (bit_xor a b) (bit_xor c d) ≡ bit_xor (bit_xor a c) (bit_xor b d)
      swapped a b c d = xor_assoc a b (bit_xor c d) ∙ ap (bit_xor a) (xor_left_comm b c d) ∙ sym (xor_assoc a c (bit_xor b d))

  pub word-sum : (a b : ℕ → ℕ) → IsWordOf times size n generator a → IsWordOf times size n generator b
      → IsWordOf times size n generator (λ p. bit_xor (a p) (b p))
  word-sum a b one other = record {
    message = λ j. bit_xor (one.message j) (other.message j);
    is = λ p below. ap₂ bit_xor (one.is p below) (other.is p below) ∙ sym (encoded-sum size one.message other.message p);
  }

  encoded-multiple : (size s : ℕ) (message : ℕ → ℕ) (p : ℕ)
      → encoded times size generator (λ j. times s (message j)) p ≡ times s (encoded times size generator message p)
  unfolding sum_below
  encoded-multiple zero s message p = sym (ring.over_sum s 0 0 ∙ xor_self (times s 0))
  encoded-multiple (suc size) s message p =
      ap₂ bit_xor (encoded-multiple size s message p) (ring.assoc s (message size) (generator size p))
      ∙ sym (ring.over_sum s (encoded times size generator message p) (times (message size) (generator size p)))

  pub word-multiple : (s : ℕ) (a : ℕ → ℕ) → IsWordOf times size n generator a → IsWordOf times size n generator (λ p. times s (a p))
  word-multiple s a word = record {
    message = λ j. times s (word.message j);
    is = λ p below. ap (times s) (word.is p below) ∙ sym (encoded-multiple size s word.message p);
  }

  -- a multiple of a word added to another
  pub word-affine : (s : ℕ) (a b : ℕ → ℕ) → IsWordOf times size n generator a → IsWordOf times size n generator b
      → IsWordOf times size n generator (λ p. bit_xor (a p) (times s (b p)))
  word-affine s a b one other = word-sum a (λ p. times s (b p)) one (word-multiple s b other)

-- ---- two points of a line

module _ (width : ℕ) (times : ℕ → ℕ → ℕ) (wide : 0 < width) (field : IsField width times) where
  -- what is added twice goes
  pub xor-twice : (a b : ℕ) → bit_xor (bit_xor a b) b ≡ a
  xor-twice a b = xor_assoc a b b ∙ ap (bit_xor a) (xor_self b) ∙ xor_zero_r a

  -- u + x v = s + x t and u + y v = s + y t, at two different points, only for one line
  pub two-points : (x y u v s t : ℕ) → x < 2 ^ width → y < 2 ^ width → (x ≡ y → ⊥) → v < 2 ^ width → t < 2 ^ width
      → bit_xor u (times x v) ≡ bit_xor s (times x t) → bit_xor u (times y v) ≡ bit_xor s (times y t)
      → (u ≡ s) × (v ≡ t)
  two-points x y u v s t x_fits y_fits differ v_fits t_fits at_x at_y = (
    sym (xor-twice u (times x v)) ∙ ap₂ bit_xor at_x (ap (times x) same) ∙ xor-twice s (times x t),
    same,
  )
    where
      sum : ℕ
      sum = bit_xor x y

      -- (u + x v) + (u + y v) = (x + y) v
      difference : (u v : ℕ) → bit_xor (bit_xor u (times x v)) (bit_xor u (times y v)) ≡ times (bit_xor x y) v
      difference u v =
          ap (λ (a : ℕ). bit_xor a (bit_xor u (times y v))) (xor_comm u (times x v))
          ∙ xor_assoc (times x v) u (bit_xor u (times y v)) ∙ ap (bit_xor (times x v)) (xor_cancel u (times y v))
          ∙ sym (sum_times width 1 times field.ring x y v)

      equal : times sum v ≡ times sum t
      equal = sym (difference u v) ∙ ap₂ bit_xor at_x at_y ∙ difference s t

      inverse : (i : ℕ) × (i < 2 ^ width) × (times sum i ≡ 1)
      inverse = field.inverses sum (xor_lt width x y x_fits y_fits) (λ e. differ (xor_nothing x y e))

      undone : (a : ℕ) → a < 2 ^ width → times inverse.0 (times sum a) ≡ a
      undone a fits =
          sym (field.ring.assoc inverse.0 sum a) ∙ ap (λ (b : ℕ). times b a) (field.ring.comm inverse.0 sum ∙ inverse.2)
          ∙ field.ring.one a ∙ mod-eq_of_lt fits

      same : v ≡ t
      same = sym (undone v v_fits) ∙ ap (times inverse.0) equal ∙ undone t t_fits
