-- Repeated squarings and traces in a quadratic extension. Where the coefficient t of X² + t X + 1 and its inverse s
-- have the trace 1 in a ring of w-bit elements that w squarings leave as they are, the polynomial has no root there, and
-- X and its inverse X + t are such a t and such an s of the extension.
use Rattle.std.proofs.Common.{◌≡◌, ◌≢◌, ℕ, zero, suc, ◌+◌, ◌%◌, ◌^◌, ◌<◌, refl, sym, ◌∙◌, ap, ap₂, arith}
use Rattle.std.specs.Prelude.{bit_xor}
use Rattle.std.proofs.lemmas.Nat.{xor_comm, pow_pos, pow_below}
use native.Mathlib.Nat.{mod-eq_of_lt, suc-ne-zero}
use lib.Bits.{xor_assoc, xor_self, xor_zero_r}
use Rattle.field_base.specs.Ring.{IsRing}
use Rattle.field_base.specs.Quadratic.{low_half, high_half, pair, quadratic}
use Rattle.field_base.specs.Norm.{conjugate}
use Rattle.field_base.specs.Powers.{repeated_square, sum_of_squarings}
use Rattle.field_base.proofs.RingLemmas.{xor_left_comm, xor_cancel, xor_nothing, times_left_comm, times-zero, zero-times}
use Rattle.field_base.proofs.PowerLemmas.{one-times, times-one, square_times, repeated_square-lt, repeated_square-mod, repeated_square_xor, repeated_square_times, repeated_square_square, repeated_square-add, sum_of_squarings-mod, sum_of_squarings_xor, sum_of_squarings-telescope, sum_of_squarings-add}
use Rattle.field_base.proofs.QuadraticRing.{low_half-lt, high_half-lt, low_half-pair, high_half-pair, pair-halves, pair-lt, pair_xor, quadratic_ring}
use Rattle.field_base.proofs.QuadraticProducts.{pair-low, pair-root, quadratic-low, quadratic-low_times, quadratic-square_pair, quadratic-root}

-- a ring of w-bit elements in which w squarings return each element, and t and its inverse s have the trace 1
pub record HasUnitTraces (width : ℕ) (times : ℕ → ℕ → ℕ) (t s : ℕ) : Type 0 where
  -- there is a bit
  pub wide : 0 < width
  -- t is an element
  pub t_fits : t < 2 ^ width
  -- s is an element
  pub s_fits : s < 2 ^ width
  -- s is the inverse of t
  pub unit : times t s ≡ 1
  -- w squarings return each element
  pub returns : (a : ℕ) → repeated_square 1 times width a ≡ a % 2 ^ width
  -- the trace of t is 1
  pub t_trace : sum_of_squarings 1 times width t ≡ 1
  -- the trace of its inverse is 1
  pub s_trace : sum_of_squarings 1 times width s ≡ 1

-- the halves of an element as a sum
pub pair_as_sum : (width low high : ℕ) → low < 2 ^ width → pair width low high ≡ bit_xor low (pair width 0 high)
pair_as_sum width low high fits =
    ap (λ (x : ℕ). pair width x high) (sym (xor_zero_r low)) ∙ pair_xor width low 0 0 high fits (pow_pos width)
    ∙ ap (λ (x : ℕ). bit_xor x (pair width 0 high)) (pair-low width low)

module _ (width : ℕ) (times : ℕ → ℕ → ℕ) (ring : IsRing width 1 times) (t s : ℕ) (given : HasUnitTraces width times t s) where
  -- the trace of a square is that of the element
  trace_square : (a : ℕ) → sum_of_squarings 1 times width (times a a) ≡ sum_of_squarings 1 times width a
  trace_square a =
      sum_of_squarings-telescope width 1 times ring width a
      ∙ ap (bit_xor (sum_of_squarings 1 times width a))
      (ap₂ bit_xor (ring.one a) (given.returns a) ∙ xor_self (a % 2 ^ width))
      ∙ xor_zero_r (sum_of_squarings 1 times width a)

  -- the square of the inverse s of t has the trace 1, too
  s_square-trace : sum_of_squarings 1 times width (times s s) ≡ 1
  s_square-trace = trace_square s ∙ given.s_trace

  -- ---- the polynomial has no root

  -- a root x makes z² + z = s², of z = s x
  scaled_root : (x : ℕ) → bit_xor (times x x) (times t x) ≡ 1
      → bit_xor (times (times s x) (times s x)) (times s x) ≡ times s s
  scaled_root x root =
      ap₂ bit_xor (square_times width 1 times ring s x) linear
      ∙ sym (ring.over_sum (times s s) (times x x) (times t x))
      ∙ ap (times (times s s)) root ∙ times-one width 1 times ring (times s s) (ring.below s s)
    where
      linear : times s x ≡ times (times s s) (times t x)
      linear =
          sym (one-times width 1 times ring (times s x) (ring.below s x))
          ∙ ap (λ (y : ℕ). times y (times s x)) (sym given.unit)
          ∙ simp (ring.assoc, times_left_comm width 1 times ring)

  -- X² + t X + 1 has no root in the ring below
  pub quadratic-no_root : (x : ℕ) → bit_xor (bit_xor (times x x) (times t x)) 1 ≢ 0
  quadratic-no_root x root = suc-ne-zero 0 (sym no_trace)
    where
      scaled : bit_xor (times (times s x) (times s x)) (times s x) ≡ times s s
      scaled = scaled_root x (xor_nothing (bit_xor (times x x) (times t x)) 1 root)

      no_trace : ◌≡◌ {A = ℕ} 0 1
      no_trace =
          sym (xor_self (sum_of_squarings 1 times width (times s x)))
          ∙ ap (λ (y : ℕ). bit_xor y (sum_of_squarings 1 times width (times s x))) (sym (trace_square (times s x)))
          ∙ sym (sum_of_squarings_xor width 1 times ring width (times (times s x) (times s x)) (times s x))
          ∙ ap (sum_of_squarings 1 times width) scaled ∙ s_square-trace

  -- ---- elements of the ring below, in the extension

  -- 1 is an element
  one_fits : 1 < 2 ^ width
  one_fits = pow_below 0 width given.wide

  -- the extension is a ring
  extended : IsRing (width + width) 1 (quadratic width times t)
  extended = quadratic_ring width times ring t given.wide

  -- elements of the ring below are squared there
  repeated_square-low : (n a : ℕ) → a < 2 ^ width → repeated_square 1 (quadratic width times t) n a ≡ repeated_square 1 times n a
  unfolding repeated_square
  repeated_square-low zero a fits = quadratic-low width times ring t 1 a one_fits fits
  repeated_square-low (suc n) a fits =
      ap (λ (x : ℕ). quadratic width times t x x) (repeated_square-low n a fits)
      ∙ quadratic-low width times ring t (repeated_square 1 times n a) (repeated_square 1 times n a) (repeated_square-lt width 1 times ring n a)
      (repeated_square-lt width 1 times ring n a)

  -- and their sums of squarings are those there
  sum_of_squarings-low : (n a : ℕ) → a < 2 ^ width
      → sum_of_squarings 1 (quadratic width times t) n a ≡ sum_of_squarings 1 times n a
  unfolding sum_of_squarings
  sum_of_squarings-low zero a fits = refl
  sum_of_squarings-low (suc n) a fits = ap₂ bit_xor (sum_of_squarings-low n a fits) (repeated_square-low n a fits)

  -- ---- w squarings in the extension conjugate

  -- y = s X has the square y + s²
  scaled_root-square : quadratic width times t (pair width 0 s) (pair width 0 s) ≡ bit_xor (times s s) (pair width 0 s)
  scaled_root-square =
      quadratic-square_pair width times ring t 0 s (pow_pos width) given.s_fits
      ∙ ap₂ (pair width) (ap (λ (x : ℕ). bit_xor x (times s s)) (zero-times width 1 times ring 0)) high
      ∙ pair_as_sum width (times s s) s (ring.below s s)
    where
      high : times t (times s s) ≡ s
      high =
          sym (ring.assoc t s s) ∙ ap (λ (x : ℕ). times x s) given.unit ∙ one-times width 1 times ring s given.s_fits

  -- so n squarings add to it the first n squares of s²
  scaled_root-repeated_square : (n : ℕ) → repeated_square 1 (quadratic width times t) n (pair width 0 s)
      ≡ bit_xor (pair width 0 s) (sum_of_squarings 1 times n (times s s))
  unfolding repeated_square sum_of_squarings
  scaled_root-repeated_square zero =
      one-times (width + width) 1 (quadratic width times t) extended (pair width 0 s)
      (pair-lt width 0 s (pow_pos width) given.s_fits)
      ∙ sym (xor_zero_r (pair width 0 s))
  scaled_root-repeated_square (suc n) =
      sym (repeated_square_square (width + width) 1 (quadratic width times t) extended n (pair width 0 s))
      ∙ ap (repeated_square 1 (quadratic width times t) n) scaled_root-square
      ∙ repeated_square_xor (width + width) 1 (quadratic width times t) extended n (times s s) (pair width 0 s)
      ∙ ap₂ bit_xor (repeated_square-low n (times s s) (ring.below s s)) (scaled_root-repeated_square n)
      ∙ regrouped (repeated_square 1 times n (times s s)) (pair width 0 s) (sum_of_squarings 1 times n (times s s))
    where
      regrouped : (next y sum : ℕ) → bit_xor next (bit_xor y sum) ≡ bit_xor y (bit_xor sum next)
      regrouped next y sum = simp (xor_comm, xor_left_comm)

  -- an element of the ring below times y
  low_times-scaled_root : (a1 : ℕ) → a1 < 2 ^ width
      → quadratic width times t (times t a1) (pair width 0 s) ≡ pair width 0 a1
  low_times-scaled_root a1 fits =
      quadratic-low_times width times ring t (times t a1) (pair width 0 s) (ring.below t a1)
      ∙ ap₂ (λ (x z : ℕ). pair width (times (times t a1) x) (times (times t a1) z))
      (low_half-pair width 0 s (pow_pos width)) (high_half-pair width 0 s (pow_pos width) given.s_fits)
      ∙ ap₂ (pair width) (times-zero width 1 times ring (times t a1)) high
    where
      high : times (times t a1) s ≡ a1
      high =
          ap (λ (x : ℕ). times x s) (ring.comm t a1) ∙ ring.assoc a1 t s ∙ ap (times a1) given.unit
          ∙ times-one width 1 times ring a1 fits

  -- w squarings of a1 X = t a1 y add t a1 to it
  high-repeated_square : (a1 : ℕ) → a1 < 2 ^ width
      → repeated_square 1 (quadratic width times t) width (pair width 0 a1) ≡ bit_xor (pair width 0 a1) (times t a1)
  high-repeated_square a1 fits =
      ap (repeated_square 1 (quadratic width times t) width) (sym (low_times-scaled_root a1 fits))
      ∙ repeated_square_times (width + width) 1 (quadratic width times t) extended width (times t a1) (pair width 0 s)
      ∙ ap₂ (quadratic width times t)
      (repeated_square-low width (times t a1) (ring.below t a1) ∙ given.returns (times t a1)
      ∙ mod-eq_of_lt (ring.below t a1))
      (scaled_root-repeated_square width ∙ ap (bit_xor (pair width 0 s)) s_square-trace)
      ∙ extended.over_sum (times t a1) (pair width 0 s) 1
      ∙ ap₂ bit_xor (low_times-scaled_root a1 fits)
      (quadratic-low width times ring t (times t a1) 1 (ring.below t a1) one_fits
      ∙ times-one width 1 times ring (times t a1) (ring.below t a1))

  -- w squarings take a0 + a1 X to its conjugate (a0 + t a1) + a1 X, for halves given
  half-repeated_square : (a0 a1 : ℕ) → a0 < 2 ^ width → a1 < 2 ^ width
      → repeated_square 1 (quadratic width times t) width (pair width a0 a1) ≡ bit_xor (pair width a0 a1) (times t a1)
  half-repeated_square a0 a1 low_fits high_fits =
      ap (repeated_square 1 (quadratic width times t) width) (pair_as_sum width a0 a1 low_fits)
      ∙ repeated_square_xor (width + width) 1 (quadratic width times t) extended width a0 (pair width 0 a1)
      ∙ ap₂ bit_xor (repeated_square-low width a0 low_fits ∙ given.returns a0 ∙ mod-eq_of_lt low_fits) (high-repeated_square a1 high_fits)
      ∙ sym (xor_assoc a0 (pair width 0 a1) (times t a1))
      ∙ ap (λ (x : ℕ). bit_xor x (times t a1)) (sym (pair_as_sum width a0 a1 low_fits))

  -- w squarings take a to a + t a1, where a1 is its high half
  pub repeated_square-half : (a : ℕ) → repeated_square 1 (quadratic width times t) width a
      ≡ bit_xor (a % 2 ^ (width + width)) (times t (high_half width a))
  repeated_square-half a =
      sym (repeated_square-mod (width + width) 1 (quadratic width times t) extended width a)
      ∙ ap (repeated_square 1 (quadratic width times t) width) (sym (pair-halves width a))
      ∙ half-repeated_square (low_half width a) (high_half width a) (low_half-lt width a) (high_half-lt width a)
      ∙ ap (λ (x : ℕ). bit_xor x (times t (high_half width a))) (pair-halves width a)

  -- w squarings of an element are its conjugate
  pub repeated_square-conjugate : (a : ℕ) → repeated_square 1 (quadratic width times t) width a ≡ conjugate width times t a
  repeated_square-conjugate a =
      repeated_square-half a
      ∙ ap₂ bit_xor (sym (pair-halves width a)) (sym (pair-low width (times t (high_half width a))))
      ∙ sym (pair_xor width (low_half width a) (high_half width a) (times t (high_half width a)) 0 (low_half-lt width a)
      (ring.below t (high_half width a)))
      ∙ ap (pair width (bit_xor (low_half width a) (times t (high_half width a)))) (xor_zero_r (high_half width a))

  -- and 2 w squarings return the element
  pub repeated_square-whole : (a : ℕ) → repeated_square 1 (quadratic width times t) (width + width) a ≡ a % 2 ^ (width + width)
  repeated_square-whole a =
      repeated_square-add (width + width) 1 (quadratic width times t) extended width width a
      ∙ ap (repeated_square 1 (quadratic width times t) width) (repeated_square-half a)
      ∙ repeated_square_xor (width + width) 1 (quadratic width times t) extended width (a % 2 ^ (width + width)) e
      ∙ ap₂ bit_xor
      (repeated_square-mod (width + width) 1 (quadratic width times t) extended width a ∙ repeated_square-half a)
      (repeated_square-low width e (ring.below t (high_half width a)) ∙ given.returns e
      ∙ mod-eq_of_lt (ring.below t (high_half width a)))
      ∙ xor_assoc (a % 2 ^ (width + width)) e e
      ∙ ap (bit_xor (a % 2 ^ (width + width))) (xor_self e) ∙ xor_zero_r (a % 2 ^ (width + width))
    where
      e : ℕ
      e = times t (high_half width a)

  -- ---- the trace of an element is that of t times its high half, below

  -- the trace of a0 + a1 X in the extension is the trace of t a1 in the ring below
  pub quadratic-trace : (a : ℕ) → sum_of_squarings 1 (quadratic width times t) (width + width) a
      ≡ sum_of_squarings 1 times width (times t (high_half width a))
  quadratic-trace a =
      sum_of_squarings-add (width + width) 1 (quadratic width times t) extended width width a
      ∙ ap (λ (x : ℕ). bit_xor whole (sum_of_squarings 1 (quadratic width times t) width x)) (repeated_square-half a)
      ∙ ap (bit_xor whole)
      (sum_of_squarings_xor (width + width) 1 (quadratic width times t) extended width (a % 2 ^ (width + width)) e
      ∙ ap₂ bit_xor (sum_of_squarings-mod (width + width) 1 (quadratic width times t) extended width a)
      (sum_of_squarings-low width e (ring.below t (high_half width a))))
      ∙ xor_cancel whole (sum_of_squarings 1 times width e)
    where
      e : ℕ
      e = times t (high_half width a)

      whole : ℕ
      whole = sum_of_squarings 1 (quadratic width times t) width a

  -- an element whose high half is 1 has the trace of t
  trace-of_one : (a : ℕ) → high_half width a ≡ 1 → sum_of_squarings 1 (quadratic width times t) (width + width) a ≡ 1
  trace-of_one a high =
      quadratic-trace a
      ∙ ap (sum_of_squarings 1 times width) (ap (times t) high ∙ times-one width 1 times ring t given.t_fits)
      ∙ given.t_trace

  -- X (X + t) = 1
  root-times_inverse : quadratic width times t (2 ^ width) (pair width t 1) ≡ 1
  root-times_inverse =
      quadratic-root width times ring t given.wide (pair width t 1)
      ∙ ap₂ (λ (low high : ℕ). pair width high (bit_xor low (times t high)))
      (low_half-pair width t 1 given.t_fits) (high_half-pair width t 1 given.t_fits one_fits)
      ∙ ap (pair width 1) (ap (bit_xor t) (times-one width 1 times ring t given.t_fits) ∙ xor_self t) ∙ pair-low width 1

  -- so the extension by X has the root X and its inverse X + t of trace 1
  pub quadratic-unit_traces : HasUnitTraces (width + width) (quadratic width times t) (2 ^ width) (pair width t 1)
  quadratic-unit_traces = record {
    wide = omega (arith, given.wide);
    t_fits = pow_below width (width + width) (omega (arith, given.wide));
    s_fits = pair-lt width t 1 given.t_fits one_fits;
    unit = root-times_inverse;
    returns = repeated_square-whole;
    t_trace = trace-of_one (2 ^ width)
        (ap (high_half width) (sym (pair-root width)) ∙ high_half-pair width 0 1 (pow_pos width) one_fits);
    s_trace = trace-of_one (pair width t 1) (high_half-pair width t 1 given.t_fits one_fits);
  }
