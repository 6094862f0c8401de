-- The sum of the products of values on two lines is a polynomial of degree 2, whose coefficients are sums of products.
use Rattle.std.proofs.Common.{◌≡◌, ℕ, ◌/◌, ◌%◌, List, [], ◌∷◌, length, map, take, drop, refl, sym, ◌∙◌, ap, ap₂, arith}
use Rattle.std.specs.Prelude.{bit_xor}
use Rattle.std.specs.Simd.Lanes.{zip2}
use Rattle.std.proofs.lemmas.List.{length-drop, length-map, length-take-le, take-map}
use Rattle.std.proofs.lemmas.Nat.{xor_comm}
use lib.Bits.{xor_assoc}
use Rattle.field_base.specs.Powers.{dot_of}
use Rattle.field_base.specs.Ring.{IsRing}
use Rattle.field_base.proofs.RingLemmas.{xor_cancel, xor_left_comm, sum_times, times_left_comm, zero-times}
use Rattle.field_slices.specs.Multilinear.{folded, on_line}
use Rattle.field_slices.proofs.CubeTables.{drop-map}
use Rattle.field_slices.specs.Sumcheck.{Quadratic, quadratic_at, sum_of_products}

module _ {width : ℕ} {times : ℕ → ℕ → ℕ} (ring : IsRing width 1 times) where
  -- the polynomial with these sums of products of the lower halves, the upper halves, and one of each
  pub round_of : ℕ → ℕ → ℕ → ℕ → ℕ → ℕ
  round_of x low high first second =
      bit_xor low (bit_xor (times (bit_xor first second) x) (times (bit_xor (bit_xor low high) (bit_xor first second)) (times x x)))

  -- of one pair of values on each line
  round-pair : (x l u k v : ℕ) → times (on_line times x l u) (on_line times x k v)
      ≡ round_of x (times l k) (times u v) (times l v) (times u k)
  unfolding round_of
  round-pair x l u k v =
      simp (
        sum_times width 1 times ring,
        ring.over_sum,
        ring.assoc,
        ring.comm,
        times_left_comm width 1 times ring,
        xor_assoc,
        xor_comm,
        xor_left_comm,
        xor_cancel,
      )

  -- sums of both
  round-sum : (x low high first second low' high' first' second' : ℕ)
      → bit_xor (round_of x low high first second) (round_of x low' high' first' second')
      ≡ round_of x (bit_xor low low') (bit_xor high high') (bit_xor first first') (bit_xor second second')
  unfolding round_of
  round-sum x low high first second low' high' first' second' =
      simp (sum_times width 1 times ring, xor_assoc, xor_left_comm)

  round-none : (x : ℕ) → 0 ≡ round_of x 0 0 0 0
  unfolding round_of
  round-none x = sym (ap₂ bit_xor (zero-times width 1 times ring x) (zero-times width 1 times ring (times x x)))

  -- of lists of values of one length
  pub round-lists : (x : ℕ) (ls us ks vs : List ℕ) → length us ≡ length ls → length ks ≡ length ls → length vs ≡ length ls
      → sum_of_products times (zip2 (on_line times x) ls us) (zip2 (on_line times x) ks vs)
      ≡ round_of x (sum_of_products times ls ks) (sum_of_products times us vs) (sum_of_products times ls vs) (sum_of_products times us ks)
  round-lists x [] [] [] [] e1 e2 e3 = round-none x
  round-lists x (l ∷ ls) (u ∷ us) (k ∷ ks) (v ∷ vs) e1 e2 e3 =
      ap₂ bit_xor (round-pair x l u k v) (round-lists x ls us ks vs (omega (arith, e1)) (omega (arith, e2)) (omega (arith, e3)))
      ∙ round-sum x (times l k) (times u v) (times l v) (times u k) (sum_of_products times ls ks) (sum_of_products times us vs)
      (sum_of_products times ls vs) (sum_of_products times us ks)
  round-lists x [] (u ∷ us) ks vs e1 e2 e3 = absurd (omega (arith, e1))
  round-lists x [] [] (k ∷ ks) vs e1 e2 e3 = absurd (omega (arith, e2))
  round-lists x [] [] [] (v ∷ vs) e1 e2 e3 = absurd (omega (arith, e3))
  round-lists x (l ∷ ls) [] ks vs e1 e2 e3 = absurd (omega (arith, e1))
  round-lists x (l ∷ ls) (u ∷ us) [] vs e1 e2 e3 = absurd (omega (arith, e2))
  round-lists x (l ∷ ls) (u ∷ us) (k ∷ ks) [] e1 e2 e3 = absurd (omega (arith, e3))

  -- the sum of products of elements is that of their numbers
  pub dot-numbers : {A : Type 0} (repr : A → ℕ) (xs ys : List A) → dot_of times repr xs ys ≡ sum_of_products times (map repr xs) (map repr ys)
  dot-numbers repr [] ys = refl
  dot-numbers repr (a ∷ xs) [] = refl
  dot-numbers repr (a ∷ xs) (b ∷ ys) = ap (bit_xor (times (repr a) (repr b))) (dot-numbers repr xs ys)

  -- the message of elements whose sums of products are known
  pub round-message : {A : Type 0} (repr : A → ℕ) (left right lower upper other_lower other_upper : List A) (g : Quadratic) (x : ℕ)
      → length right ≡ length left → length left % 2 ≡ 0
      → lower ≡ take (length left / 2) left → upper ≡ drop (length left / 2) left
      → other_lower ≡ take (length right / 2) right → other_upper ≡ drop (length right / 2) right
      → g.constant ≡ dot_of times repr lower other_lower
      → g.linear ≡ bit_xor (dot_of times repr lower other_upper) (dot_of times repr upper other_lower)
      → g.quadratic ≡ bit_xor (bit_xor (dot_of times repr lower other_lower) (dot_of times repr upper other_upper))
      (bit_xor (dot_of times repr lower other_upper) (dot_of times repr upper other_lower))
      → quadratic_at times g x ≡ sum_of_products times (folded times x (map repr left)) (folded times x (map repr right))
  unfolding round_of
  round-message {A} repr left right lower upper other_lower other_upper g x same even is_lower is_upper is_other_lower is_other_upper
      constant linear quadratic =
      ap₂ bit_xor (constant ∙ dot-numbers repr lower other_lower)
      (ap₂ bit_xor
      (ap (λ (n : ℕ). times n x) (linear ∙ ap₂ bit_xor (dot-numbers repr lower other_upper) (dot-numbers repr upper other_lower)))
      (ap (λ (n : ℕ). times n (times x x))
      (quadratic ∙ ap₂ bit_xor (ap₂ bit_xor (dot-numbers repr lower other_lower) (dot-numbers repr upper other_upper))
      (ap₂ bit_xor (dot-numbers repr lower other_upper) (dot-numbers repr upper other_lower)))))
      ∙ sym (round-lists x (map repr lower) (map repr upper) (map repr other_lower) (map repr other_upper)
      (length-map upper repr ∙ upper_long ∙ sym (length-map lower repr)) (length-map other_lower repr ∙ other_long ∙ sym (length-map lower repr))
      (length-map other_upper repr ∙ other_upper_long ∙ sym (length-map lower repr)))
      ∙ sym (ap₂ (sum_of_products times) (parts left lower upper is_lower is_upper) (parts right other_lower other_upper is_other_lower is_other_upper))
    where
      half-long : (zs : List A) → length (take (length zs / 2) zs) ≡ length zs / 2
      half-long zs = length-take-le (length zs / 2) zs (omega arith)

      rest-long : (zs : List A) → length zs % 2 ≡ 0 → length (drop (length zs / 2) zs) ≡ length zs / 2
      rest-long zs whole = length-drop (length zs / 2) zs ∙ omega (arith, whole)

      lower_long : length lower ≡ length left / 2
      lower_long = ap length is_lower ∙ half-long left

      upper_long : length upper ≡ length lower
      upper_long = ap length is_upper ∙ rest-long left even ∙ sym lower_long

      other_long : length other_lower ≡ length lower
      other_long = ap length is_other_lower ∙ half-long right ∙ ap (λ (n : ℕ). n / 2) same ∙ sym lower_long

      other_upper_long : length other_upper ≡ length lower
      other_upper_long =
          ap length is_other_upper ∙ rest-long right (ap (λ (n : ℕ). n % 2) same ∙ even) ∙ ap (λ (n : ℕ). n / 2) same ∙ sym lower_long

      parts : (zs front back : List A) → front ≡ take (length zs / 2) zs → back ≡ drop (length zs / 2) zs
          → folded times x (map repr zs) ≡ zip2 (on_line times x) (map repr front) (map repr back)
      parts zs front back is_front is_back =
          ap (λ (n : ℕ). zip2 (on_line times x) (take (n / 2) (map repr zs)) (drop (n / 2) (map repr zs))) (length-map zs repr)
          ∙ ap₂ (zip2 (on_line times x))
          (take-map repr (length zs / 2) zs ∙ ap (map repr) (sym is_front))
          (drop-map repr (length zs / 2) zs ∙ ap (map repr) (sym is_back))
