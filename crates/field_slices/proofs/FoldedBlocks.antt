-- Folding block by block: what is wanted of a block, and that one block more is done.
use Rattle.std.proofs.Common.{◌≡◌, ℕ, zero, suc, ◌+◌, ◌^◌, ◌<◌, ◌≤◌, List, [], ◌∷◌, ◌++◌, length, map, take, drop, refl, sym, ◌∙◌, ap, ap₂, arith}
use Rattle.std.specs.Prelude.{bit_xor}
use Rattle.std.specs.Simd.Lanes.{zip2}
use Rattle.std.proofs.Math.Nat.{mod-eq_of_lt}
use Rattle.std.proofs.Math.Seq.{drop-drop, take-add}
use Rattle.std.proofs.lemmas.List.{drop-map, length-map, map-append, take-map, take_all}
use Rattle.std.proofs.lemmas.Nat.{xor_comm, xor_lt}
use Rattle.std.proofs.lemmas.Slice.{drop-put_mid, take-put_mid}
use lib.Bits.{xor_assoc}
use borrow.Rule.Slice.PartMut.{mid_of, put_mid}
use Rattle.field_base.specs.Ring.{IsRing}
use Rattle.field_base.proofs.RingLemmas.{xor_cancel, xor_left_comm}
use Rattle.field_base.proofs.Written.{both-length}
use Rattle.field_slices.specs.Multilinear.{on_line}

-- ---- parts of lists that are joined place by place

zip2-none : (f : ℕ → ℕ → ℕ) (xs : List ℕ) → zip2 f xs [] ≡ []
zip2-none f [] = refl
zip2-none f (x ∷ xs) = refl

zip2-take : (f : ℕ → ℕ → ℕ) (n : ℕ) (xs ys : List ℕ) → zip2 f (take n xs) (take n ys) ≡ take n (zip2 f xs ys)
zip2-take f zero xs ys = refl
zip2-take f (suc n) [] ys = refl
zip2-take f (suc n) (x ∷ xs) [] = refl
zip2-take f (suc n) (x ∷ xs) (y ∷ ys) = ap (λ (zs : List ℕ). f x y ∷ zs) (zip2-take f n xs ys)

zip2-drop : (f : ℕ → ℕ → ℕ) (n : ℕ) (xs ys : List ℕ) → zip2 f (drop n xs) (drop n ys) ≡ drop n (zip2 f xs ys)
zip2-drop f zero xs ys = refl
zip2-drop f (suc n) [] ys = refl
zip2-drop f (suc n) (x ∷ xs) [] = zip2-none f (drop n xs)
zip2-drop f (suc n) (x ∷ xs) (y ∷ ys) = zip2-drop f n xs ys

-- ---- a block, by its sums and its products

module _ (width unit : ℕ) (times : ℕ → ℕ → ℕ) (ring : IsRing width unit times) where
  -- y + (1 + r) (x + y) is on the line through x and y, at r
  line-from_end : (r s x y : ℕ) → x < 2 ^ width → y < 2 ^ width → s ≡ bit_xor unit r
      → bit_xor (times s (bit_xor x y)) y ≡ on_line times r x y
  line-from_end r s x y fits fits_too is =
      let sum = bit_xor x y in
      let product = times r sum in
      let once : times sum unit ≡ sum = ring.comm sum unit ∙ ring.one sum ∙ mod-eq_of_lt (xor_lt width x y fits fits_too) in
      ap (λ (z : ℕ). bit_xor z y)
      (ring.comm s sum ∙ ap (times sum) is ∙ ring.over_sum sum unit r ∙ ap₂ bit_xor once (ring.comm sum r))
      ∙ xor_comm (bit_xor sum product) y
      ∙ ap (bit_xor y) (xor_assoc x y product ∙ xor_left_comm x y product)
      ∙ xor_cancel y (bit_xor x product)

  -- so with that factor at each place
  pub block-line : {A : Type 0} (repr : A → ℕ) → ((x : A) → repr x < 2 ^ width) → (r factor : ℕ) → factor ≡ bit_xor unit r
      → (xs ys : List A) → length ys ≡ length xs
      → zip2 bit_xor (map (λ x. times factor x) (zip2 bit_xor (map repr xs) (map repr ys))) (map repr ys)
      ≡ zip2 (on_line times r) (map repr xs) (map repr ys)
  block-line repr range r factor is [] ys same = refl
  block-line repr range r factor is (x ∷ xs) [] same = absurd (omega (arith, same))
  block-line repr range r factor is (x ∷ xs) (y ∷ ys) same =
      ap₂ (λ (z : ℕ) (zs : List ℕ). z ∷ zs)
      (line-from_end r factor (repr x) (repr y) (range x) (range y) is)
      (block-line repr range r factor is xs ys (omega (arith, same)))

-- ---- a block more

module _ {A : Type 0} (repr : A → ℕ) (line : ℕ → ℕ → ℕ) (old upper : List A) where
  -- the places before n are done, and the others are as they were
  abbrev pub AreFolded : List A → ℕ → Type 0
  AreFolded now n =
      (take n (map repr now) ≡ take n (zip2 line (map repr old) (map repr upper))) × (drop n (map repr now) ≡ drop n (map repr old))

  module _ (now block : List A) (start taken size : ℕ) (so_far : AreFolded now start) (same : taken ≡ size) where
    -- what is wanted of the block
    block-wanted : map repr block ≡ zip2 line (map repr (mid_of start taken now)) (map repr (mid_of start taken upper))
        → map repr block ≡ take size (drop start (zip2 line (map repr old) (map repr upper)))
    block-wanted is =
        is
        ∙ ap₂ (zip2 line) (part now ∙ ap (take size) so_far.1) (part upper)
        ∙ zip2-take line size (drop start (map repr old)) (drop start (map repr upper))
        ∙ ap (take size) (zip2-drop line start (map repr old) (map repr upper))
      where
        part : (xs : List A) → map repr (mid_of start taken xs) ≡ take size (drop start (map repr xs))
        part xs =
            sym (take-map repr taken (drop start xs))
            ∙ ap₂ (λ (n : ℕ) (zs : List ℕ). take n zs) same (sym (drop-map repr start xs))

    pub block_more : start + size ≤ length now → length block ≡ size
        → map repr block ≡ zip2 line (map repr (mid_of start taken now)) (map repr (mid_of start taken upper))
        → AreFolded (put_mid start taken now block) (start + size)
    block_more within long is = (
      take-map repr (start + size) (put_mid start taken now block)
          ∙ ap (map repr) (take-put_mid start taken now block (start + size) (omega (arith, long)) (omega (arith, within)))
          ∙ map-append repr (take start now) block
          ∙ ap₂ (λ (us vs : List ℕ). us ++ vs) (sym (take-map repr start now) ∙ so_far.0) (block-wanted is)
          ∙ sym (take-add start size (zip2 line (map repr old) (map repr upper))),
      drop-map repr (start + size) (put_mid start taken now block)
          ∙ ap (map repr)
          (drop-put_mid start taken now block (start + size) (omega (arith, same)) (omega (arith, within)) (omega (arith, long, same)))
          ∙ sym (drop-map repr (start + size) now)
          ∙ sym (drop-drop size start (map repr now)) ∙ ap (drop size) so_far.1 ∙ drop-drop size start (map repr old),
    )

  -- past the last place all are done
  pub all-folded : (now : List A) (n : ℕ) → length now ≡ length old → length upper ≡ length old → length old ≤ n → AreFolded now n
      → map repr now ≡ zip2 line (map repr old) (map repr upper)
  all-folded now n same long past so_far =
      sym (take_all n (map repr now) (omega (arith, length-map now repr, same, past)))
      ∙ so_far.0
      ∙ take_all n (zip2 line (map repr old) (map repr upper)) (omega (arith, both-length repr repr line old upper long, past))
