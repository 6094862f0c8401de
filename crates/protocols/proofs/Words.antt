-- The values of a polynomial, block by block, are a code word, and as many symbols as the message has determine it.
use Rattle.std.proofs.Common.{◌≡◌, ◌⊎◌, inl, inr, ℕ, ◌+◌, ◌-◌, ◌*◌, ◌%◌, ◌^◌, ◌<◌, ◌≤◌, List, ◌++◌, length, map, take, drop, sym, ◌∙◌, ap, subst, le_trans, arith, lit<}
use Rattle.std.specs.Prelude.{slice_index}
use Rattle.std.proofs.Math.Nat.{add-mul, pow-le-pow_right}
use Rattle.std.proofs.Math.Pow.{shl_exact}
use Rattle.std.proofs.lemmas.Bool.{cases_lt}
use Rattle.std.proofs.lemmas.Grind.{same_number_lists}
use Rattle.std.proofs.lemmas.List.{get_or_append_left, get_or-append_right, length-append, take_at}
use Rattle.std.proofs.lemmas.Nat.{pow-add}
use native.Mathlib.Nat.{one-mul}
use Rattle.field_base.specs.Field.{IsField}
use Rattle.field_base.specs.Orders.{AreCantorVectors}
use Rattle.field_base.specs.PolynomialRoots.{AreDistinctBelow}
use Rattle.field_base.proofs.Polynomials.{polynomial-unique}
use Rattle.ghash_slices.specs.Cantor.{point, polynomial_value}
use Rattle.ghash_slices.proofs.CantorValues.{points_are_distinct}
use Rattle.additive_transforms.specs.Elements.{FitsField}
use Rattle.additive_transforms.specs.Transform.{HoldValuesAtPoints}
use Rattle.protocols.specs.CodeWords.{IsCodeWordOf, PartsDetermine}
use Rattle.additive_transforms.proofs.BlockPoints.{point-joined, point-lt}
use Rattle.additive_transforms.proofs.BasisPolynomials.{value-polynomial}

-- ---- blocks

-- values of elements under other names: the same shift, the same coefficients, the same places
pub same_values : {X : Type 0} (repr : X → ℕ) (width : ℕ) (times : ℕ → ℕ → ℕ) (vector : ℕ → ℕ) (z y : ℕ) (from before to behind : List X)
    → z ≡ y → from ≡ before → to ≡ behind → HoldValuesAtPoints width times vector z (map repr from) (map repr to)
    → HoldValuesAtPoints width times vector y (map repr before) (map repr behind)
same_values repr width times vector z y from before to behind shift coefficients places holds =
    subst (λ (n : ℕ). HoldValuesAtPoints width times vector n (map repr before) (map repr behind)) shift
    (subst (λ l. HoldValuesAtPoints width times vector z (map repr l) (map repr behind)) coefficients
    (subst (λ l. HoldValuesAtPoints width times vector z (map repr from) (map repr l)) places holds))

-- so many values of a list can be transformed
pub fits-held : {X : Type 0} (width levels : ℕ) (values held : List X) → held ≡ values → levels ≤ 40 → levels ≤ width
    → length values ≡ 2 ^ levels → FitsField width (length held)
fits-held width levels values held same few points count = (levels, (few, ap length same ∙ count), points)

-- .. where one of both lists was written over a vector's slice of as many elements
module _ {X : Type 0} (repr : X → ℕ) (width : ℕ) (times : ℕ → ℕ → ℕ) (vector : ℕ → ℕ) (z y : ℕ) (shift : z ≡ y)
    (from before after held : List X) (same : from ≡ before) (len : ℕ) (long : length after ≡ len) where
  pub values-written : HoldValuesAtPoints width times vector z (map repr from) (map repr after)
      → HoldValuesAtPoints width times vector y (map repr before) (map repr (take len (after ++ drop (length after) held)))
  values-written =
      same_values repr width times vector z y from before after (take len (after ++ drop (length after) held)) shift same
      (sym (take_at after (drop (length after) held) len long))

  pub coefficients-written : HoldValuesAtPoints width times vector z (map repr after) (map repr from)
      → HoldValuesAtPoints width times vector y (map repr (take len (after ++ drop (length after) held))) (map repr before)
  coefficients-written =
      same_values repr width times vector z y after (take len (after ++ drop (length after) held)) from before shift
      (sym (take_at after (drop (length after) held) len long)) same

module _ (width : ℕ) (times : ℕ → ℕ → ℕ) (vector : ℕ → ℕ) (k : ℕ) (coefficients : List ℕ) where
  abbrev value : ℕ → ℕ
  value p = polynomial_value times k (slice_index coefficients) (point width vector 0 p)

  -- the values at the points of the first blocks
  abbrev pub AreBlocks : ℕ → List ℕ → Type 0
  AreBlocks blocks word = (length word ≡ blocks * 2 ^ k) × ((p : ℕ) → p < blocks * 2 ^ k → slice_index word p ≡ value p)

module _ (width : ℕ) (times : ℕ → ℕ → ℕ) (vector : ℕ → ℕ) (k : ℕ) (coefficients : List ℕ) (count : length coefficients ≡ 2 ^ k) where
  -- the first block
  pub first_block : (word : List ℕ) → length word ≡ 2 ^ k → HoldValuesAtPoints width times vector 0 coefficients word → AreBlocks width times vector k coefficients 1 word
  first_block word size holds =
      let one : 1 * 2 ^ k ≡ 2 ^ k = one-mul (2 ^ k) in
      (size ∙ sym one, λ p below. holds k count p (omega (arith, below, one)))

  -- and one more
  pub next_block : (blocks : ℕ) (word block : List ℕ) → length block ≡ 2 ^ k → AreBlocks width times vector k coefficients blocks word
      → HoldValuesAtPoints width times vector (point width vector 0 (blocks * 2 ^ k)) coefficients block
      → AreBlocks width times vector k coefficients (blocks + 1) (word ++ block)
  next_block blocks word block size so_far holds = (
    let longer = length-append word block in let before = so_far.0 in omega (arith, more, longer, before, size),
    λ p below. pick p below (cases_lt p (blocks * 2 ^ k)),
  )
    where
      more : (blocks + 1) * 2 ^ k ≡ blocks * 2 ^ k + 2 ^ k
      more = add-mul blocks 1 (2 ^ k) ∙ ap (λ (n : ℕ). blocks * 2 ^ k + n) (one-mul (2 ^ k))

      pick : (p : ℕ) → p < (blocks + 1) * 2 ^ k → (p < blocks * 2 ^ k) ⊎ (blocks * 2 ^ k ≤ p) → slice_index (word ++ block) p ≡ value width times vector k coefficients p
      pick p below (inl lower) =
          let before = so_far.0 in
          get_or_append_left word block 0 p (omega (arith, before, lower)) ∙ so_far.1 p lower
      pick p below (inr upper) =
          let rest : p - blocks * 2 ^ k < 2 ^ k = omega (arith, more, below, upper) in
          let joined : blocks * 2 ^ k + (p - blocks * 2 ^ k) ≡ p = omega (arith, upper) in
          get_or-append_right word block (blocks * 2 ^ k) p 0 so_far.0 upper ∙ holds k count (p - blocks * 2 ^ k) rest
          ∙ ap (polynomial_value times k (slice_index coefficients))
          (point-joined vector k blocks (p - blocks * 2 ^ k) rest width 0 ∙ ap (point width vector 0) joined)

  -- 2 ^ r blocks are a code word
  pub whole_word : (r : ℕ) (word : List ℕ) → AreBlocks width times vector k coefficients (2 ^ r) word → IsCodeWordOf width times vector k r word
  whole_word r word blocks =
      record {
        size = blocks.0;
        coefficients = coefficients;
        count = count;
        values = blocks.1;
      }

  -- a message and as much parity are a code word of rate 1 / 2
  pub two_blocks : (message parity : List ℕ) → length message ≡ 2 ^ k → length parity ≡ 2 ^ k
      → HoldValuesAtPoints width times vector 0 coefficients message
      → HoldValuesAtPoints width times vector (point width vector 0 (2 ^ k)) coefficients parity
      → IsCodeWordOf width times vector k 1 (message ++ parity)
  two_blocks message parity message_size parity_size first second =
      whole_word 1 (message ++ parity)
      (next_block 1 message parity parity_size (first_block message message_size first)
      (subst (λ (n : ℕ). HoldValuesAtPoints width times vector (point width vector 0 n) coefficients parity) (sym (one-mul (2 ^ k))) second))

-- a power of two below the width of a word, by a shift
pub shifted : (e : ℕ) → e ≤ 40 → (1 * 2 ^ e) % 2 ^ 64 ≡ 2 ^ e
shifted e few = shl_exact {a = 1} 1 e 64 (lit< tt) (omega (arith, few)) ∙ one-mul (2 ^ e)

-- ---- as many symbols as the message has

-- polynomials of 2 ^ k coefficients that agree at 2 ^ k different points are the same
module _ (width : ℕ) (times : ℕ → ℕ → ℕ) (vector : ℕ → ℕ) (wide : 0 < width) (field : IsField width times)
    (vectors : AreCantorVectors width times vector) (fit : (b : ℕ) → b < width → vector b < 2 ^ width) where
  pub values-determine : (k : ℕ) (one other : ℕ → ℕ) (place : ℕ → ℕ) → AreDistinctBelow (2 ^ k) (2 ^ width) place
      → ((i : ℕ) → i < 2 ^ k
      → polynomial_value times k one (point width vector 0 (place i)) ≡ polynomial_value times k other (point width vector 0 (place i)))
      → (x : ℕ) → polynomial_value times k one x ≡ polynomial_value times k other x
  values-determine k one other place distinct same =
      polynomial-unique width times field.ring field.inverses (2 ^ k) (polynomial_value times k one) (polynomial_value times k other)
      (value-polynomial width times wide field.ring k one) (value-polynomial width times wide field.ring k other)
      (λ i. point width vector 0 (place i)) (λ i below. point-lt width vector fit (place i)) apart same
    where
      apart : (i j : ℕ) → i < 2 ^ k → j < 2 ^ k → point width vector 0 (place i) ≡ point width vector 0 (place j) → i ≡ j
      apart i j i_below j_below e =
          distinct.differ i j i_below j_below
          (points_are_distinct width times vector wide field.ring vectors 0 (place i) (place j) (distinct.below i i_below)
          (distinct.below j j_below) e)

-- two code words that agree at 2 ^ k places are the same
pub parts_determine : PartsDetermine
parts_determine width times vector wide field vectors fit k r one other place few a b distinct agree =
    same_number_lists one other (a.size ∙ sym b.size)
    (λ p within.
    let below : p < 2 ^ r * 2 ^ k = omega (arith, within, a.size) in
    a.values p below
    ∙ values-determine width times vector wide field vectors fit k (slice_index a.coefficients) (slice_index b.coefficients) place
    (record { below = fits; differ = distinct.differ }) same (point width vector 0 p)
    ∙ sym (b.values p below))
  where
    fits : (i : ℕ) → i < 2 ^ k → place i < 2 ^ width
    fits i i_below =
        let below = distinct.below i i_below in
        let room : 2 ^ (r + k) ≤ 2 ^ width = pow-le-pow_right (lit< tt) few in
        le_trans below (subst (λ (n : ℕ). n ≤ 2 ^ width) (pow-add 2 r k) room)

    same : (i : ℕ) → i < 2 ^ k
        → polynomial_value times k (slice_index a.coefficients) (point width vector 0 (place i))
        ≡ polynomial_value times k (slice_index b.coefficients) (point width vector 0 (place i))
    same i below =
        sym (a.values (place i) (distinct.below i below)) ∙ agree i below ∙ b.values (place i) (distinct.below i below)
