-- What calls over slices of words do: which status they return, what they write, and that they keep it otherwise.
use Rattle.std.specs.Prelude.{◌≡◌, ◌≢◌, ℕ, ◌^◌, ◌<◌, ◌≤◌, List, length, get_or, bit_xor}
use Rattle.field_base.specs.Orders.{HasFullOrder}
use Rattle.field_base.specs.Powers.{dot_of, power, product_of, value_of}
use Rattle.many_words.specs.Fields.{WordField}
use Rattle.many_words.specs.Words.{AreElements, Each, EachOfTwo, HoldInverses, IsElement}
use Rattle.c_calls.specs.declared.status.TheConstants.{OK, LENGTH, NOT_AN_ELEMENT}

-- how a call ends: lengths that do not fit are told first, and then words that are no elements. Every other call does what it says;
-- and one that does not leaves what it would have written as it was
pub record CallOf {T : Type 0} (fits elements written : Type 0) (old new : T) (status : ℕ) : Type 0 where
  pub length : ¬ fits → status ≡ LENGTH
  pub element : fits → ¬ elements → status ≡ NOT_AN_ELEMENT
  pub ok : fits → elements → (status ≡ OK) × written
  pub kept : status ≢ OK → new ≡ old

module _ {W : Type 0} (field : WordField W) where
  -- a call that writes one word for each word
  abbrev pub CallOnEach : (ℕ → ℕ → Type 0) → List W → List W → List W → ℕ → Type 0
  CallOnEach relates xs old new status =
      CallOf (length xs ≡ length old) (AreElements field xs) (Each field relates xs new) old new status

  -- a call that writes one word for the words of two arrays
  abbrev pub CallOnTwo : (ℕ → ℕ → ℕ → Type 0) → List W → List W → List W → List W → ℕ → Type 0
  CallOnTwo relates xs ys old new status =
      CallOf ((length xs ≡ length old) × (length ys ≡ length old)) (AreElements field xs × AreElements field ys)
      (EachOfTwo field relates xs ys new) old new status

  -- sums
  abbrev pub Adds : List W → List W → List W → List W → ℕ → Type 0
  Adds xs ys old new status = CallOnTwo (λ x y z. z ≡ bit_xor x y) xs ys old new status

  -- products
  abbrev pub Multiplies : List W → List W → List W → List W → ℕ → Type 0
  Multiplies xs ys old new status = CallOnTwo (λ x y z. z ≡ field.times x y) xs ys old new status

  -- squares
  abbrev pub Squares : List W → List W → List W → ℕ → Type 0
  Squares xs old new status = CallOnEach (λ x y. y ≡ field.times x x) xs old new status

  -- a call that writes the inverses of words, 0 for 0, which are elements
  abbrev pub Inverts : List W → List W → List W → ℕ → Type 0
  Inverts xs old new status = CallOf (length xs ≡ length old) (AreElements field xs) (HoldInverses field xs new) old new status

  -- square roots, which are elements
  abbrev pub TakesRoots : List W → List W → List W → ℕ → Type 0
  TakesRoots xs old new status = CallOnEach (λ x y. (y < 2 ^ field.width) × (field.times y y ≡ x)) xs old new status

  -- products with one scalar
  abbrev pub MultipliesBy : W → List W → List W → List W → ℕ → Type 0
  MultipliesBy scalar xs old new status =
      CallOf (length xs ≡ length old) (IsElement field scalar × AreElements field xs)
      (Each field (λ x y. y ≡ field.times x (field.number scalar)) xs new) old new status

  -- the scalar times each word is added to the word at its place
  abbrev pub AddsScaled : W → List W → List W → List W → ℕ → Type 0
  AddsScaled scalar xs old new status =
      CallOf (length xs ≡ length old) (AreElements field old × IsElement field scalar × AreElements field xs)
      (EachOfTwo field (λ sum x next. next ≡ bit_xor sum (field.times (field.number scalar) x)) old xs new) old new status

  -- powers with one exponent
  abbrev pub RaisesTo : ℕ → List W → List W → List W → ℕ → Type 0
  RaisesTo exponent xs old new status = CallOnEach (λ x y. y ≡ power 1 field.times x exponent) xs old new status

  -- the product of all words
  abbrev pub TakesProduct : List W → W → W → ℕ → Type 0
  TakesProduct xs old new status =
      CallOf (Unit {0}) (AreElements field xs) (field.number new ≡ product_of 1 field.times field.number xs) old new status

  -- the sum of the products at each place
  abbrev pub TakesDotProduct : List W → List W → W → W → ℕ → Type 0
  TakesDotProduct xs ys old new status =
      CallOf (length xs ≡ length ys) (AreElements field xs × AreElements field ys) (field.number new ≡ dot_of field.times field.number xs ys)
      old new status

  -- the values at points of the polynomial with these coefficients, the constant one first
  abbrev pub Evaluates : List W → List W → List W → List W → ℕ → Type 0
  Evaluates coefficients points old new status =
      CallOf (length points ≡ length old) (AreElements field coefficients × AreElements field points)
      (Each field (λ x y. y ≡ value_of 1 field.times field.number coefficients x) points new) old new status

  -- the generator, which up to 16 bits has full order by a proof
  abbrev pub NamesGenerator : W → ℕ → Type 0
  NamesGenerator new status =
      (status ≡ OK) × (field.number new ≡ field.generator)
      × (field.width ≤ 16 → HasFullOrder field.width field.times field.generator)

-- a call that writes one word for each word, whose numbers are related; every word is taken
abbrev pub ChangesBasis : {W : Type 0} → (W → ℕ) → (ℕ → ℕ → Type 0) → List W → List W → List W → ℕ → Type 0
ChangesBasis number relates xs old new status =
    CallOf (length xs ≡ length old) (Unit {0})
    ((k : ℕ) → k < length new → (d : _) → relates (number (get_or xs k d)) (number (get_or new k d))) old new status

-- the images under a map between two fields of every word
abbrev pub TakesImages : {W : Type 0} → (W → ℕ) → (ℕ → ℕ) → List W → List W → List W → ℕ → Type 0
TakesImages number image xs old new status = ChangesBasis number (λ x y. y ≡ image x) xs old new status

-- the call back: each word has the word given as its image
abbrev pub TakesPreimages : {W : Type 0} → (W → ℕ) → (ℕ → ℕ) → List W → List W → List W → ℕ → Type 0
TakesPreimages number image xs old new status = ChangesBasis number (λ x y. image y ≡ x) xs old new status
