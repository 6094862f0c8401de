-- What calls over a field that the caller chooses do: fields modulo any irreducible polynomial of degree 1 to 128, by words that the caller keeps.
use Rattle.std.specs.Prelude.{◌≡◌, ◌≢◌, ℕ, ◌%◌, ◌^◌, ◌<◌, List, get_or, length}
use Rattle.field_base.specs.Orders.{HasFullOrder}
use Rattle.field_base.specs.Powers.{power, sum_of_squarings}
use Rattle.any_field.specs.Contexts.{IsFieldModulus, field_product, with_top}
use Rattle.any_field.specs.Orders.{TableIsPrime}
use Rattle.any_field.specs.Values.{IsEmbeddingOf, binary_value}
use Rattle.many_words.specs.Fields.{WordField, field_of}
use Rattle.many_words.specs.Words.{AreElements, Each, IsElement}
use Rattle.c_calls.specs.Calls.{CallOnEach, CallOnTwo}
use Rattle.c_calls.specs.Fields.{wide_number}
use Rattle.c_calls.specs.Matrices.{CallOnEquations, ReducesRows}
use Rattle.c_calls.specs.declared.field_words.ChosenField.{ChosenField}
use Rattle.c_calls.specs.declared.status.TheConstants.{OK, REDUCIBLE, UNSOLVABLE}
use Rattle.c_calls.specs.declared.wide.Wide.{Wide}

-- the polynomials modulo x^degree + tail, in words of 128 bits; no generator of theirs is named
abbrev pub residue_field : ℕ → ℕ → WordField Wide
residue_field degree tail = field_of wide_number degree (field_product degree tail) 0

-- the field that the words of a caller name
abbrev pub chosen_field : ChosenField → WordField Wide
chosen_field words = residue_field words.degree (wide_number words.tail)

-- they name one: its modulus is irreducible, of degree 1 to 128
abbrev pub NamesAField : ChosenField → Type 0
NamesAField words = IsFieldModulus words.degree (wide_number words.tail)

-- a call over a field by its words: words that name none are told first; by all others it does what it says, and one that fails keeps what
-- it would have written
pub record OverField {T : Type 0} (words : ChosenField) (call : Type 0) (old new : T) (status : ℕ) : Type 0 where
  pub named : NamesAField words → call
  pub reducible : ¬ NamesAField words → status ≡ REDUCIBLE
  pub kept : status ≢ OK → new ≡ old

-- a call that brings a matrix over it to reduced row echelon form, and writes the columns of the leading entries and the rank
abbrev pub ReducesRowsOver : ChosenField → ℕ → ℕ → List Wide → List ℕ → ℕ → List Wide → List ℕ → ℕ → ℕ → Type 0
ReducesRowsOver words rows columns old old_pivots old_rank new pivots rank status =
    OverField {T = List Wide × List ℕ × ℕ} words (ReducesRows (chosen_field words) rows columns old old_pivots old_rank new pivots rank status)
    (old, old_pivots, old_rank) (new, pivots, rank) status

-- a call that writes the words of the field modulo x^degree + tail
pub record PreparesField (degree tail : ℕ) (old new : ChosenField) (status : ℕ) : Type 0 where
  pub prepared : IsFieldModulus degree tail → (status ≡ OK) × (new.degree ≡ degree) × (wide_number new.tail ≡ tail)
  pub reducible : ¬ IsFieldModulus degree tail → status ≡ REDUCIBLE
  pub kept : status ≢ OK → new ≡ old

-- a call that writes the traces over GF(2), which are 0 or 1
abbrev pub TakesTraces : WordField Wide → List Wide → List Wide → List Wide → ℕ → Type 0
TakesTraces field xs old new status = CallOnEach field (λ x y. y ≡ sum_of_squarings 1 field.times field.width x) xs old new status

-- a call that writes the quotients of the elements at each place, which are elements, and 0 where the divisor is 0
abbrev pub TakesQuotients : WordField Wide → List Wide → List Wide → List Wide → List Wide → ℕ → Type 0
TakesQuotients field xs ys old new status =
    CallOnTwo field (λ x y q. (q < 2 ^ field.width) × (y ≢ 0 → field.times q y ≡ x) × (y ≡ 0 → q ≡ 0)) xs ys old new status

-- a call that writes the least primitive element of a field, where one is below 65,536. That it is primitive rests on the primality of the
-- numbers of a table
pub record TakesPrimitive (field : WordField Wide) (old new : Wide) (status : ℕ) : Type 0 where
  pub primitive : status ≡ OK → TableIsPrime → HasFullOrder field.width field.times (wide_number new)
  pub least : status ≡ OK → (y : ℕ) → y < wide_number new → HasFullOrder field.width field.times y → ⊥
  pub none : status ≢ OK → (status ≡ UNSOLVABLE) × ((y : ℕ) → y < 65536 → HasFullOrder field.width field.times y → ⊥)
  pub kept : status ≢ OK → new ≡ old

-- an exponent to which the power of the base is x; that no lower one is such rests on the primality of the numbers of a table
abbrev pub IsLogarithm : (ℕ → ℕ → ℕ) → ℕ → ℕ → ℕ → Type 0
IsLogarithm times base x e = (power 1 times base e ≡ x) × (TableIsPrime → (k : ℕ) → k < e → power 1 times base k ≢ x)

-- every word is a power of the base
abbrev pub HaveLogarithms : WordField Wide → ℕ → List Wide → Type 0
HaveLogarithms field base xs = (k : ℕ) → k < length xs → (d : _) → (e : ℕ) × (power 1 field.times base e ≡ wide_number (get_or xs k d))

-- a call that writes the logarithms of elements to a base, which is an element, where every one of them has one
abbrev pub TakesLogarithms : WordField Wide → Wide → List Wide → List Wide → List Wide → ℕ → Type 0
TakesLogarithms field base xs old new status =
    CallOnEquations (length xs ≡ length old) (IsElement field base × AreElements field xs) (HaveLogarithms field (wide_number base) xs)
    (Each field (IsLogarithm field.times (wide_number base)) xs new) old new status

-- the value at a point of the field modulo x^degree + tail of the polynomial that a number is
abbrev pub value_in : ℕ → ℕ → Wide → ℕ → ℕ
value_in degree tail point = binary_value (field_product degree tail) (wide_number point)

module _ (source_degree source_tail degree tail : ℕ) where
  -- the point of the second field is a root of the modulus of the first
  abbrev pub IsRootIn : Wide → Type 0
  IsRootIn point = value_in degree tail point (with_top source_degree source_tail) ≡ 0

  -- a call that writes a root of the modulus of the first field in the second, an element of that: exactly where the degree of the first
  -- divides that of the second
  pub record FindsARoot (old new : Wide) (status : ℕ) : Type 0 where
    pub found : degree % source_degree ≡ 0 → (status ≡ OK) × IsRootIn new × (wide_number new < 2 ^ degree)
    pub none : degree % source_degree ≢ 0 → status ≡ UNSOLVABLE
    pub kept : status ≢ OK → new ≡ old

  -- a call that writes the values at a root of the polynomials that elements of the first field are: their images in the second by an
  -- embedding. A point that is no root is told first
  pub record Embeds (root : Wide) (xs old new : List Wide) (status : ℕ) : Type 0 where
    pub images : IsRootIn root → CallOnEach (residue_field source_degree source_tail) (λ x y. y ≡ value_in degree tail root x) xs old new status
    pub embedding : IsRootIn root → IsEmbeddingOf source_degree degree (field_product source_degree source_tail) (field_product degree tail)
        (value_in degree tail root)
    pub other : ¬ IsRootIn root → status ≡ UNSOLVABLE
    pub kept : status ≢ OK → new ≡ old

-- the same over two fields by their words
abbrev pub FindsARootOver : ChosenField → ChosenField → Wide → Wide → ℕ → Type 0
FindsARootOver source target old new status =
    OverField source (OverField target (FindsARoot source.degree (wide_number source.tail) target.degree (wide_number target.tail) old new status)
    old new status) old new status

-- and the call that writes images: refused where the words of one of the two name no field, those of the first told first
abbrev pub EmbedsOver : ChosenField → ChosenField → Wide → List Wide → List Wide → List Wide → ℕ → Type 0
EmbedsOver source target root xs old new status =
    OverField source (OverField target (Embeds source.degree (wide_number source.tail) target.degree (wide_number target.tail) root xs old new status)
    old new status) old new status
