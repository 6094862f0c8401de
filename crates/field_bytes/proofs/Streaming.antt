-- The bytes that a stream has still to give, after one more.
use Rattle.std.proofs.Common.{◌≡◌, ℕ, zero, suc, ◌+◌, ◌*◌, ◌%◌, ◌^◌, ◌<◌, ◌≤◌, ◌⊎◌, inl, inr, Bool, true, false, refl, sym, ◌∙◌, ap, ap₂, arith, List, [], ◌∷◌, ◌++◌, length, drop, subst, Option, Some, None}
use Rattle.std.specs.Iterator.{Drains, Yields}
use Rattle.std.proofs.Math.Nat.{zero-div}
use Rattle.std.proofs.Math.ListN.{drop_of_length-le}
use Rattle.std.proofs.lemmas.List.{append-nil, append_assoc, drop-append-le, length-append}
use Rattle.std.proofs.lemmas.Bool.{cases_lt, true≢false}
use Rattle.field_base.specs.Chunks.{chunk, chunks}
use Rattle.field_bytes.specs.Bytes.{low_bytes}
use Rattle.std.proofs.lemmas.Grind.{flat_map-append}
use Rattle.field_bytes.specs.declared.streams.ByteStream.{ByteStream}
use Rattle.field_bytes.specs.Streams.{GivesByte, HasEnded, HasTaken, IsWithin, bytes_pending, joined_bytes}
use Rattle.std.proofs.lemmas.Nat.{mul-le}
use native.Mathlib.Nat.{mul-suc, mul-zero, suc-mul}
use Rattle.field_bytes.proofs.Taking.{length-chunks, yields_append}

-- what is left of a list from an index on is longer by one than from the next
drop-chunks : (width n i a : ℕ) → i < n → drop i (chunks width n a) ≡ chunk width i a ∷ drop (i + 1) (chunks width n a)
unfolding chunks
drop-chunks width zero i a within = absurd (omega (arith, within))
drop-chunks width (suc n) i a within = by_place (drop-chunks width n i a) (cases_lt i n)
  where
    long : length (chunks width n a) ≡ n
    long = length-chunks width n a

    by_place : (i < n → drop i (chunks width n a) ≡ chunk width i a ∷ drop (i + 1) (chunks width n a)) → (i < n) ⊎ (n ≤ i)
        → drop i (chunks width n a ++ chunk width n a ∷ []) ≡ chunk width i a ∷ drop (i + 1) (chunks width n a ++ chunk width n a ∷ [])
    by_place others (inl before) =
        drop-append-le i (chunks width n a) (chunk width n a ∷ []) (omega (arith, before, long))
        ∙ ap (λ ys. ys ++ chunk width n a ∷ []) (others before)
        ∙ ap (λ ys. chunk width i a ∷ ys)
        (sym (drop-append-le (i + 1) (chunks width n a) (chunk width n a ∷ []) (omega (arith, before, long))))
    by_place others (inr last) =
        let is : i ≡ n = omega (arith, last, within) in
        drop-append-le i (chunks width n a) (chunk width n a ∷ []) (omega (arith, is, long))
        ∙ ap (λ ys. ys ++ chunk width n a ∷ []) (drop_of_length-le (chunks width n a) (omega (arith, is, long)))
        ∙ ap (λ (k : ℕ). chunk width k a ∷ []) (sym is)
        ∙ ap (λ ys. chunk width i a ∷ ys)
        (sym (drop_of_length-le (chunks width n a ++ chunk width n a ∷ [])
        (omega (arith, is, long, length-append (chunks width n a) (chunk width n a ∷ [])))))

-- a byte of an element
pub byte_given : (size given a b : ℕ) → given < size → b ≡ chunk 8 given a → drop given (low_bytes size a) ≡ b ∷ drop (given + 1) (low_bytes size a)
byte_given size given a b within is =
    drop-chunks 8 size given a within ∙ ap (λ (x : ℕ). x ∷ drop (given + 1) (low_bytes size a)) (sym is)

-- after the last byte of an element none is left
pub none_after : (size given a : ℕ) → given ≡ size → [] ≡ drop given (low_bytes size a)
none_after size given a last = sym (drop_of_length-le (low_bytes size a) (omega (arith, last, length-chunks 8 size a)))

-- the digits of 0 are 0
pub chunk-zero : (i : ℕ) → chunk 8 i 0 ≡ 0
chunk-zero i = ap (λ (n : ℕ). n % 2 ^ 8) (zero-div (2 ^ (8 * i)))

-- what is pending of an element of `whole` bytes is pending of one of `size`, where these are equal
module _ {E : Type 0} (size whole : ℕ) (repr : E → ℕ) (pending : Option E) (place : ℕ) (same : whole ≡ size) where
  -- rewrites the size of an element in `IsWithin`
  pub rest_within : IsWithin whole pending place → IsWithin size pending place
  rest_within within = subst (λ n. IsWithin n pending place) same within

  -- rewrites the size of an element in the bytes that are pending
  pub rest_left : (x : E) (given : ℕ) → bytes_pending whole repr pending place ≡ drop given (low_bytes whole (repr x))
      → bytes_pending size repr pending place ≡ drop given (low_bytes size (repr x))
  rest_left x given left = subst (λ n. bytes_pending n repr pending place ≡ drop given (low_bytes n (repr x))) same left

  -- one byte, and what is pending then
  pub first_given : (x : E) (given b : ℕ) → given < size → b ≡ chunk 8 given (repr x)
      → bytes_pending whole repr pending place ≡ drop (given + 1) (low_bytes whole (repr x))
      → bytes_pending size repr (Some x) given ≡ b ∷ bytes_pending size repr pending place
  first_given x given b within is left =
      byte_given size given (repr x) b within is ∙ ap (λ ys. b ∷ ys) (sym (rest_left x (given + 1) left))

module _ {E : Type 0} (size : ℕ) (repr : E → ℕ) where
  -- where no element is pending, no byte is
  pub nothing_pending : (pending : Option E) (given : ℕ) → pending ≡ None → bytes_pending size repr pending given ≡ []
  nothing_pending pending given is = ap (λ p. bytes_pending size repr p given) is

  -- where no byte is pending, those of the next element are
  pub first_bytes : (pending : Option E) (given : ℕ) (x : E) (rest : List ℕ) → pending ≡ None → IsWithin size pending given
      → bytes_pending size repr (Some x) given ≡ rest → bytes_pending size repr pending given ++ joined_bytes size repr (x ∷ []) ≡ rest
  first_bytes pending given x rest none within left =
      let start : given ≡ 0 = subst (λ p. IsWithin size p given) none within in
      ap (λ ys. ys ++ joined_bytes size repr (x ∷ [])) (nothing_pending pending given none) ∙ append-nil (low_bytes size (repr x))
      ∙ ap (λ (k : ℕ). drop k (low_bytes size (repr x))) (sym start) ∙ left

  -- of which there are as many as an element has
  pub fewer_left : (more fewer given place : ℕ) (pending new : Option E) (x : E) (b : ℕ) → fewer < more → IsWithin size pending given → pending ≡ None
      → bytes_pending size repr (Some x) given ≡ b ∷ bytes_pending size repr new place
      → fewer * size + length (bytes_pending size repr new place) < more * size + length (bytes_pending size repr pending given)
  fewer_left more fewer given place pending new x b less within none left =
      let start : given ≡ 0 = subst (λ p. IsWithin size p given) none within in
      let long : suc (length (bytes_pending size repr new place)) ≡ size =
      ap length (sym left) ∙ ap (λ (k : ℕ). length (drop k (low_bytes size (repr x)))) start ∙ length-chunks 8 size (repr x) in
      let bound : suc fewer * size ≤ more * size = mul-le (suc fewer) size more size less (omega arith) in
      let whole : suc fewer * size ≡ fewer * size + size = suc-mul fewer size in
      omega (arith, long, bound, whole)

  -- the bytes of two lists of elements are those of the first, then those of the second
  joined-append : (xs ys : List E) → joined_bytes size repr (xs ++ ys) ≡ joined_bytes size repr xs ++ joined_bytes size repr ys
  joined-append xs ys = flat_map-append (λ x. low_bytes size (repr x)) xs ys

  -- the bytes of some elements, and then those of others
  pub bytes_on : (before after : List ℕ) (xs ys : List E) (b : ℕ) (given last : List ℕ) → before ++ joined_bytes size repr xs ≡ b ∷ after
      → after ++ joined_bytes size repr ys ≡ given ++ last → before ++ joined_bytes size repr (xs ++ ys) ≡ b ∷ (given ++ last)
  bytes_on before after xs ys b given last first others =
      ap (λ zs. before ++ zs) (joined-append xs ys) ∙ sym (append_assoc before (joined_bytes size repr xs) (joined_bytes size repr ys))
      ∙ ap (λ zs. zs ++ joined_bytes size repr ys) first ∙ ap (λ zs. b ∷ zs) others

-- the bytes of some elements are so many for each
pub length-joined : {E : Type 0} (size : ℕ) (repr : E → ℕ) (xs : List E) → length (joined_bytes size repr xs) ≡ size * length xs
length-joined size repr [] = sym (mul-zero size)
length-joined size repr (x ∷ xs) =
    let one = length-chunks 8 size (repr x) in
    let others = length-joined size repr xs in
    let whole : size * suc (length xs) ≡ size * length xs + size = mul-suc size (length xs) in
    let last : size + size * length xs ≡ size * suc (length xs) = omega (arith, whole) in
    length-append (low_bytes size (repr x)) (joined_bytes size repr xs) ∙ ap₂ (λ (a b : ℕ). a + b) one others ∙ last

-- ---- sources whose end may have been seen

-- a source whose end was not seen, and that is taken to have ended, gives None
pub source_ends : {S E : Type 0} (next_gives : S → Option E → S → Type 0) (ended : Bool) (s t : S) → ended ≡ false → HasEnded next_gives ended s t
    → next_gives s None t
source_ends next_gives ended s t goes (inl past) = absurd (true≢false (sym past.0 ∙ goes))
source_ends next_gives ended s t goes (inr last) = last.1

-- none is taken where none has to be
pub none_taken : {S E : Type 0} (next_gives : S → Option E → S → Type 0) (ended : Bool) (s t : S) → t ≡ s → HasTaken next_gives ended s [] t
none_taken next_gives ended s t same = ((λ over. refl), sym same)

-- one is taken of a source whose end was not seen
pub one_taken : {S E : Type 0} (next_gives : S → Option E → S → Type 0) (ended : Bool) (s next t : S) (x : E) → ended ≡ false
    → next_gives s (Some x) next → t ≡ next → HasTaken next_gives ended s (x ∷ []) t
one_taken next_gives ended s next t x goes step same = ((λ over. absurd (true≢false (sym over ∙ goes))), (next, step, sym same))

module _ {S E : Type 0} (next_gives : S → Option E → S → Type 0) (size : ℕ) (repr : E → ℕ) where
  -- where an element is pending, a call gives its next byte
  pub element_begun_before : (s t : ByteStream S E) (x : E) (b : ℕ) → s.pending ≡ Some x → t.elements ≡ s.elements
      → bytes_pending size repr (Some x) s.given ≡ b ∷ bytes_pending size repr t.pending t.given → t.ended ≡ s.ended
      → GivesByte next_gives size repr s (Some b) t
  element_begun_before s t x b is same left kept = (
    [],
    none_taken next_gives s.ended s.elements t.elements same,
    append-nil (bytes_pending size repr s.pending s.given) ∙ ap (λ p. bytes_pending size repr p s.given) is ∙ left,
    kept,
  )

  -- where no element is pending, a call takes one of the source, and gives its first byte
  pub element_taken : (s t : ByteStream S E) (next : S) (x : E) (b : ℕ) → s.pending ≡ None → IsWithin size s.pending s.given → s.ended ≡ false
      → next_gives s.elements (Some x) next → t.elements ≡ next
      → bytes_pending size repr (Some x) s.given ≡ b ∷ bytes_pending size repr t.pending t.given → t.ended ≡ s.ended
      → GivesByte next_gives size repr s (Some b) t
  element_taken s t next x b none within goes step same left kept = (
    x ∷ [],
    one_taken next_gives s.ended s.elements next t.elements x goes step same,
    first_bytes size repr s.pending s.given x _ none within left,
    kept,
  )

  -- ---- all that a stream gives

  -- the bytes that some calls gave, and those then pending, are those pending before and those of the elements taken
  run_gives : (s : ByteStream S E) (bytes : List ℕ) (t : ByteStream S E) → Yields (GivesByte next_gives size repr) s bytes t
      → (taken : List E) × Yields next_gives s.elements taken t.elements
      × (bytes_pending size repr s.pending s.given ++ joined_bytes size repr taken ≡ bytes ++ bytes_pending size repr t.pending t.given)
      × (t.ended ≡ s.ended)
  run_gives s [] t same = (
    [],
    ap (λ (x : ByteStream S E). x.elements) same,
    append-nil (bytes_pending size repr s.pending s.given) ∙ ap (λ (x : ByteStream S E). bytes_pending size repr x.pending x.given) same,
    ap (λ (x : ByteStream S E). x.ended) (sym same),
  )
  run_gives s (b ∷ bytes) t run =
      let j = run.0 in
      let step = run.1 in
      let others = run_gives j bytes t run.2 in (
        step.0 ++ others.0,
        yields_append next_gives step.0 others.0 s.elements j.elements t.elements step.1.1 others.1,
        bytes_on size repr _ _ step.0 others.0 b bytes _ step.2 others.2,
        others.3 ∙ step.3,
      )

  -- a stream that begins gives the bytes of all elements of its source
  pub stream_gives : (s : ByteStream S E) (source : S) (bytes : List ℕ) → s.elements ≡ source → bytes_pending size repr s.pending s.given ≡ []
      → s.ended ≡ false → Drains (GivesByte next_gives size repr) s bytes
      → (elements : List E) × Drains next_gives source elements × (bytes ≡ joined_bytes size repr elements)
  stream_gives s source bytes same begins goes run =
      let u = run.0 in
      let t = run.1.0 in
      let end = run.1.2 in
      let given = run_gives s bytes t run.1.1 in (
        given.0,
        (u.elements, (t.elements, subst (λ x. Yields next_gives x given.0 t.elements) same given.1, source_ends next_gives t.ended t.elements u.elements (given.3 ∙ goes) end.3)),
        sym (append-nil bytes) ∙ ap (λ ys. bytes ++ ys) (sym end.0) ∙ sym given.2 ∙ ap (λ ys. ys ++ joined_bytes size repr given.0) begins,
      )

  -- and where it is cut short, the bytes of the elements taken, but for those then pending
  pub stream_begins : (s : ByteStream S E) (source : S) (bytes : List ℕ) (t : ByteStream S E) → s.elements ≡ source
      → bytes_pending size repr s.pending s.given ≡ [] → Yields (GivesByte next_gives size repr) s bytes t
      → (elements : List E) × Yields next_gives source elements t.elements
      × (bytes ++ bytes_pending size repr t.pending t.given ≡ joined_bytes size repr elements)
  stream_begins s source bytes t same begins run =
      let given = run_gives s bytes t run in (
        given.0,
        subst (λ x. Yields next_gives x given.0 t.elements) same given.1,
        sym given.2 ∙ ap (λ ys. ys ++ joined_bytes size repr given.0) begins,
      )
