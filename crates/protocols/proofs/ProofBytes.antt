-- The bytes of a proof are cut into those of its elements.
use Rattle.std.proofs.Common.{◌≡◌, ◌≢◌, ℕ, zero, suc, ◌+◌, ◌-◌, ◌*◌, ◌/◌, ◌%◌, ◌^◌, ◌<◌, ◌≤◌, List, [], ◌∷◌, ◌++◌, length, take, drop, refl, sym, ◌∙◌, ap, ap₂, subst, arith}
use Rattle.std.proofs.Math.Seq.{drop-append_seam, take-add, take-append_seam}
use Rattle.std.proofs.Math.Nat.{mul-div_cancel, mul-le-mul_right, mul-mod_left}
use Rattle.std.proofs.lemmas.Nat.{div-add-mod'}
use Rattle.std.proofs.lemmas.Grind.{flat_map-append}
use Rattle.std.proofs.lemmas.List.{append-nil, drop-drop, length-append, length-drop, length-take-le, take_all}
use Rattle.std.proofs.lemmas.List.Concat.{flat_map-cons}
use native.Mathlib.Numerals.{add-one}
use Rattle.field_bytes.specs.Bytes.{low_bytes, number_of_bytes}
use Rattle.field_bytes.proofs.Taking.{given_back, length-chunks}
use Rattle.field_bytes.specs.Streams.{joined_bytes}

module _ {F : Type 0} (size : ℕ) (repr : F → ℕ) where
  abbrev bytes_of : F → List ℕ
  bytes_of x = low_bytes size (repr x)

  pub proof-cons : (x : F) (xs : List F) → joined_bytes size repr (x ∷ xs) ≡ low_bytes size (repr x) ++ joined_bytes size repr xs
  proof-cons x xs = flat_map-cons bytes_of x xs

  -- one element more
  pub proof-more : (xs longer : List F) (x : F) → longer ≡ xs ++ x ∷ [] → joined_bytes size repr longer ≡ joined_bytes size repr xs ++ low_bytes size (repr x)
  proof-more xs longer x is =
      ap (joined_bytes size repr) is ∙ flat_map-append bytes_of xs (x ∷ [])
      ∙ ap (λ (ys : List ℕ). joined_bytes size repr xs ++ ys) (append-nil (low_bytes size (repr x)))

  pub length-proof : (xs : List F) → length (joined_bytes size repr xs) ≡ length xs * size
  length-proof [] = let none : 0 ≡ 0 * size = omega arith in none
  length-proof (x ∷ xs) =
      let rest = length-proof xs in
      let first = length-chunks 8 size (repr x) in
      ap length (proof-cons x xs) ∙ length-append (low_bytes size (repr x)) (joined_bytes size repr xs) ∙ ap₂ (λ (a b : ℕ). a + b) first rest ∙ omega arith

  -- the first element, and the others
  pub proof-first : (x : F) (xs : List F) → take size (joined_bytes size repr (x ∷ xs)) ≡ low_bytes size (repr x)
  proof-first x xs =
      ap (take size) (proof-cons x xs)
      ∙ ap (λ (n : ℕ). take n (low_bytes size (repr x) ++ joined_bytes size repr xs)) (sym (length-chunks 8 size (repr x)))
      ∙ take-append_seam (low_bytes size (repr x)) (joined_bytes size repr xs)

  pub proof-rest : (x : F) (xs : List F) → drop size (joined_bytes size repr (x ∷ xs)) ≡ joined_bytes size repr xs
  proof-rest x xs =
      ap (drop size) (proof-cons x xs)
      ∙ ap (λ (n : ℕ). drop n (low_bytes size (repr x) ++ joined_bytes size repr xs)) (sym (length-chunks 8 size (repr x)))
      ∙ drop-append_seam (low_bytes size (repr x)) (joined_bytes size repr xs)

  -- the bytes at the place of an element are those of an element
  pub element-at : (xs : List F) (index : ℕ) → index < length xs
      → (x : F) × (take size (drop (index * size) (joined_bytes size repr xs)) ≡ low_bytes size (repr x))
  element-at [] index inside = absurd (omega (arith, inside))
  element-at (x ∷ xs) zero inside =
      let none : 0 * size ≡ 0 = omega arith in (x, ap (λ (n : ℕ). take size (drop n (joined_bytes size repr (x ∷ xs)))) none ∙ proof-first x xs)
  element-at (x ∷ xs) (suc index) inside =
      let later = element-at xs index (omega (arith, inside)) in
      let next : suc index * size ≡ size + index * size = omega arith in (
        later.0,
        ap (λ (n : ℕ). take size (drop n (joined_bytes size repr (x ∷ xs)))) next
            ∙ ap (take size) (sym (drop-drop (index * size) size (joined_bytes size repr (x ∷ xs))))
            ∙ ap (λ (ys : List ℕ). take size (drop (index * size) ys)) (proof-rest x xs) ∙ later.1,
      )

  -- two proofs with the same bytes are the same
  pub same-proof : 0 < size → ((x y : F) → low_bytes size (repr x) ≡ low_bytes size (repr y) → x ≡ y) → (xs ys : List F)
      → joined_bytes size repr xs ≡ joined_bytes size repr ys → xs ≡ ys
  same-proof some same [] [] is = refl
  same-proof some same [] (y ∷ ys) is =
      let none = length-proof [] in
      let more = length-proof (y ∷ ys) in
      let long = ap length is in
      absurd (no-more (length ys) size some (sym (sym none ∙ long ∙ more)))
    where
      no-more : (n s : ℕ) → 0 < s → suc n * s ≡ 0 * s → ⊥
      no-more n s some is = omega (arith, some, is)
  same-proof some same (x ∷ xs) [] is =
      let none = length-proof [] in
      let more = length-proof (x ∷ xs) in
      let long = ap length is in
      absurd (no-more (length xs) size some (sym more ∙ long ∙ none))
    where
      no-more : (n s : ℕ) → 0 < s → suc n * s ≡ 0 * s → ⊥
      no-more n s some is = omega (arith, some, is)
  same-proof some same (x ∷ xs) (y ∷ ys) is =
      ap₂ (λ (z : F) (zs : List F). z ∷ zs)
      (same x y (sym (proof-first x xs) ∙ ap (take size) is ∙ proof-first y ys))
      (same-proof some same xs ys (sym (proof-rest x xs) ∙ ap (drop size) is ∙ proof-rest y ys))

  -- ---- elements of so many bits

  module _ (width : ℕ) (room : width ≤ 8 * size) (fits : (x : F) → repr x < 2 ^ width) (same_law : (x y : F) → repr x ≡ repr y → x ≡ y) where
    -- an element is the one of its bytes
    pub element-back : (x : F) → number_of_bytes (low_bytes size (repr x)) % 2 ^ width ≡ repr x
    element-back x = given_back size width (repr x) (fits x) room

    pub same-bytes : (x y : F) → low_bytes size (repr x) ≡ low_bytes size (repr y) → x ≡ y
    same-bytes x y is =
        same_law x y (sym (element-back x) ∙ ap (λ (bs : List ℕ). number_of_bytes bs % 2 ^ width) is ∙ element-back y)

    -- bytes whose number, cut to the width, has other bytes are of no element
    pub no-element : (bytes front : List ℕ) (element : F) → repr element ≡ number_of_bytes bytes % 2 ^ width
        → front ≡ low_bytes size (repr element) → front ≢ bytes → (x : F) → bytes ≢ low_bytes size (repr x)
    no-element bytes front element is is_front other x own =
        let value : repr element ≡ repr x =
        is ∙ ap (λ (bs : List ℕ). number_of_bytes bs % 2 ^ width) own ∙ element-back x in
        other (is_front ∙ ap (low_bytes size) value ∙ sym own)

-- ---- parts

-- a part that begins within has all of its bytes
pub part-fits : (all index size : ℕ) → index < all / size → (index + 1) * size ≤ all
part-fits all index size inside =
    let whole = div-add-mod' all size in
    let room = mul-le-mul_right size inside in
    enough (suc index * size) (all / size * size) room whole (ap (λ (n : ℕ). n * size) (sym (add-one index)))
  where
    enough : (m n : ℕ) → m ≤ n → n + all % size ≡ all → m ≡ (index + 1) * size → (index + 1) * size ≤ all
    enough m n low is same = omega (arith, low, is, same)

pub part-size : (bytes : List ℕ) (index size : ℕ) → index < length bytes / size → length (take size (drop (index * size) bytes)) ≡ size
part-size bytes index size inside =
    let room = part-fits (length bytes) index size inside in
    let behind = length-drop (index * size) bytes in
    let next : (index + 1) * size ≡ index * size + size = omega arith in
    length-take-le size (drop (index * size) bytes) (enough (index * size) ((index + 1) * size) room next behind)
  where
    enough : (m n : ℕ) → n ≤ length bytes → n ≡ m + size → length (drop m bytes) ≡ length bytes - m → size ≤ length (drop m bytes)
    enough m n low is long = omega (arith, low, is, long)

-- a front as long as the bytes
front-whole : (bytes : List ℕ) (index size : ℕ) → length bytes % size ≡ 0 → index ≡ length bytes / size → take (index * size) bytes ≡ bytes
front-whole bytes index size even last =
    take_all (index * size) bytes
    (enough (length bytes / size * size) (index * size) (div-add-mod' (length bytes) size) (ap (λ (n : ℕ). n * size) last))
  where
    enough : (n m : ℕ) → n + length bytes % size ≡ length bytes → m ≡ n → length bytes ≤ m
    enough n m is same = omega (arith, is, same, even)

module _ {F : Type 0} (size : ℕ) (repr : F → ℕ) (some : 0 < size) (bytes : List ℕ) (local : ℕ) (same : local ≡ size) where
  -- one element more is read
  pub element-read : (part : List ℕ) (index : ℕ) (items longer : List F) (x : F) → part ≡ take local (drop (index * local) bytes)
      → part ≡ low_bytes size (repr x) → longer ≡ items ++ x ∷ [] → take (index * size) bytes ≡ joined_bytes size repr items
      → take ((index + 1) * size) bytes ≡ joined_bytes size repr longer
  element-read part index items longer x is own pushed so_far =
      let next : (index + 1) * size ≡ index * size + size = omega arith in
      ap (λ (n : ℕ). take n bytes) next ∙ take-add (index * size) size bytes
      ∙ ap₂ (λ (a b : List ℕ). a ++ b) so_far (ap (λ (n : ℕ). take n (drop (index * n) bytes)) (sym same) ∙ sym is ∙ own)
      ∙ sym (proof-more size repr items longer x pushed)

  -- all of the bytes are read
  pub all-read : (index : ℕ) (items : List F) → length bytes % local ≡ 0 → index ≡ length bytes / local
      → take (index * size) bytes ≡ joined_bytes size repr items → bytes ≡ joined_bytes size repr items
  all-read index items even last so_far =
      sym (front-whole bytes index local even last) ∙ ap (λ (n : ℕ). take (index * n) bytes) same ∙ so_far

  -- bytes of another number are of no proof
  pub no-proof : length bytes % local ≢ 0 → (elements : List F) → bytes ≢ joined_bytes size repr elements
  no-proof other elements is =
      other (ap (λ (n : ℕ). n % local) (ap length is ∙ length-proof size repr elements ∙ ap (λ (n : ℕ). length elements * n) (sym same))
      ∙ mul-mod_left (length elements) local)

  -- and so are bytes of which a part is of no element
  pub no-part : (part : List ℕ) (index : ℕ) → part ≡ take local (drop (index * local) bytes) → index < length bytes / local
      → ((x : F) → part ≢ low_bytes size (repr x)) → (elements : List F) → bytes ≢ joined_bytes size repr elements
  no-part part index is inside none elements all =
      let long : length bytes / local ≡ length elements =
      ap₂ (λ (a b : ℕ). a / b) (ap length all ∙ length-proof size repr elements) same ∙ mul-div_cancel (length elements) some in
      let found = element-at size repr elements index (subst (λ (n : ℕ). index < n) long inside) in
      none found.0
      (is ∙ ap (λ (n : ℕ). take n (drop (index * n) bytes)) same ∙ ap (λ (bs : List ℕ). take size (drop (index * size) bs)) all ∙ found.1)
