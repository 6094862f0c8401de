-- What a prover opens of several tables, each with its row, is an opening of all with the combined row.
use Rattle.std.proofs.Common.{◌≡◌, ◌⊎◌, inl, inr, ℕ, zero, suc, ◌+◌, ◌-◌, ◌*◌, ◌/◌, ◌%◌, ◌^◌, ◌<◌, ◌≤◌, List, [], ◌∷◌, ◌++◌, length, map, take, drop, get_or, sym, ◌∙◌, ap, ap₂, subst, arith}
use Rattle.std.specs.Prelude.{slice_index}
use Rattle.std.specs.List.{AllZip, range_with_len}
use Rattle.std.proofs.Math.Nat.{div-lt_iff_lt-mul, mod-lt, mul-le-mul, mul-le-mul_left, mul-le-mul_right, mul_comm}
use Rattle.std.proofs.lemmas.Bool.{cases_lt}
use Rattle.std.proofs.lemmas.Grind.{same_number_lists}
use Rattle.std.proofs.lemmas.List.{get_or-append_right, get_or-map, get_or-take, get_or_append_left, get_or_default, get_or_past, length-drop, length-map, length-take-le, map-append}
use Rattle.std.proofs.lemmas.List.FromFn.{get_or-map-range_with_len, length-map-range_with_len}
use Rattle.std.proofs.lemmas.Nat.{div-mul-add, mod-mul-add, mul-add-lt, pow_pos}
use Rattle.field_base.specs.Basis.{sum_below}
use Rattle.field_base.specs.Ring.{IsRing}
use Rattle.field_base.proofs.Places.{numbers-lt}
use Rattle.field_bytes.specs.Streams.{joined_bytes}
use Rattle.field_slices.specs.Multilinear.{eq_corner, multilinear_value}
use Rattle.transcripts.specs.Commitments.{row_at}
use Rattle.transcripts.specs.Openings.{OpensRows}
use Rattle.protocols.specs.CodeWords.{IsCodeWordOf}
use Rattle.protocols.specs.CommitmentScheme.{matrix_rows, row_levels}
use Rattle.protocols.specs.Interleaved.{combination}
use Rattle.protocols.specs.JointTables.{EachBelow, OpensBytes, OpensTables, SentTables, sent_column, stacked}
use Rattle.protocols.specs.Tables.{AgreesAt, OpensColumns}
use Rattle.protocols.proofs.CodeColumns.{combinations_are_code_words}
use Rattle.protocols.proofs.StackedTables.{choose, row-value, stacked-at, stacked-none, stacked-past, stacked-place, stacked-value, value-first, value-same, value-swap, value-zero, value_of}
use Rattle.protocols.proofs.OpenedColumns.{column-long}
use Rattle.protocols.proofs.TableRows.{row-map}

-- ---- lists by their places

-- the elements at a place of two lists that are related place by place
pub zip-at : {A B : Type 0} (R : A → B → Type 0) (xs : List A) (ys : List B) (i : ℕ) (d : A) (e : B) → AllZip R xs ys → i < length xs
    → R (get_or xs i d) (get_or ys i e)
zip-at R [] ys i d e are below = absurd (omega (arith, below))
zip-at R (x ∷ xs) [] i d e are below = absurd are
zip-at R (x ∷ xs) (y ∷ ys) zero d e are below = are.0
zip-at R (x ∷ xs) (y ∷ ys) (suc i) d e are below = zip-at R xs ys i d e are.1 (omega (arith, below))

-- a product of numbers that are not 0
product-some : (a b : ℕ) → 0 < a → 0 < b → 0 < a * b
product-some a b one other = let both = mul-le-mul_left a other in omega (arith, both, one)

-- so many places of so many corners of so many elements are few
pub stack-few : (places corners height : ℕ) → places ≤ 2 ^ 24 → corners ≤ 2 ^ 8 → height ≤ 2 ^ 19 → places * (corners * height) ≤ 2 ^ 51
stack-few places corners height one two three =
    let inner = mul-le-mul two three in
    let all = mul-le-mul one inner in
    omega (arith, all)

pub stack-some : (corners height : ℕ) → 0 < corners → 0 < height → 0 < corners * height
stack-some corners height one other = product-some corners height one other

-- where an element of them is
pub stack-inside : (places corners height index : ℕ) → 0 < corners → 0 < height → index < places * (corners * height)
    → index / (corners * height) * height + index % (corners * height) % height < places * height
stack-inside places corners height index one some below =
    subst (λ (n : ℕ). place * height + row < n) (mul_comm height places)
    (mul-add-lt place height row places
    ((div-lt_iff_lt-mul {k = corners * height} {x = index} {y = places} (product-some corners height one some)).1 below)
    (mod-lt (index % (corners * height)) some))
  where
    place : ℕ
    place = index / (corners * height)

    row : ℕ
    row = index % (corners * height) % height

-- what holds of the elements before place n, and of that at n, holds of those before n + 1
pub below-more : {X : Type 0} (P Q : ℕ → X → Type 0) (n : ℕ) (xs : List X) (x : X) → n < length xs → x ≡ get_or xs n x
    → ((i : ℕ) (y : X) → i < n → P i y → Q i y) → Q n x → EachBelow n xs P → EachBelow (n + 1) xs Q
below-more {X} P Q n xs x inside is kept here each i y below same = pick (cases_lt i n)
  where
    pick : (i < n) ⊎ (n ≤ i) → Q i y
    pick (inl lower) = kept i y lower (each i y lower same)
    pick (inr upper) =
        let end : n ≡ i = omega (arith, below, upper) in
        subst (λ (j : ℕ). Q j y) end
        (subst (Q n) (is ∙ get_or_default xs n x y inside ∙ ap (λ (j : ℕ). get_or xs j y) end ∙ sym same) here)

-- of a list with one element more, mapped: the elements before, and the last
module _ {A B : Type 0} (f : A → B) (xs : List A) (x : A) (n : ℕ) (long : length xs ≡ n) (d : B) where
  pub mapped-before : (i : ℕ) → i < n → get_or (map f (xs ++ x ∷ [])) i d ≡ get_or (map f xs) i d
  mapped-before i below =
      ap (λ (l : List B). get_or l i d) (map-append f xs (x ∷ []))
      ∙ get_or_append_left (map f xs) (f x ∷ []) d i (let same = length-map xs f in omega (arith, same, long, below))

  pub mapped-last : get_or (map f (xs ++ x ∷ [])) n d ≡ f x
  mapped-last =
      ap (λ (l : List B). get_or l n d) (map-append f xs (x ∷ []))
      ∙ get_or-append_right (map f xs) (f x ∷ []) n n d (length-map xs f ∙ long) (omega arith)
      ∙ ap (λ (j : ℕ). get_or (f x ∷ []) j d) (let none : n - n ≡ 0 = omega arith in none)

-- the element of a mapped list at a place
pub mapped-at : {A B : Type 0} (f : A → B) (xs : List A) (i : ℕ) (x : A) (d : B) → i < length xs → x ≡ get_or xs i x → get_or (map f xs) i d ≡ f x
mapped-at f xs i x d within is = get_or-map f xs i x d within ∙ ap f (sym is)

-- a function's values for the first places, and 0
module _ (f : ℕ → ℕ) (count : ℕ) where
  pub listed-at : (i : ℕ) → i < count → slice_index (map f (range_with_len 0 count)) i ≡ f i
  listed-at i below = get_or-map-range_with_len f 0 count i i 0 below (omega arith)

  pub listed-past : (i : ℕ) → count ≤ i → slice_index (map f (range_with_len 0 count)) i ≡ 0
  listed-past i past =
      let long = length-map-range_with_len f 0 count in get_or_past (map f (range_with_len 0 count)) i 0 (omega (arith, long, past))

  pub listed-lt : (width : ℕ) → ((i : ℕ) → f i < 2 ^ width) → (i : ℕ) → slice_index (map f (range_with_len 0 count)) i < 2 ^ width
  listed-lt width fits i = pick (cases_lt i count)
    where
      pick : (i < count) ⊎ (count ≤ i) → slice_index (map f (range_with_len 0 count)) i < 2 ^ width
      pick (inl below) = subst (λ (v : ℕ). v < 2 ^ width) (sym (listed-at i below)) (fits i)
      pick (inr past) = subst (λ (v : ℕ). v < 2 ^ width) (sym (listed-past i past)) (pow_pos width)

pub listed-same : (f g : ℕ → ℕ) (n : ℕ) → ((i : ℕ) → i < n → f i ≡ g i) → map f (range_with_len 0 n) ≡ map g (range_with_len 0 n)
listed-same f g n same =
    same_number_lists (map f (range_with_len 0 n)) (map g (range_with_len 0 n))
    (length-map-range_with_len f 0 n ∙ sym (length-map-range_with_len g 0 n))
    (λ i within.
    let below : i < n = subst (λ (l : ℕ). i < l) (length-map-range_with_len f 0 n) within in
    listed-at f n i below ∙ same i below ∙ sym (listed-at g n i below))

module _ {F : Type 0} (repr : F → ℕ) where
  -- symbol p of the rows of so many tables
  abbrev pub row_symbols : ℕ → (ℕ → List F) → ℕ → List ℕ
  row_symbols count row p = map (λ i. slice_index (map repr (row i)) p) (range_with_len 0 count)

  -- an element of a list that was made for all places of so many columns of tables
  abbrev pub stack_entry : List (List F) → ℕ → ℕ → ℕ → ℕ
  stack_entry lists size height x =
      slice_index (map repr (get_or lists (x % size / height) [])) (x / size * height + x % size % height)

  module _ (lists : List (List F)) (all height places : ℕ) (some : 0 < height) (room : length lists ≤ all) where
    -- past the tables there is nothing
    entry-past : (x : ℕ) (q : ℕ) → length lists ≤ x → slice_index (map repr (get_or lists x [])) q ≡ 0
    entry-past x q past = ap (λ (l : List F). slice_index (map repr l) q) (get_or_past lists x [] past)

    module _ (list : List F) (made : map repr list ≡ map (stack_entry lists (all * height) height) (range_with_len 0 (places * (all * height)))) where
      pub stack-long : length list ≡ places * (all * height)
      stack-long =
          sym (length-map list repr) ∙ ap length made
          ∙ length-map-range_with_len (stack_entry lists (all * height) height) 0 (places * (all * height))

      row-long : (k : ℕ) → k < places → length (row_at (all * height) list k) ≡ all * height
      row-long k below = column-long places (all * height) list k stack-long below

      in-row : (k j : ℕ) → k < places → j < all * height
          → slice_index (map repr (row_at (all * height) list k)) j ≡ slice_index (map repr (get_or lists (j / height) [])) (k * height + j % height)
      in-row k j below inside =
          ap (λ (l : List ℕ). slice_index l j) (sym (row-map repr (all * height) list k))
          ∙ row-value (all * height) (map repr list) k j inside ∙ ap (λ (l : List ℕ). slice_index l (k * (all * height) + j)) made
          ∙ get_or-map-range_with_len (stack_entry lists (all * height) height) 0 (places * (all * height)) (k * (all * height) + j)
          (k * (all * height) + j) 0
          (subst (λ (m : ℕ). k * (all * height) + j < m) (mul_comm (all * height) places) (mul-add-lt k (all * height) j places below inside))
          (omega arith)
          ∙ ap₂ (λ (a b : ℕ). slice_index (map repr (get_or lists (a / height) [])) (b * height + a % height))
          (mod-mul-add k (all * height) j inside) (div-mul-add k (all * height) j inside)

      pub stack-each : (k j : ℕ) → k < places
          → slice_index (map repr (row_at (all * height) list k)) j
          ≡ slice_index (stacked (length lists) height (sent_column repr height lists) k) j
      stack-each k j below = pick (cases_lt j (length lists * height)) (cases_lt j (all * height))
        where
          more : length lists * height ≤ all * height
          more = mul-le-mul_right height room

          pick : (j < length lists * height) ⊎ (length lists * height ≤ j) → (j < all * height) ⊎ (all * height ≤ j)
              → slice_index (map repr (row_at (all * height) list k)) j
              ≡ slice_index (stacked (length lists) height (sent_column repr height lists) k) j
          pick (inl one) within =
              in-row k j below (omega (arith, one, more))
              ∙ sym (stacked-place (length lists) height (sent_column repr height lists) k j one
              ∙ ap (λ (l : List ℕ). slice_index l (j % height)) (sym (row-map repr height (get_or lists (j / height) []) k))
              ∙ row-value height (map repr (get_or lists (j / height) [])) k (j % height) (mod-lt j some))
          pick (inr past) (inl within) =
              in-row k j below within
              ∙ entry-past (j / height) (k * height + j % height) (pick-past (cases_lt (j / height) (length lists)))
              ∙ sym (stacked-past (length lists) height (sent_column repr height lists) k j past)
            where
              pick-past : (j / height < length lists) ⊎ (length lists ≤ j / height) → length lists ≤ j / height
              pick-past (inr over) = over
              pick-past (inl lower) =
                  let less = (div-lt_iff_lt-mul {k = height} {x = j} {y = length lists} some).0 lower in absurd (omega (arith, less, past))
          pick (inr past) (inr over) =
              get_or_past (map repr (row_at (all * height) list k)) j 0
              (let long = row-long k below in let same = length-map (row_at (all * height) list k) repr in omega (arith, long, same, over))
              ∙ sym (stacked-past (length lists) height (sent_column repr height lists) k j past)

  -- of lists of one element for each place, they are the lists' symbols
  pub stacked-symbols : (lists : List (List F)) (p j : ℕ)
      → slice_index (stacked (length lists) 1 (sent_column repr 1 lists) p) j ≡ slice_index (row_symbols (length lists) (λ i. get_or lists i []) p) j
  stacked-symbols lists p j = pick (cases_lt j (length lists))
    where
      place : j ≡ j * 1 + 0
      place = omega arith

      pick : (j < length lists) ⊎ (length lists ≤ j)
          → slice_index (stacked (length lists) 1 (sent_column repr 1 lists) p) j
          ≡ slice_index (row_symbols (length lists) (λ i. get_or lists i []) p) j
      pick (inl below) =
          ap (slice_index (stacked (length lists) 1 (sent_column repr 1 lists) p)) place
          ∙ stacked-at (length lists) 1 (sent_column repr 1 lists) p j 0 below (omega arith)
          ∙ ap (λ (l : List ℕ). slice_index l 0) (sym (row-map repr 1 (get_or lists j []) p))
          ∙ row-value 1 (map repr (get_or lists j [])) p 0 (omega arith)
          ∙ ap (slice_index (map repr (get_or lists j []))) (let whole : p * 1 + 0 ≡ p = omega arith in whole)
          ∙ sym (listed-at (λ i. slice_index (map repr (get_or lists i [])) p) (length lists) j below)
      pick (inr past) =
          ap (slice_index (stacked (length lists) 1 (sent_column repr 1 lists) p)) place
          ∙ stacked-none (length lists) 1 (sent_column repr 1 lists) p j 0 past
          ∙ sym (listed-past (λ i. slice_index (map repr (get_or lists i [])) p) (length lists) j past)

-- ---- openings

-- the same bytes are opened of the same columns, by the same nodes under the same root
pub bytes-same : {F : Type 0} {hash : List ℕ → List ℕ} {repr : F → ℕ} {size depth height : ℕ} {places root other_root : List ℕ} {columns others : List F}
    {nodes other_nodes : List (List ℕ)} → root ≡ other_root → columns ≡ others → nodes ≡ other_nodes
    → OpensBytes hash repr size depth height places root columns nodes → OpensBytes hash repr size depth height places other_root others other_nodes
bytes-same {F} {hash} {repr} {size} {depth} {height} {places} {root} {other_root} {columns} {others} {nodes} {other_nodes} one two three opened =
    subst (λ (r : List ℕ). OpensBytes hash repr size depth height places r others other_nodes) one
    (subst (λ (l : List F). OpensBytes hash repr size depth height places root l other_nodes) two
    (subst (λ (l : List (List ℕ)). OpensBytes hash repr size depth height places root columns l) three opened))

module _ {F : Type 0} (hash : List ℕ → List ℕ) (repr : F → ℕ) (size width : ℕ) (times : ℕ → ℕ → ℕ) (vector : ℕ → ℕ) where
  -- the bytes of columns that are opened
  bytes-opened : (k r h : ℕ) (root : List ℕ) (point row : List F) (places : List ℕ) (columns : List F) (nodes : List (List ℕ))
      → length point ≡ h → OpensColumns hash repr size width times vector k r root point row places columns nodes
      → OpensBytes hash repr size (r + k) (2 ^ h) places root columns nodes
  bytes-opened k r h root point row places columns nodes long opens = record {
    count = opens.count ∙ ap (λ (m : ℕ). length places * 2 ^ m) long;
    opened =
        subst (λ (m : ℕ). OpensRows hash (r + k) root places (λ i. joined_bytes size repr (row_at (2 ^ m) columns i)) nodes) long opens.opened;
  }

  module _ (wide : 0 < width) (ring : IsRing width 1 times) (range : (x : F) → repr x < 2 ^ width) (m n : ℕ) (roots : List (List ℕ))
      (sent : SentTables F) (challenges point : List F) (row : ℕ → List F) (places : List ℕ) (coordinates : length point ≡ n)
      (room : length roots ≤ 2 ^ length challenges)
      (each : (i : ℕ) → i < length roots
      → OpensColumns hash repr size width times vector (row_levels m n) 2 (get_or roots i []) (take (matrix_rows m n) point) (row i) places
      (get_or sent.columns i []) (get_or sent.nodes i []))
      (row_is : map repr sent.row ≡ map (λ p. multilinear_value times (row_symbols repr (length roots) row p) (map repr challenges))
      (range_with_len 0 (2 ^ row_levels m n)))
      (values_are : map repr sent.values ≡ map (λ i. multilinear_value times (map repr (row i)) (map repr (drop (matrix_rows m n) point)))
      (range_with_len 0 (length roots))) where
    abbrev h : ℕ
    h = matrix_rows m n

    abbrev k : ℕ
    k = row_levels m n

    abbrev word_size : ℕ
    word_size = 2 ^ 2 * 2 ^ k

    abbrev first : List ℕ
    first = map repr (take h point)

    abbrev others : List ℕ
    others = map repr (drop h point)

    abbrev by : List ℕ
    by = map repr challenges

    first-long : length (take h point) ≡ h
    first-long = length-take-le h point (omega (arith, coordinates))

    corners : length roots ≤ 2 ^ length by
    corners = subst (λ (l : ℕ). length roots ≤ 2 ^ l) (sym (length-map challenges repr)) room

    -- the code word of a table's row
    abbrev IsWordAt : ℕ → List ℕ → Type 0
    IsWordAt i word =
        IsCodeWordOf width times vector k 2 word × (take (2 ^ k) word ≡ map repr (row i))
        × ((q : ℕ) → q < length places
        → multilinear_value times (sent_column repr (2 ^ h) sent.columns i q) first ≡ slice_index word (slice_index places q))

    words : (f : ℕ → List ℕ) × ((i : ℕ) → i < length roots → IsWordAt i (f i))
    words = choose [] IsWordAt (length roots) (λ i below. let held = (each i below).agrees in (
      held.word,
      (
        held.code_word,
        held.begins,
        λ q inside.
            ap (λ (l : ℕ). multilinear_value times (map repr (row_at (2 ^ l) (get_or sent.columns i []) q)) first) (sym first-long) ∙ held.agrees q inside,
      ),
    ))

    abbrev word : List ℕ
    word = combination times (eq_corner times by) (length roots) word_size words.0

    word-long : length word ≡ word_size
    word-long = length-map-range_with_len (λ p. sum_below (λ i. times (eq_corner times by i) (slice_index (words.0 i) p)) (length roots)) 0 word_size

    -- symbol p is the value at the challenges of those of the words
    word-at : (p : ℕ) → p < word_size → (g : ℕ → ℕ) → ((i : ℕ) → i < length roots → g i ≡ slice_index (words.0 i) p)
        → ((i : ℕ) → length roots ≤ i → g i ≡ 0) → slice_index word p ≡ value_of times g by
    word-at p below g same none =
        get_or-map-range_with_len (λ p. sum_below (λ i. times (eq_corner times by i) (slice_index (words.0 i) p)) (length roots)) 0 word_size p p 0 below
        (omega arith)
        ∙ value-first width times ring (λ i. slice_index (words.0 i) p) g (length roots) by corners same none

    enough : 2 ^ k ≤ word_size
    enough = omega arith

    begins : take (2 ^ k) word ≡ map repr sent.row
    begins =
        same_number_lists (take (2 ^ k) word) (map repr sent.row) (front ∙ sym long)
        (λ p within.
        let below : p < 2 ^ k = subst (λ (l : ℕ). p < l) front within in
        get_or-take (2 ^ k) word p 0 below
        ∙ word-at p (omega (arith, below, enough)) (slice_index (row_symbols repr (length roots) row p))
        (λ i one.
        listed-at (λ j. slice_index (map repr (row j)) p) (length roots) i one
        ∙ ap (λ (l : List ℕ). slice_index l p) (sym (words.1 i one).1) ∙ get_or-take (2 ^ k) (words.0 i) p 0 below)
        (λ i past. listed-past (λ j. slice_index (map repr (row j)) p) (length roots) i past)
        ∙ sym (ap (λ (l : List ℕ). slice_index l p) row_is
        ∙ listed-at (λ q. multilinear_value times (row_symbols repr (length roots) row q) by) (2 ^ k) p below))
      where
        front : length (take (2 ^ k) word) ≡ 2 ^ k
        front = length-take-le (2 ^ k) word (omega (arith, word-long, enough))

        long : length (map repr sent.row) ≡ 2 ^ k
        long =
            ap length row_is ∙ length-map-range_with_len (λ p. multilinear_value times (row_symbols repr (length roots) row p) by) 0 (2 ^ k)

    agree : (inside : (q : ℕ) → q < length places → slice_index places q < word_size)
        → AgreesAt width times vector k 2 (by ++ first) (map repr sent.row) places (stacked (length roots) (2 ^ h) (sent_column repr (2 ^ h) sent.columns))
    agree inside = record {
      word = word;
      code_word = combinations_are_code_words width times vector wide ring k 2 (length roots) (eq_corner times by) words.0 (λ i one. (words.1 i one).0);
      begins = begins;
      below = inside;
      agrees = λ q below.
          ap (λ (l : ℕ). multilinear_value times (stacked (length roots) (2 ^ l) (sent_column repr (2 ^ h) sent.columns) q) (by ++ first))
          (sym (length-map (take h point) repr ∙ first-long))
          ∙ stacked-value width times ring (length roots) (sent_column repr (2 ^ h) sent.columns) q by first
          (slice_index (map (value q) (range_with_len 0 (length roots)))) (λ i one. listed-at (value q) (length roots) i one)
          (λ i past. listed-past (value q) (length roots) i past)
          ∙ sym (word-at (slice_index places q) (inside q below) (slice_index (map (value q) (range_with_len 0 (length roots))))
          (λ i one. listed-at (value q) (length roots) i one ∙ (words.1 i one).2 q below)
          (λ i past. listed-past (value q) (length roots) i past));
    }
      where
        value : ℕ → ℕ → ℕ
        value q i = multilinear_value times (sent_column repr (2 ^ h) sent.columns i q) first

    evaluate : length others ≡ k → multilinear_value times (map repr sent.values) by ≡ multilinear_value times (map repr sent.row) others
    evaluate behind =
        value-same times (slice_index (map repr sent.values)) (λ i. value_of times (symbol i) others) by (λ i below. at i (cases_lt i (length roots)))
        ∙ value-swap width times ring symbol (λ i p. listed-lt (λ j. slice_index (map repr (row j)) p) (length roots) width
        (λ j. numbers-lt repr width range (row j) p) i) by others
        ∙ value-same times (λ p. value_of times (λ i. symbol i p) by) (slice_index (map repr sent.row)) others
        (λ p below.
        sym (ap (λ (l : List ℕ). slice_index l p) row_is
        ∙ listed-at (λ q. multilinear_value times (row_symbols repr (length roots) row q) by) (2 ^ k) p
        (subst (λ (l : ℕ). p < 2 ^ l) behind below)))
      where
        symbol : ℕ → ℕ → ℕ
        symbol i p = slice_index (row_symbols repr (length roots) row p) i

        at : (i : ℕ) → (i < length roots) ⊎ (length roots ≤ i) → slice_index (map repr sent.values) i ≡ value_of times (symbol i) others
        at i (inl one) =
            ap (λ (l : List ℕ). slice_index l i) values_are
            ∙ listed-at (λ j. multilinear_value times (map repr (row j)) others) (length roots) i one
            ∙ value-same times (slice_index (map repr (row i))) (symbol i) others
            (λ p below. sym (listed-at (λ j. slice_index (map repr (row j)) p) (length roots) i one))
        at i (inr past) =
            ap (λ (l : List ℕ). slice_index l i) values_are
            ∙ listed-past (λ j. multilinear_value times (map repr (row j)) others) (length roots) i past
            ∙ sym (value-zero width times ring (symbol i) others
            (λ p below. listed-past (λ j. slice_index (map repr (row j)) p) (length roots) i past))

    pub tables-open : ((q : ℕ) → q < length places → slice_index places q < word_size) → length sent.columns ≡ length roots
        → length sent.nodes ≡ length roots → OpensTables hash repr size width times vector m n roots sent challenges point places
    tables-open inside columns nodes = record {
      values =
          sym (length-map sent.values repr) ∙ ap length values_are
          ∙ length-map-range_with_len (λ i. multilinear_value times (map repr (row i)) others) 0 (length roots);
      columns = columns;
      nodes = nodes;
      opened = λ i one.
          bytes-opened k 2 h (get_or roots i []) (take h point) (row i) places (get_or sent.columns i []) (get_or sent.nodes i []) first-long
          (each i one);
      agrees = agree inside;
      evaluates = evaluate behind;
    }
      where
        behind : length others ≡ k
        behind = length-map (drop h point) repr ∙ length-drop h point ∙ ap (λ (l : ℕ). l - h) coordinates
