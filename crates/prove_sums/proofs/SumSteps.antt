-- Proofs of sums as elements: what is at their places, and what is said by sizes and tests.
use Rattle.std.proofs.Common.{◌≡◌, ℕ, zero, suc, ◌<◌, List, [], ◌∷◌, ◌++◌, ◌≤◌, append_assoc, length, map, take, get_or, refl, sym, ◌∙◌, ap, subst, arith}
use Rattle.std.specs.Prelude.{slice_index}
use Rattle.std.specs.List.{flat_map}
use Rattle.std.proofs.lemmas.List.{append-nil}

-- the number of the element at a place
pub number-at : {F : Type 0} (repr : F → ℕ) (xs : List F) (place : ℕ) (x : F) → place < length xs → x ≡ get_or xs place x
    → repr x ≡ slice_index (map repr xs) place
number-at repr [] place x inside read = absurd (omega (arith, inside))
number-at repr (y ∷ ys) zero x inside read = ap repr read
number-at repr (y ∷ ys) (suc place) x inside read = number-at repr ys place x (omega (arith, inside)) read

-- what is said by the sizes of a commitment, and of a value, is said by other sizes and of another value that are the same
pub sizes-same : {X : Type 0} (says : ℕ → ℕ → X → Type 0) {q m v n : ℕ} {x y : X} → q ≡ m → v ≡ n → x ≡ y → says q v x → says m n y
sizes-same says {q} {m} {v} {n} {x} {y} one two three holds =
    subst (λ (a : ℕ). says a n y) one (subst (λ (a : ℕ). says q a y) two (subst (says q v) three holds))

-- the elements of a proof, as they are written
pub elements-listed : {F : Type 0} {none one two three four five six ms vs rs cs messages values row columns : List F} (sum witness : F) → none ≡ []
    → one ≡ none ++ sum ∷ [] → two ≡ one ++ ms → ms ≡ messages → three ≡ two ++ vs → vs ≡ values → four ≡ three ++ witness ∷ []
    → five ≡ four ++ rs → rs ≡ row → six ≡ five ++ cs → cs ≡ columns → six ≡ sum ∷ messages ++ (values ++ (witness ∷ row ++ columns))
elements-listed {one = one} {two = two} {three = three} {four = four} {five = five} {messages = messages} {values = values} {row = row}
    {columns = columns} sum witness a b c d e f g h i j k =
    j ∙ ap (λ (l : List _). five ++ l) k ∙ ap (λ (l : List _). l ++ columns) (h ∙ ap (λ (l : List _). four ++ l) i)
    ∙ ap (λ (l : List _). (l ++ row) ++ columns) (g ∙ ap (λ (l : List _). l ++ witness ∷ []) (e ∙ ap (λ (l : List _). two ++ l) f))
    ∙ ap (λ (l : List _). (((l ++ values) ++ witness ∷ []) ++ row) ++ columns)
    (c ∙ ap (λ (l : List _). one ++ l) d ∙ ap (λ (l : List _). l ++ messages) (b ∙ ap (λ (l : List _). l ++ sum ∷ []) a))
    ∙ append_assoc (((sum ∷ messages) ++ values) ++ witness ∷ []) row columns
    ∙ append_assoc ((sum ∷ messages) ++ values) (witness ∷ []) (row ++ columns) ∙ append_assoc (sum ∷ messages) values (witness ∷ row ++ columns)

-- ---- lists, one after the other

-- one list more
pub flat-more : {X Y : Type 0} (f : Y → List X) (ys : List Y) (i : ℕ) (y : Y) → i < length ys → y ≡ get_or ys i y
    → flat_map (λ (list : List X). list) (take (suc i) (map f ys)) ≡ flat_map (λ (list : List X). list) (take i (map f ys)) ++ f y
flat-more f [] i y inside is = absurd (omega (arith, inside))
flat-more f (z ∷ zs) zero y inside is = append-nil (f z) ∙ ap f (sym is)
flat-more {X} f (z ∷ zs) (suc i) y inside is =
    ap (λ (l : List X). f z ++ l) (flat-more f zs i y (omega (arith, inside)) is)
    ∙ sym (append_assoc (f z) (flat_map (λ (list : List X). list) (take i (map f zs))) (f y))

-- all lists
pub take-whole : {X : Type 0} (xs : List X) (n : ℕ) → length xs ≤ n → take n xs ≡ xs
take-whole [] zero all = refl
take-whole [] (suc n) all = refl
take-whole (x ∷ xs) zero all = absurd (omega (arith, all))
take-whole {X} (x ∷ xs) (suc n) all = ap (λ (l : List X). x ∷ l) (take-whole xs n (omega (arith, all)))
