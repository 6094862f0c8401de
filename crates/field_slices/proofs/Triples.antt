-- The line lemma by triples of points: where many points of a line are near a code, two of them lie on a line of code words with many others.
use Rattle.std.proofs.Common.{◌≡◌, ◌⊎◌, inl, inr, ℕ, zero, suc, ◌+◌, ◌-◌, ◌*◌, ◌^◌, ◌<◌, ◌≤◌, Bool, true, false, cond, refl, sym, ◌∙◌, ap, subst, arith}
use Rattle.std.specs.Prelude.{◌&&◌, ◌||◌, min, nat_eq, not}
use Rattle.std.proofs.Math.Dec.{ltb}
use Rattle.std.proofs.Math.Nat.{mul-le-mul_left}
use Rattle.std.proofs.lemmas.Bool.{cases_lt, ltb-false, ltb-true}
use Rattle.std.proofs.lemmas.Bool.Decides.{eqb_tells}
use Rattle.field_base.specs.Field.{IsField}
use Rattle.field_base.specs.PolynomialRoots.{AreDistinctBelow}
use Rattle.field_slices.specs.Codes.{AreNearTogether, HasDistance, HaveSymbols, IsNear, TriplesAreNear, on_affine}
use Rattle.field_slices.specs.Marks.{marked_below, total}
use Rattle.field_slices.proofs.Counting.{total-add, total-most, total-same, total-times, total-zero}
use Rattle.field_slices.proofs.Counts.{enumerated, total-same_number, unmarked-count}
use Rattle.field_slices.proofs.Lines.{clamped, clamped-lt, near-together}

-- ---- numbers

-- t + t + N cubes are at least three times t t N
cube : (N t : ℕ) → 3 * (t * t * N) ≤ N * N * N + 2 * (t * t * t)
cube N t = elim (cases_lt N t) [
  | inl less ↦ low N (t - N) t (omega (arith, less))
  | inr more ↦ high t (N - t) N (omega (arith, more))
]
  where
    low : (N r t : ℕ) → t ≡ N + r → 3 * (t * t * N) ≤ N * N * N + 2 * (t * t * t)
    low N r t is =
        subst (λ (s : ℕ). 3 * (s * s * N) ≤ N * N * N + 2 * (s * s * s)) (sym is) (omega arith)

    high : (t r N : ℕ) → N ≡ t + r → 3 * (t * t * N) ≤ N * N * N + 2 * (t * t * t)
    high t r N is =
        subst (λ (s : ℕ). 3 * (t * t * s) ≤ s * s * s + 2 * (t * t * t)) (sym is) (omega arith)

exchange : (f : ℕ → ℕ → ℕ) (m n : ℕ) → total (λ i. total (λ p. f i p) n) m ≡ total (λ p. total (λ i. f i p) m) n
unfolding total
exchange f zero n = sym (total-zero n)
exchange f (suc m) n =
    let before = exchange f m n in
    let split = total-add (λ p. total (λ i. f i p) m) (λ p. f m p) n in
    omega (arith, before, split)

-- at most one number is i
equals-below : (i n : ℕ) → (n ≤ i → total (λ j. cond (nat_eq i j) 1 0) n ≡ 0) × (total (λ j. cond (nat_eq i j) 1 0) n ≤ 1)
unfolding total
equals-below i zero = ((λ above. refl), omega arith)
equals-below i (suc n) = pick (eqb_tells i n) (equals-below i n)
  where
    pick : ((nat_eq i n ≡ true) × (i ≡ n)) ⊎ ((nat_eq i n ≡ false) × (i ≡ n → ⊥))
        → (n ≤ i → total (λ j. cond (nat_eq i j) 1 0) n ≡ 0) × (total (λ j. cond (nat_eq i j) 1 0) n ≤ 1)
        → (suc n ≤ i → total (λ j. cond (nat_eq i j) 1 0) n + cond (nat_eq i n) 1 0 ≡ 0)
        × (total (λ j. cond (nat_eq i j) 1 0) n + cond (nat_eq i n) 1 0 ≤ 1)
    pick (inl same) before =
        let one : ℕ = 1 in let none : ℕ = 0 in
        let here : cond (nat_eq i n) one none ≡ one = ap (λ (b : Bool). cond b one none) same.0 in
        let is = same.1 in
        let empty = before.0 (omega (arith, is)) in
        ((λ above. absurd (omega (arith, above, is))), omega (arith, here, empty))
    pick (inr other) before =
        let one : ℕ = 1 in let none : ℕ = 0 in
        let here : cond (nat_eq i n) one none ≡ none = ap (λ (b : Bool). cond b one none) other.0 in
        let most = before.1 in
        ((λ above. let empty = before.0 (omega (arith, above)) in omega (arith, here, empty)), omega (arith, here, most))

one-equal : (i n : ℕ) → total (λ j. cond (nat_eq i j) 1 0) n ≤ 1
one-equal i n = (equals-below i n).1

-- what the room of the lemma says of its numbers
positive : (s n g e c d : ℕ) → g + e ≡ n → s * (n * n * c) + n * d * (e + 2) < s * (g * g * g) → 1 ≤ s * s * n
positive zero n g e c d rest room = absurd (omega (arith, room))
positive (suc s) zero g e c d rest room =
    let none : g ≡ 0 = omega (arith, rest) in
    let over = subst (λ (x : ℕ). suc s * (0 * 0 * c) + 0 * d * (e + 2) < suc s * (x * x * x)) none room in
    absurd (omega (arith, over))
positive (suc s) (suc n) g e c d rest room = omega arith

clashing : (s n g e c d a b top : ℕ) → s * s * n * (s * (n * n * c) + n * d * (e + 2) + 1) ≤ s * s * n * (s * (g * g * g)) → 1 ≤ s * s * n
    → a ≤ top → top ≡ s * n * (s * n * (s * n * c) + d * (s * n * (e + 1) + s * n)) → a ≡ b → n * (s * g * (s * g) * (s * g)) ≤ b → ⊥
clashing s n g e c d a b top scaled some most top_is same least = omega (arith, scaled, some, most, top_is, same, least)

-- a search for a pair
find : (t : ℕ → Bool) (m : ℕ) → ((j : ℕ) × (j < m) × (t j ≡ true)) ⊎ ((j : ℕ) → j < m → t j ≡ false)
find t zero = inr (λ j below. absurd (omega (arith, below)))
find t (suc m) = join (find t m) (t m) refl
  where
    join : ((j : ℕ) × (j < m) × (t j ≡ true)) ⊎ ((j : ℕ) → j < m → t j ≡ false) → (b : Bool) → t m ≡ b
        → ((j : ℕ) × (j < suc m) × (t j ≡ true)) ⊎ ((j : ℕ) → j < suc m → t j ≡ false)
    join (inl found) b is = inl (found.0, omega (arith, found.1), found.2)
    join (inr none) true is = inl (m, omega arith, is)
    join (inr none) false is = inr (λ j below. elim (cases_lt j m) [
      | inl lower ↦ none j lower
      | inr upper ↦ let end : m ≡ j = omega (arith, below, upper) in subst (λ (k : ℕ). t k ≡ false) end is
    ])

find-pair : (t : ℕ → ℕ → Bool) (m b : ℕ)
    → ((i j : ℕ) × (i < b) × (j < m) × (t i j ≡ true)) ⊎ ((i j : ℕ) → i < b → j < m → t i j ≡ false)
find-pair t m zero = inr (λ i j below inside. absurd (omega (arith, below)))
find-pair t m (suc b) = join (find-pair t m b) (find (t b) m)
  where
    join : ((i j : ℕ) × (i < b) × (j < m) × (t i j ≡ true)) ⊎ ((i j : ℕ) → i < b → j < m → t i j ≡ false)
        → ((j : ℕ) × (j < m) × (t b j ≡ true)) ⊎ ((j : ℕ) → j < m → t b j ≡ false)
        → ((i j : ℕ) × (i < suc b) × (j < m) × (t i j ≡ true)) ⊎ ((i j : ℕ) → i < suc b → j < m → t i j ≡ false)
    join (inl found) last = inl (found.0, found.1, omega (arith, found.2), found.3, found.4)
    join (inr none) (inl found) = inl (b, found.0, omega arith, found.1, found.2)
    join (inr none) (inr missing) = inr (λ i j below inside. elim (cases_lt i b) [
      | inl lower ↦ none i j lower inside
      | inr upper ↦ let end : b ≡ i = omega (arith, below, upper) in subst (λ (k : ℕ). t k j ≡ false) end (missing j inside)
    ])

-- ---- triples

module _ (m n : ℕ) (marked : ℕ → ℕ → Bool) where
  -- 1 where j does not mark p
  abbrev free : ℕ → ℕ → ℕ
  free j p = cond (not (marked j p)) 1 0

  -- how many do not
  abbrev frees : ℕ → ℕ
  frees p = total (λ j. free j p) m

  -- at how many places no one of three marks
  abbrev free_of : ℕ → ℕ → ℕ → ℕ
  free_of i j k = total (λ p. free i p * free j p * free k p) n

  abbrev marks_of : ℕ → ℕ → ℕ → ℕ
  marks_of i j k = marked_below (λ p. marked i p || marked j p || marked k p) n

  thirds : (i j : ℕ) → total (λ k. free_of i j k) m ≡ total (λ p. free i p * free j p * frees p) n
  thirds i j =
      exchange (λ k p. free i p * free j p * free k p) m n
      ∙ total-same (λ p. total (λ k. free i p * free j p * free k p) m) (λ p. free i p * free j p * frees p) n
      (λ p below. total-times (free i p * free j p) (λ k. free k p) m)

  seconds : (i : ℕ) → total (λ j. total (λ k. free_of i j k) m) m ≡ total (λ p. free i p * frees p * frees p) n
  seconds i =
      total-same (λ j. total (λ k. free_of i j k) m) (λ j. total (λ p. free i p * free j p * frees p) n) m (λ j below. thirds i j)
      ∙ exchange (λ j p. free i p * free j p * frees p) m n
      ∙ total-same (λ p. total (λ j. free i p * free j p * frees p) m) (λ p. free i p * frees p * frees p) n
      (λ p below.
      total-same (λ j. free i p * free j p * frees p) (λ j. free i p * frees p * free j p) m (λ j inside. turned (free i p) (free j p) (frees p))
      ∙ total-times (free i p * frees p) (λ j. free j p) m ∙ turned-back (free i p) (frees p))
    where
      turned : (a b c : ℕ) → a * b * c ≡ a * c * b
      turned a b c = omega arith

      turned-back : (a c : ℕ) → a * c * c ≡ a * c * c
      turned-back a c = refl

  firsts : total (λ i. total (λ j. total (λ k. free_of i j k) m) m) m ≡ total (λ p. frees p * frees p * frees p) n
  firsts =
      total-same (λ i. total (λ j. total (λ k. free_of i j k) m) m) (λ i. total (λ p. free i p * frees p * frees p) n) m (λ i below. seconds i)
      ∙ exchange (λ i p. free i p * frees p * frees p) m n
      ∙ total-same (λ p. total (λ i. free i p * frees p * frees p) m) (λ p. frees p * frees p * frees p) n
      (λ p below.
      total-same (λ i. free i p * frees p * frees p) (λ i. frees p * frees p * free i p) m (λ i inside. turned (free i p) (frees p))
      ∙ total-times (frees p * frees p) (λ i. free i p) m)
    where
      turned : (a b : ℕ) → a * b * b ≡ b * b * a
      turned a b = omega arith

  -- many places are free of three, on average
  many-free : (t : ℕ) → n * t ≤ total frees n → n * (t * t * t) ≤ total (λ p. frees p * frees p * frees p) n
  many-free t enough =
      let each = total-most (λ p. 3 * (t * t) * frees p) (λ p. frees p * frees p * frees p + 2 * (t * t * t)) n (λ p below. at (frees p)) in
      let left = total-times (3 * (t * t)) frees n in
      let split = total-add (λ p. frees p * frees p * frees p) (λ p. 2 * (t * t * t)) n in
      let right = total-same_number (2 * (t * t * t)) n in
      let more = mul-le-mul_left (3 * (t * t)) enough in
      joined (total frees n) (total (λ p. 3 * (t * t) * frees p) n) (total (λ p. frees p * frees p * frees p + 2 * (t * t * t)) n)
      (total (λ p. frees p * frees p * frees p) n) (total (λ p. 2 * (t * t * t)) n) each left split right more
    where
      at : (N : ℕ) → 3 * (t * t) * N ≤ N * N * N + 2 * (t * t * t)
      at N = let is = cube N t in omega (arith, is)

      joined : (N a b c d : ℕ) → a ≤ b → a ≡ 3 * (t * t) * N → b ≡ c + d → d ≡ n * (2 * (t * t * t)) → 3 * (t * t) * (n * t) ≤ 3 * (t * t) * N
          → n * (t * t * t) ≤ c
      joined N a b c d less a_is b_is d_is more = omega (arith, less, a_is, b_is, d_is, more)

  free-marks : (i j k : ℕ) → free_of i j k + marks_of i j k ≡ n
  free-marks i j k =
      sym (total-add (λ p. free i p * free j p * free k p) (λ p. cond (marked i p || marked j p || marked k p) 1 0) n)
      ∙ total-same (λ p. free i p * free j p * free k p + cond (marked i p || marked j p || marked k p) 1 0) (λ p. 1) n
      (λ p below. at (marked i p) (marked j p) (marked k p))
      ∙ total-same_number 1 n ∙ ones n
    where
      at : (x y z : Bool) → cond (not x) 1 0 * cond (not y) 1 0 * cond (not z) 1 0 + cond (x || y || z) 1 0 ≡ 1
      at true y z = omega arith
      at false true z = omega arith
      at false false true = refl
      at false false false = refl

      ones : (n : ℕ) → n * 1 ≡ n
      ones n = omega arith

  module _ (e c d g s : ℕ) (parts : c + d ≡ n) (rest : g + e ≡ n) (count : m ≡ s * n)
      (few : (j : ℕ) → j < m → marked_below (marked j) n ≤ e)
      (room : s * (n * n * c) + n * d * (e + 2) < s * (g * g * g)) where
    -- a third point is good for two: the three mark fewer places than d
    abbrev pub good : ℕ → ℕ → ℕ → Bool
    good i j k = ltb (marks_of i j k) d

    abbrev goods : ℕ → ℕ → ℕ
    goods i j = marked_below (good i j) m

    all-free : n * (s * g) ≤ total frees n
    all-free =
        let sums = exchange (λ j p. free j p) m n in
        let each = total-most (λ j. g) (λ j. total (λ p. free j p) n) m (λ j below. at j below) in
        let constant = total-same_number g m in
        let turned : n * (s * g) ≡ s * n * g = omega arith in
        let number : m * g ≡ s * n * g = ap (λ (k : ℕ). k * g) count in
        omega (arith, sums, each, constant, turned, number)
      where
        at : (j : ℕ) → j < m → g ≤ total (λ p. free j p) n
        at j below = let all = unmarked-count (marked j) n in let some = few j below in omega (arith, all, some, rest)

    good-free : (i j k : ℕ) → free_of i j k ≤ c + d * cond (good i j k) 1 0
    good-free i j k = pick (good i j k) refl
      where
        pick : (b : Bool) → good i j k ≡ b → free_of i j k ≤ c + d * cond b 1 0
        pick true is = let all = free-marks i j k in omega (arith, all, parts)
        pick false is = let all = free-marks i j k in let many = ltb-false (marks_of i j k) d is in omega (arith, all, parts, many)

    third-sum : (i j : ℕ) → total (λ k. free_of i j k) m ≤ m * c + d * goods i j
    third-sum i j =
        let most = total-most (λ k. free_of i j k) (λ k. c + d * cond (good i j k) 1 0) m (λ k below. good-free i j k) in
        let split = total-add (λ k. c) (λ k. d * cond (good i j k) 1 0) m in
        let one = total-same_number c m in
        let other = total-times d (λ k. cond (good i j k) 1 0) m in
        omega (arith, most, split, one, other)

    goods-most : (i j : ℕ) → goods i j ≤ m
    goods-most i j = let all = unmarked-count (good i j) m in omega (arith, all)

    abbrev wanted : ℕ → ℕ → Bool
    wanted i j = not (nat_eq i j) && ltb (e + 1) (goods i j)

    goods-few : ((i j : ℕ) → i < m → j < m → wanted i j ≡ false) → (i j : ℕ) → i < m → j < m → goods i j ≤ e + 1 + m * cond (nat_eq i j) 1 0
    goods-few none i j i_below j_below = pick (nat_eq i j) refl (none i j i_below j_below) (goods-most i j)
      where
        pick : (b : Bool) → nat_eq i j ≡ b → (not (nat_eq i j) && ltb (e + 1) (goods i j)) ≡ false → goods i j ≤ m → goods i j ≤ e + 1 + m * cond b 1 0
        pick true is unwanted most = omega (arith, most)
        pick false is unwanted most =
            let small : ltb (e + 1) (goods i j) ≡ false = sym (ap (λ (b : Bool). not b && ltb (e + 1) (goods i j)) is) ∙ unwanted in
            let less = ltb-false (e + 1) (goods i j) small in
            omega (arith, less)

    second-sum : ((i j : ℕ) → i < m → j < m → wanted i j ≡ false) → (i : ℕ) → i < m
        → total (λ j. total (λ k. free_of i j k) m) m ≤ m * (m * c) + d * (m * (e + 1) + m)
    second-sum none i below =
        let most = total-most (λ j. total (λ k. free_of i j k) m) (λ j. (m * c + d * (e + 1)) + d * m * cond (nat_eq i j) 1 0) m (λ j inside. at j inside) in
        let split = total-add (λ j. m * c + d * (e + 1)) (λ j. d * m * cond (nat_eq i j) 1 0) m in
        let one = total-same_number (m * c + d * (e + 1)) m in
        let other = total-times (d * m) (λ j. cond (nat_eq i j) 1 0) m in
        let single = mul-le-mul_left (d * m) (one-equal i m) in
        joined (total (λ j. total (λ k. free_of i j k) m) m) (total (λ j. (m * c + d * (e + 1)) + d * m * cond (nat_eq i j) 1 0) m)
        (total (λ j. m * c + d * (e + 1)) m) (total (λ j. d * m * cond (nat_eq i j) 1 0) m) (total (λ j. cond (nat_eq i j) 1 0) m)
        most split one other single
      where
        at : (j : ℕ) → j < m → total (λ k. free_of i j k) m ≤ (m * c + d * (e + 1)) + d * m * cond (nat_eq i j) 1 0
        at j inside =
            let sum = third-sum i j in
            let more = mul-le-mul_left d (goods-few none i j below inside) in
            joined (total (λ k. free_of i j k) m) (goods i j) (cond (nat_eq i j) 1 0) sum more
          where
            joined : (a b x : ℕ) → a ≤ m * c + d * b → d * b ≤ d * (e + 1 + m * x) → a ≤ (m * c + d * (e + 1)) + d * m * x
            joined a b x sum more = omega (arith, sum, more)

        joined : (a b one other x : ℕ) → a ≤ b → b ≡ one + other → one ≡ m * (m * c + d * (e + 1)) → other ≡ d * m * x → d * m * x ≤ d * m * 1
            → a ≤ m * (m * c) + d * (m * (e + 1) + m)
        joined a b one other x most split one_is other_is single = omega (arith, most, split, one_is, other_is, single)

    -- so for some two, more than e + 1 thirds are good
    pub good-pair : (i j : ℕ) × (i < m) × (j < m) × (i ≡ j → ⊥) × (e + 2 ≤ marked_below (good i j) m)
    good-pair = pick (find-pair wanted m m)
      where
        pick : ((i j : ℕ) × (i < m) × (j < m) × (wanted i j ≡ true)) ⊎ ((i j : ℕ) → i < m → j < m → wanted i j ≡ false)
            → (i j : ℕ) × (i < m) × (j < m) × (i ≡ j → ⊥) × (e + 2 ≤ marked_below (good i j) m)
        pick (inl found) = (found.0, found.1, found.2, found.3, differ, enough)
          where
            differ : found.0 ≡ found.1 → ⊥
            differ same = elim (eqb_tells found.0 found.1) [
              | inl equal ↦ let no : (not true && ltb (e + 1) (goods found.0 found.1)) ≡ true =
                  sym (ap (λ (b : Bool). not b && ltb (e + 1) (goods found.0 found.1)) equal.0) ∙ found.4 in absurd (cc)
              | inr other ↦ other.1 same
            ]

            enough : e + 2 ≤ goods found.0 found.1
            enough =
                let above = ltb-true (e + 1) (goods found.0 found.1) (second (not (nat_eq found.0 found.1)) (ltb (e + 1) (goods found.0 found.1)) found.4) in
                omega (arith, above)
              where
                second : (a b : Bool) → (a && b) ≡ true → b ≡ true
                second true b is = is
                second false b is = absurd (cc)
        pick (inr none) =
            let most = total-most (λ i. total (λ j. total (λ k. free_of i j k) m) m) (λ i. m * (m * c) + d * (m * (e + 1) + m)) m (second-sum none) in
            let constant = total-same_number (m * (m * c) + d * (m * (e + 1) + m)) m in
            let least = many-free (s * g) all-free in
            absurd (clash m count (total (λ i. total (λ j. total (λ k. free_of i j k) m) m) m) (total (λ p. frees p * frees p * frees p) n)
            (total (λ i. m * (m * c) + d * (m * (e + 1) + m)) m) most constant firsts least)
          where
            clash : (m : ℕ) → m ≡ s * n → (a b top : ℕ) → a ≤ top → top ≡ m * (m * (m * c) + d * (m * (e + 1) + m)) → a ≡ b
                → n * (s * g * (s * g) * (s * g)) ≤ b → ⊥
            clash m is a b top most top_is same least =
                let scaled = mul-le-mul_left (s * s * n) (whole room) in
                let top_at : m * (m * (m * c) + d * (m * (e + 1) + m)) ≡ s * n * (s * n * (s * n * c) + d * (s * n * (e + 1) + s * n)) =
                ap (λ (k : ℕ). k * (k * (k * c) + d * (k * (e + 1) + k))) is in
                clashing s n g e c d a b top scaled (positive s n g e c d rest room) most (top_is ∙ top_at) same least
              where
                whole : s * (n * n * c) + n * d * (e + 2) < s * (g * g * g) → s * (n * n * c) + n * d * (e + 2) + 1 ≤ s * (g * g * g)
                whole less = omega (arith, less)

-- ---- the lemma

module _ (width : ℕ) (times : ℕ → ℕ → ℕ) (wide : 0 < width) (field : IsField width times) (size n d : ℕ) (generator : ℕ → ℕ → ℕ)
    (distance : HasDistance times size n generator d) (e c g s : ℕ) (parts : c + d ≡ n) (rest : g + e ≡ n)
    (room : s * (n * n * c) + n * d * (e + 2) < s * (g * g * g)) (height : ℕ) (u v : ℕ → ℕ → ℕ) (v_fits : HaveSymbols width n height v)
    (x : ℕ → ℕ) (distinct : AreDistinctBelow (s * n) (2 ^ width) x)
    (near : (j : ℕ) → j < s * n → IsNear times size n generator e height (on_affine times u v (x j))) where
  some : 1 ≤ s * n
  some = at s n (positive s n g e c d rest room)
    where
      at : (s n : ℕ) → 1 ≤ s * s * n → 1 ≤ s * n
      at zero n is = absurd (omega (arith, is))
      at (suc s) zero is = absurd (omega (arith, is))
      at (suc s) (suc n) is = omega arith

  -- point j, or the last one
  held : ℕ → ℕ
  held j = min j (s * n - 1)

  held-lt : (j : ℕ) → held j < s * n
  unfolding held
  held-lt j = let is = some in omega (arith, is)

  held-same : (j : ℕ) → j < s * n → held j ≡ j
  unfolding held
  held-same j below = omega (arith, below)

  at : (j : ℕ) → IsNear times size n generator e height (on_affine times u v (x (held j)))
  at j = near (held j) (held-lt j)

  pair : (i j : ℕ) × (i < s * n) × (j < s * n) × (i ≡ j → ⊥)
      × (e + 2 ≤ marked_below (good (s * n) n (λ j. (at j).marked) e c d g s parts rest refl (λ j below. (at j).few) room i j) (s * n))
  pair = good-pair (s * n) n (λ j. (at j).marked) e c d g s parts rest refl (λ j below. (at j).few) room

  abbrev goods_of : ℕ → Bool
  goods_of k = ltb (marked_below (λ p. (at pair.0).marked p || (at pair.1).marked p || (at k).marked p) n) d

  thirds_are : (z : ℕ → ℕ) × ((i : ℕ) → i < marked_below goods_of (s * n) → (z i < s * n) × (goods_of (z i) ≡ true))
      × ((i j : ℕ) → i < marked_below goods_of (s * n) → j < marked_below goods_of (s * n) → z i ≡ z j → i ≡ j)
  thirds_are = enumerated goods_of (s * n)

  enough : e + 2 ≤ marked_below goods_of (s * n)
  enough = pair.5

  together : AreNearTogether times size n generator e height u v
  together =
      near-together width times wide field size n d generator distance e height u v v_fits (x (held pair.0)) (x (held pair.1))
      (distinct.below (held pair.0) (held-lt pair.0)) (distinct.below (held pair.1) (held-lt pair.1)) apart (at pair.0) (at pair.1)
      (λ l. x (held (thirds_are.0 l)))
      (record { below = λ l below. distinct.below (held (thirds_are.0 l)) (held-lt (thirds_are.0 l)); differ = differ })
      (λ l. at (thirds_are.0 (clamped e l)))
      (λ l below.
      let within : clamped e l < marked_below goods_of (s * n) =
      (let is = clamped-lt e l in let all = enough in omega (arith, is, all)) in
      ltb-true (marked_below (λ p. (at pair.0).marked p || (at pair.1).marked p || (at (thirds_are.0 (clamped e l))).marked p) n) d
      (thirds_are.1 (clamped e l) within).1)
    where
      apart : x (held pair.0) ≡ x (held pair.1) → ⊥
      apart same =
          pair.4 (sym (held-same pair.0 pair.2) ∙ distinct.differ (held pair.0) (held pair.1) (held-lt pair.0) (held-lt pair.1) same
          ∙ held-same pair.1 pair.3)

      differ : (i j : ℕ) → i < e + 2 → j < e + 2 → x (held (thirds_are.0 i)) ≡ x (held (thirds_are.0 j)) → i ≡ j
      differ i j i_below j_below same =
          let all = enough in
          let i_in : i < marked_below goods_of (s * n) = omega (arith, i_below, all) in
          let j_in : j < marked_below goods_of (s * n) = omega (arith, j_below, all) in
          thirds_are.2 i j i_in j_in
          (sym (held-same (thirds_are.0 i) (thirds_are.1 i i_in).0)
          ∙ distinct.differ (held (thirds_are.0 i)) (held (thirds_are.0 j)) (held-lt (thirds_are.0 i)) (held-lt (thirds_are.0 j)) same
          ∙ held-same (thirds_are.0 j) (thirds_are.1 j j_in).0)

pub triples_are_near : TriplesAreNear
triples_are_near width times size n d generator wide field distance e c g s parts rest room height u v v_fits m x distinct many near =
    together width times wide field size n d generator distance e c g s parts rest room height u v v_fits x
    (record {
      below = λ j below. distinct.below j (more j below);
      differ = λ i j i_below j_below. distinct.differ i j (more i i_below) (more j j_below);
    })
    (λ j below. near j (more j below))
  where
    more : (j : ℕ) → j < s * n → j < m
    more j below = omega (arith, below, many)
