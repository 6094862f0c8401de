-- For how many points and lists of places a prover that cheats is accepted.
use Rattle.std.proofs.Common.{◌≡◌, ◌⊎◌, inl, inr, ℕ, zero, suc, ◌+◌, ◌-◌, ◌*◌, ◌^◌, ◌<◌, ◌≤◌, Bool, true, false, cond, List, [], ◌∷◌, length, refl, sym, ◌∙◌, ap, subst, le_trans, arith}
use Rattle.std.specs.Prelude.{◌&&◌, ◌++◌, nat_eq, not, slice_index}
use Rattle.std.proofs.Math.Nat.{mul-le-mul_left, pow-le-pow_left, pow-suc, pow-zero, two-pow-succ}
use Rattle.std.proofs.lemmas.Bool.{cases_lt}
use Rattle.std.proofs.lemmas.Bool.Decides.{eqb_tells}
use Rattle.field_base.specs.Field.{IsField}
use Rattle.field_slices.specs.Codes.{HasDistance, HasGap, HaveSymbols, IsNear, IsWordOf}
use Rattle.field_slices.specs.Folds.{fold_rows, rows_folded}
use Rattle.field_slices.specs.Marks.{marked_below, total}
use Rattle.field_slices.specs.Openings.{AreNumbersBelow, FewCheatsAreAccepted, FewPointsFoldNear, IsOpened, accepted_cheats, all_unmarked, misses, sum_lists}
use Rattle.field_slices.proofs.Counting.{total-add, total-most, total-same, total-times}
use Rattle.field_slices.proofs.Deciding.{near-decided}
use Rattle.field_slices.proofs.Folds.{few_folds_are_near, fold-fits}
use Rattle.field_slices.proofs.Openings.{little-missed, near-row}

-- ---- sums over lists

pub total-same_number : (c n : ℕ) → total (λ p. c) n ≡ n * c
unfolding total
total-same_number c zero = omega arith
total-same_number c (suc n) = let before = total-same_number c n in omega (arith, before)

numbers-cons : (q bound x : ℕ) (xs : List ℕ) → x < bound → AreNumbersBelow q bound xs → AreNumbersBelow (suc q) bound (x ∷ xs)
numbers-cons q bound x xs first rest = record { count = omega (arith, rest.count); below = at }
  where
    at : (i : ℕ) → i < suc q → slice_index (x ∷ xs) i < bound
    at zero inside = first
    at (suc i) inside = rest.below i (omega (arith, inside))

no-numbers : (bound : ℕ) → AreNumbersBelow 0 bound []
no-numbers bound = record { count = refl; below = λ i inside. absurd (omega (arith, inside)) }

pub lists-below : (q bound : ℕ) (f g : List ℕ → ℕ) → ((xs : List ℕ) → AreNumbersBelow q bound xs → f xs ≤ g xs)
    → sum_lists q bound f ≤ sum_lists q bound g
unfolding sum_lists
lists-below zero bound f g each = each [] (no-numbers bound)
lists-below (suc q) bound f g each =
    total-most (λ x. sum_lists q bound (λ xs. f (x ∷ xs))) (λ x. sum_lists q bound (λ xs. g (x ∷ xs))) bound
    (λ x below. lists-below q bound (λ xs. f (x ∷ xs)) (λ xs. g (x ∷ xs)) (λ xs are. each (x ∷ xs) (numbers-cons q bound x xs below are)))

pub lists-most : (q bound : ℕ) (f g : List ℕ → ℕ) → ((xs : List ℕ) → length xs ≡ q → f xs ≤ g xs) → sum_lists q bound f ≤ sum_lists q bound g
lists-most q bound f g each = lists-below q bound f g (λ xs are. each xs are.count)

-- a test holds at no more lists than one that holds where it does
pub lists-imply : (q bound : ℕ) (one other : List ℕ → Bool)
    → ((xs : List ℕ) → AreNumbersBelow q bound xs → one xs ≡ true → other xs ≡ true)
    → sum_lists q bound (λ xs. cond (one xs) 1 0) ≤ sum_lists q bound (λ xs. cond (other xs) 1 0)
lists-imply q bound one other implied =
    lists-below q bound (λ xs. cond (one xs) 1 0) (λ xs. cond (other xs) 1 0) (λ xs are. at xs are (one xs) refl)
  where
    at : (xs : List ℕ) → AreNumbersBelow q bound xs → (b : Bool) → one xs ≡ b → cond b 1 0 ≤ cond (other xs) 1 0
    at xs are false is = omega arith
    at xs are true is = subst (λ (b : Bool). 1 ≤ cond b 1 0) (sym (implied xs are is)) (omega arith)

total-some : (f : ℕ → ℕ) (n : ℕ) → (total f n ≡ 0) ⊎ ((p : ℕ) × (p < n) × (0 < f p))
unfolding total
total-some f zero = inl refl
total-some f (suc n) = pick (total-some f n) (cases_lt 0 (f n))
  where
    pick : (total f n ≡ 0) ⊎ ((p : ℕ) × (p < n) × (0 < f p)) → (0 < f n) ⊎ (f n ≤ 0)
        → (total f n + f n ≡ 0) ⊎ ((p : ℕ) × (p < suc n) × (0 < f p))
    pick (inr found) last = inr (found.0, omega (arith, found.1), found.2)
    pick (inl none) (inl some) = inr (n, omega arith, some)
    pick (inl none) (inr nothing) = inl (omega (arith, none, nothing))

-- a sum is 0, or some list has a value that is not
pub lists-some : (q bound : ℕ) (f : List ℕ → ℕ)
    → (sum_lists q bound f ≡ 0) ⊎ ((xs : List ℕ) × AreNumbersBelow q bound xs × (0 < f xs))
unfolding sum_lists
lists-some zero bound f = pick (cases_lt 0 (f []))
  where
    pick : (0 < f []) ⊎ (f [] ≤ 0) → (f [] ≡ 0) ⊎ ((xs : List ℕ) × AreNumbersBelow 0 bound xs × (0 < f xs))
    pick (inl some) = inr ([], no-numbers bound, some)
    pick (inr nothing) = inl (omega (arith, nothing))
lists-some (suc q) bound f =
    pick (λ x. lists-some q bound (λ xs. f (x ∷ xs))) (total-some (λ x. sum_lists q bound (λ xs. f (x ∷ xs))) bound)
  where
    later : (x : ℕ) → x < bound → 0 < sum_lists q bound (λ xs. f (x ∷ xs))
        → (sum_lists q bound (λ xs. f (x ∷ xs)) ≡ 0) ⊎ ((xs : List ℕ) × AreNumbersBelow q bound xs × (0 < f (x ∷ xs)))
        → (xs : List ℕ) × AreNumbersBelow (suc q) bound xs × (0 < f xs)
    later x below some (inl none) = absurd (omega (arith, some, none))
    later x below some (inr found) = (x ∷ found.0, numbers-cons q bound x found.0 below found.1, found.2)

    pick : ((x : ℕ) → (sum_lists q bound (λ xs. f (x ∷ xs)) ≡ 0) ⊎ ((xs : List ℕ) × AreNumbersBelow q bound xs × (0 < f (x ∷ xs))))
        → (total (λ x. sum_lists q bound (λ xs. f (x ∷ xs))) bound ≡ 0)
        ⊎ ((x : ℕ) × (x < bound) × (0 < sum_lists q bound (λ xs. f (x ∷ xs))))
        → (total (λ x. sum_lists q bound (λ xs. f (x ∷ xs))) bound ≡ 0)
        ⊎ ((xs : List ℕ) × AreNumbersBelow (suc q) bound xs × (0 < f xs))
    pick before (inl none) = inl none
    pick before (inr found) = inr (later found.0 found.1 found.2 (before found.0))

-- lists of two parts, one after the other
pub lists-split : (h k bound : ℕ) (f : List ℕ → ℕ)
    → sum_lists (h + k) bound f ≡ sum_lists h bound (λ first. sum_lists k bound (λ others. f (first ++ others)))
unfolding sum_lists
lists-split zero k bound f = let none : 0 + k ≡ k = omega arith in ap (λ (q : ℕ). sum_lists q bound f) none
lists-split (suc h) k bound f =
    let more : suc h + k ≡ suc (h + k) = omega arith in
    ap (λ (q : ℕ). sum_lists q bound f) more
    ∙ total-same (λ x. sum_lists (h + k) bound (λ xs. f (x ∷ xs)))
    (λ x. sum_lists h bound (λ first. sum_lists k bound (λ others. f (x ∷ first ++ others)))) bound
    (λ x below. lists-split h k bound (λ xs. f (x ∷ xs)))

pub lists-add : (q bound : ℕ) (f g : List ℕ → ℕ) → sum_lists q bound (λ xs. f xs + g xs) ≡ sum_lists q bound f + sum_lists q bound g
unfolding sum_lists
lists-add zero bound f g = refl
lists-add (suc q) bound f g =
    total-same (λ x. sum_lists q bound (λ xs. f (x ∷ xs) + g (x ∷ xs)))
    (λ x. sum_lists q bound (λ xs. f (x ∷ xs)) + sum_lists q bound (λ xs. g (x ∷ xs))) bound
    (λ x below. lists-add q bound (λ xs. f (x ∷ xs)) (λ xs. g (x ∷ xs)))
    ∙ total-add (λ x. sum_lists q bound (λ xs. f (x ∷ xs))) (λ x. sum_lists q bound (λ xs. g (x ∷ xs))) bound

pub lists-times : (q bound c : ℕ) (f : List ℕ → ℕ) → sum_lists q bound (λ xs. c * f xs) ≡ c * sum_lists q bound f
unfolding sum_lists
lists-times zero bound c f = refl
lists-times (suc q) bound c f =
    total-same (λ x. sum_lists q bound (λ xs. c * f (x ∷ xs))) (λ x. c * sum_lists q bound (λ xs. f (x ∷ xs))) bound
    (λ x below. lists-times q bound c (λ xs. f (x ∷ xs)))
    ∙ total-times c (λ x. sum_lists q bound (λ xs. f (x ∷ xs))) bound

one-factor : (p c : ℕ) → p ≡ 1 → c ≡ p * c
one-factor p c is = omega (arith, ap (λ (m : ℕ). m * c) is)

pub lists-constant : (q bound c : ℕ) → sum_lists q bound (λ xs. c) ≡ bound ^ q * c
unfolding sum_lists
lists-constant zero bound c = one-factor (bound ^ 0) c (pow-zero bound)
lists-constant (suc q) bound c =
    total-same (λ x. sum_lists q bound (λ xs. c)) (λ x. bound ^ q * c) bound (λ x below. lists-constant q bound c)
    ∙ total-same_number (bound ^ q * c) bound ∙ turned bound (bound ^ q) c ∙ ap (λ (b : ℕ). b * c) (sym (pow-suc bound q))
  where
    turned : (b p c : ℕ) → b * (p * c) ≡ p * b * c
    turned b p c = omega arith

-- ---- sums of which most terms are small

-- Of lists of h + 1 numbers few have a value, which is 1 at most: of their first numbers few are marked, and where one is not, few lists
-- behind it have a value.
pub few-lists : (bound h lucky : ℕ) (f : List ℕ → ℕ) (marked : ℕ → Bool) → ((xs : List ℕ) → f xs ≤ 1) → marked_below marked bound ≤ lucky
    → ((r : ℕ) → marked r ≡ false → bound * sum_lists h bound (λ xs. f (r ∷ xs)) ≤ h * lucky * bound ^ h)
    → bound * sum_lists (suc h) bound f ≤ suc h * lucky * bound ^ suc h
unfolding sum_lists
few-lists bound h lucky f marked once few rest =
    let factor = total-times bound (λ r. sum_lists h bound (λ xs. f (r ∷ xs))) bound in
    let most =
    total-most (λ r. bound * sum_lists h bound (λ xs. f (r ∷ xs))) (λ r. bound * bound ^ h * cond (marked r) 1 0 + h * lucky * bound ^ h) bound
    (λ r below. each r (marked r) refl) in
    let split = total-add (λ r. bound * bound ^ h * cond (marked r) 1 0) (λ r. h * lucky * bound ^ h) bound in
    let one = total-times (bound * bound ^ h) (λ r. cond (marked r) 1 0) bound in
    let other = total-same_number (h * lucky * bound ^ h) bound in
    let top = mul-le-mul_left (bound * bound ^ h) few in
    subst (λ (m : ℕ). bound * total (λ r. sum_lists h bound (λ xs. f (r ∷ xs))) bound ≤ suc h * lucky * m) (sym (pow-suc bound h))
    (joined bound (bound ^ h) (bound * total (λ r. sum_lists h bound (λ xs. f (r ∷ xs))) bound)
    (total (λ r. bound * sum_lists h bound (λ xs. f (r ∷ xs))) bound)
    (total (λ r. bound * bound ^ h * cond (marked r) 1 0 + h * lucky * bound ^ h) bound)
    (total (λ r. bound * bound ^ h * cond (marked r) 1 0) bound) (total (λ r. h * lucky * bound ^ h) bound) (marked_below marked bound)
    (sym factor) most split one other top)
  where
    all-of : (r : ℕ) → bound * sum_lists h bound (λ xs. f (r ∷ xs)) ≤ bound * bound ^ h
    all-of r =
        let most = lists-most h bound (λ xs. f (r ∷ xs)) (λ xs. 1) (λ xs long. once (r ∷ xs)) in
        let all = lists-constant h bound 1 in
        mul-le-mul_left bound (within (sum_lists h bound (λ xs. f (r ∷ xs))) (sum_lists h bound (λ xs. 1)) (bound ^ h) most all)
      where
        within : (a b c : ℕ) → a ≤ b → b ≡ c * 1 → a ≤ c
        within a b c most all = omega (arith, most, all)

    each : (r : ℕ) (b : Bool) → marked r ≡ b
        → bound * sum_lists h bound (λ xs. f (r ∷ xs)) ≤ bound * bound ^ h * cond b 1 0 + h * lucky * bound ^ h
    each r true is = roomy (bound * sum_lists h bound (λ xs. f (r ∷ xs))) (bound * bound ^ h) (h * lucky * bound ^ h) (all-of r)
      where
        roomy : (a b c : ℕ) → a ≤ b → a ≤ b * 1 + c
        roomy a b c less = omega (arith, less)
    each r false is = roomy (bound * sum_lists h bound (λ xs. f (r ∷ xs))) (bound * bound ^ h) (h * lucky * bound ^ h) (rest r is)
      where
        roomy : (a b c : ℕ) → a ≤ c → a ≤ b * 0 + c
        roomy a b c less = omega (arith, less)

    joined : (b p left all both one other marks : ℕ) → left ≡ all → all ≤ both → both ≡ one + other → one ≡ b * p * marks
        → other ≡ b * (h * lucky * p) → b * p * marks ≤ b * p * lucky → left ≤ suc h * lucky * (p * b)
    joined b p left all both one other marks is most split one_is other_is top =
        let goal : b * p * lucky + b * (h * lucky * p) ≡ suc h * lucky * (p * b) = omega arith in
        omega (arith, is, most, split, one_is, other_is, top, goal)

-- a sum whose terms are small but at few lists
pub few-large : (h bound large small most : ℕ) (f : List ℕ → ℕ) (bad : List ℕ → Bool)
    → ((xs : List ℕ) → AreNumbersBelow h bound xs → f xs ≤ large * cond (bad xs) 1 0 + small)
    → bound * sum_lists h bound (λ xs. cond (bad xs) 1 0) ≤ most
    → bound * sum_lists h bound f ≤ most * large + bound * (bound ^ h * small)
few-large h bound large small most f bad each few =
    joined (sum_lists h bound f) (sum_lists h bound (λ xs. large * cond (bad xs) 1 0 + small)) (sum_lists h bound (λ xs. large * cond (bad xs) 1 0))
    (sum_lists h bound (λ xs. small)) (sum_lists h bound (λ xs. cond (bad xs) 1 0)) (bound ^ h * small)
    (lists-below h bound f (λ xs. large * cond (bad xs) 1 0 + small) each)
    (lists-add h bound (λ xs. large * cond (bad xs) 1 0) (λ xs. small)) (lists-times h bound large (λ xs. cond (bad xs) 1 0))
    (lists-constant h bound small) few
  where
    joined : (all both one other bads rest : ℕ) → all ≤ both → both ≡ one + other → one ≡ large * bads → other ≡ rest → bound * bads ≤ most
        → bound * all ≤ most * large + bound * rest
    joined all both one other bads rest less split one_is other_is few_is =
        let sum : all ≤ large * bads + rest = omega (arith, less, split, one_is, other_is) in
        let times = mul-le-mul_left bound sum in
        let scaled = mul-le-mul_left large few_is in
        omega (arith, times, scaled)

-- ---- marks

pub unmarked-count : (marked : ℕ → Bool) (n : ℕ) → marked_below (λ p. not (marked p)) n + marked_below marked n ≡ n
unfolding total
unmarked-count marked zero = refl
unmarked-count marked (suc n) =
    let before = unmarked-count marked n in
    let last = one-of (marked n) in
    omega (arith, before, last)
  where
    one-of : (b : Bool) → cond (not b) 1 0 + cond b 1 0 ≡ 1
    one-of true = refl
    one-of false = refl

all-unmarked-count : (marked : ℕ → Bool) (q n : ℕ)
    → sum_lists q n (λ places. cond (all_unmarked marked places) 1 0) ≡ marked_below (λ p. not (marked p)) n ^ q
unfolding sum_lists all_unmarked
all-unmarked-count marked zero n = sym (pow-zero (marked_below (λ p. not (marked p)) n))
all-unmarked-count marked (suc q) n =
    total-same (λ p. sum_lists q n (λ places. cond (not (marked p) && all_unmarked marked places) 1 0))
    (λ p. marked_below (λ r. not (marked r)) n ^ q * cond (not (marked p)) 1 0) n
    (λ p below. at (marked p) (all-unmarked-count marked q n))
    ∙ total-times (marked_below (λ r. not (marked r)) n ^ q) (λ p. cond (not (marked p)) 1 0) n
    ∙ sym (pow-suc (marked_below (λ r. not (marked r)) n) q)
  where
    at : (b : Bool) → sum_lists q n (λ places. cond (all_unmarked marked places) 1 0) ≡ marked_below (λ r. not (marked r)) n ^ q
        → sum_lists q n (λ places. cond (not b && all_unmarked marked places) 1 0) ≡ marked_below (λ r. not (marked r)) n ^ q * cond (not b) 1 0
    at true before = let none = lists-constant q n 0 in omega (arith, none)
    at false before = omega (arith, before)

-- the marked places, numbered
pub enumerated : (marked : ℕ → Bool) (n : ℕ) → (x : ℕ → ℕ)
    × ((i : ℕ) → i < marked_below marked n → (x i < n) × (marked (x i) ≡ true))
    × ((i j : ℕ) → i < marked_below marked n → j < marked_below marked n → x i ≡ x j → i ≡ j)
unfolding total
enumerated marked zero = ((λ i. i), (λ i below. absurd (omega (arith, below))), (λ i j i_below j_below same. same))
enumerated marked (suc n) = pick (marked n) refl (enumerated marked n)
  where
    pick : (b : Bool) → marked n ≡ b
        → ((x : ℕ → ℕ) × ((i : ℕ) → i < marked_below marked n → (x i < n) × (marked (x i) ≡ true))
        × ((i j : ℕ) → i < marked_below marked n → j < marked_below marked n → x i ≡ x j → i ≡ j))
        → (x : ℕ → ℕ) × ((i : ℕ) → i < marked_below marked n + cond (marked n) 1 0 → (x i < suc n) × (marked (x i) ≡ true))
        × ((i j : ℕ) → i < marked_below marked n + cond (marked n) 1 0 → j < marked_below marked n + cond (marked n) 1 0 → x i ≡ x j → i ≡ j)
    pick false is before = (
      before.0,
      (λ i below. let at = before.1 i (less i below) in let first = at.0 in (omega (arith, first), at.1)),
      (λ i j i_below j_below same. before.2 i j (less i i_below) (less j j_below) same),
    )
      where
        less : (i : ℕ) → i < marked_below marked n + cond (marked n) 1 0 → i < marked_below marked n
        less i below = let one : ℕ = 1 in let none : ℕ = 0 in let last : cond (marked n) one none ≡ none = ap (λ (b : Bool). cond b one none) is in omega (arith, below, last)
    pick true is before = (next, (λ i below. at i (less i below) (eqb_tells i c)), (λ i j i_below j_below same. differ i j (less i i_below) (less j j_below) same (eqb_tells i c) (eqb_tells j c)))
      where
        c : ℕ
        c = marked_below marked n

        next : ℕ → ℕ
        next i = cond (nat_eq i c) n (before.0 i)

        less : (i : ℕ) → i < marked_below marked n + cond (marked n) 1 0 → i < suc c
        less i below = let one : ℕ = 1 in let none : ℕ = 0 in let last : cond (marked n) one none ≡ one = ap (λ (b : Bool). cond b one none) is in omega (arith, below, last)

        at : (i : ℕ) → i < suc c → ((nat_eq i c ≡ true) × (i ≡ c)) ⊎ ((nat_eq i c ≡ false) × (i ≡ c → ⊥)) → (next i < suc n) × (marked (next i) ≡ true)
        at i below (inl same) =
            let here : next i ≡ n = ap (λ (b : Bool). cond b n (before.0 i)) same.0 in
            (omega (arith, here), ap marked here ∙ is)
        at i below (inr other) =
            let here : next i ≡ before.0 i = ap (λ (b : Bool). cond b n (before.0 i)) other.0 in
            let differs = other.1 in
            let old = before.1 i (omega (arith, below, differs)) in
            let first = old.0 in
            (omega (arith, here, first), ap marked here ∙ old.1)

        differ : (i j : ℕ) → i < suc c → j < suc c → next i ≡ next j
            → ((nat_eq i c ≡ true) × (i ≡ c)) ⊎ ((nat_eq i c ≡ false) × (i ≡ c → ⊥))
            → ((nat_eq j c ≡ true) × (j ≡ c)) ⊎ ((nat_eq j c ≡ false) × (j ≡ c → ⊥)) → i ≡ j
        differ i j i_below j_below same (inl one) (inl two) = one.1 ∙ sym two.1
        differ i j i_below j_below same (inl one) (inr two) =
            let here : next i ≡ n = ap (λ (b : Bool). cond b n (before.0 i)) one.0 in
            let there : next j ≡ before.0 j = ap (λ (b : Bool). cond b n (before.0 j)) two.0 in
            let differs = two.1 in
            let old = (before.1 j (omega (arith, j_below, differs))).0 in
            absurd (omega (arith, here, there, same, old))
        differ i j i_below j_below same (inr one) (inl two) =
            let here : next i ≡ before.0 i = ap (λ (b : Bool). cond b n (before.0 i)) one.0 in
            let there : next j ≡ n = ap (λ (b : Bool). cond b n (before.0 j)) two.0 in
            let differs = one.1 in
            let old = (before.1 i (omega (arith, i_below, differs))).0 in
            absurd (omega (arith, here, there, same, old))
        differ i j i_below j_below same (inr one) (inr two) =
            let here : next i ≡ before.0 i = ap (λ (b : Bool). cond b n (before.0 i)) one.0 in
            let there : next j ≡ before.0 j = ap (λ (b : Bool). cond b n (before.0 j)) two.0 in
            let i_differs = one.1 in
            let j_differs = two.1 in
            before.2 i j (omega (arith, i_below, i_differs)) (omega (arith, j_below, j_differs)) (sym here ∙ same ∙ there)

-- ---- points at which a matrix that is not near is folded to a near word

module _ (width : ℕ) (times : ℕ → ℕ → ℕ) (wide : 0 < width) (field : IsField width times) (size n : ℕ) (generator : ℕ → ℕ → ℕ) (e : ℕ) where
  pub decision : (height : ℕ) (word : ℕ → ℕ → ℕ)
      → IsNear times size n generator e height word ⊎ (IsNear times size n generator e height word → ⊥) → Bool
  decision height word (inl near) = true
  decision height word (inr far) = false

  pub near_test : ℕ → (ℕ → ℕ → ℕ) → Bool
  near_test height word = decision height word (near-decided width times wide field size n generator e height word)

  pub test-near : (height : ℕ) (word : ℕ → ℕ → ℕ) → near_test height word ≡ true → IsNear times size n generator e height word
  unfolding near_test decision
  test-near height word is = pick (near-decided width times wide field size n generator e height word) is
    where
      pick : (c : IsNear times size n generator e height word ⊎ (IsNear times size n generator e height word → ⊥))
          → decision height word c ≡ true → IsNear times size n generator e height word
      pick (inl near) is = near
      pick (inr far) is = absurd (cc)

  test-far : (height : ℕ) (word : ℕ → ℕ → ℕ) → near_test height word ≡ false → IsNear times size n generator e height word → ⊥
  unfolding near_test decision
  test-far height word is = pick (near-decided width times wide field size n generator e height word) is
    where
      pick : (c : IsNear times size n generator e height word ⊎ (IsNear times size n generator e height word → ⊥))
          → decision height word c ≡ false → IsNear times size n generator e height word → ⊥
      pick (inl near) is = absurd (cc)
      pick (inr far) is = far

  pub near-test : (height : ℕ) (word : ℕ → ℕ → ℕ) → IsNear times size n generator e height word → near_test height word ≡ true
  near-test height word near = pick (near_test height word) refl
    where
      pick : (b : Bool) → near_test height word ≡ b → near_test height word ≡ true
      pick true is = is
      pick false is = absurd (test-far height word is near)

  -- at how many points
  near_points : (h : ℕ) (word : ℕ → ℕ → ℕ) → ℕ
  near_points h word = sum_lists h (2 ^ width) (λ point. cond (near_test 1 (rows_folded times h point word)) 1 0)

  at-most_one : (b : Bool) → cond b 1 0 ≤ 1
  at-most_one true = omega arith
  at-most_one false = omega arith

  module _ (d : ℕ) (distance : HasDistance times size n generator d) (few : 2 * e < d) (lucky : ℕ)
      (gap : HasGap width times size n generator e lucky) where
    few-points : (h : ℕ) (word : ℕ → ℕ → ℕ) → HaveSymbols width n (2 ^ h) word → (IsNear times size n generator e (2 ^ h) word → ⊥)
        → 2 ^ width * near_points h word ≤ h * lucky * (2 ^ width) ^ h
    unfolding near_points sum_lists rows_folded
    few-points zero word fits far = at (near_test 1 word) refl
      where
        at : (b : Bool) → near_test 1 word ≡ b → 2 ^ width * cond b 1 0 ≤ 0 * lucky * (2 ^ width) ^ 0
        at true is = absurd (far (test-near 1 word is))
        at false is = omega arith
    few-points (suc h) word fits far =
        few-lists (2 ^ width) h lucky (λ point. cond (near_test 1 (rows_folded times (suc h) point word)) 1 0) lucky_at
        (λ point. at-most_one (near_test 1 (rows_folded times (suc h) point word))) few_lucky
        (λ r is. few-points h (fold_rows times (2 ^ h) r word) (folded-fits r) (test-far (2 ^ h) (fold_rows times (2 ^ h) r word) is))
      where
        twice_fits : HaveSymbols width n (2 ^ h + 2 ^ h) word
        twice_fits = subst (λ (m : ℕ). HaveSymbols width n m word) (two-pow-succ h) fits

        twice_far : IsNear times size n generator e (2 ^ h + 2 ^ h) word → ⊥
        twice_far = λ near. far (subst (λ (m : ℕ). IsNear times size n generator e m word) (sym (two-pow-succ h)) near)

        folded-fits : (r : ℕ) → HaveSymbols width n (2 ^ h) (fold_rows times (2 ^ h) r word)
        folded-fits r = fold-fits width times wide field n (2 ^ h) r word twice_fits

        lucky_at : ℕ → Bool
        lucky_at r = near_test (2 ^ h) (fold_rows times (2 ^ h) r word)

        few_lucky : marked_below lucky_at (2 ^ width) ≤ lucky
        few_lucky =
            let numbered = enumerated lucky_at (2 ^ width) in
            few_folds_are_near width times size n generator wide field e lucky (2 ^ h) word gap twice_fits twice_far
            (marked_below lucky_at (2 ^ width)) numbered.0
            (record { below = λ i below. (numbered.1 i below).0; differ = numbered.2 })
            (λ i below. test-near (2 ^ h) (fold_rows times (2 ^ h) (numbered.0 i) word) (numbered.1 i below).1)

    -- ---- accepted cheats

    -- where places are drawn as lists of q numbers below a bound, `draws` says which miss all marked places, and `weight` makes up for the number of
    -- these lists
    module _ (h q bound weight : ℕ) (draws : (ℕ → Bool) → List ℕ → Bool)
        (count : (marked : ℕ → Bool) → weight * sum_lists q bound (λ places. cond (draws marked places) 1 0)
        ≤ marked_below (λ p. not (marked p)) n ^ q)
        (word : ℕ → ℕ → ℕ) (fits : HaveSymbols width n (2 ^ h) word) (prover : List ℕ → ℕ → ℕ) (cheats : List ℕ → Bool)
        (sends : (point : List ℕ) → length point ≡ h → IsWordOf times size n generator (prover point))
        (false_is : (point : List ℕ) → length point ≡ h → cheats point ≡ true → IsOpened times size n generator e h word point (prover point) → ⊥)
      where
        abbrev missed : List ℕ → ℕ → Bool
        missed point = misses times h word point (prover point)

        abbrev drawn_at : List ℕ → ℕ
        drawn_at point = sum_lists q bound (λ places. cond (cheats point && draws (missed point) places) 1 0)

        abbrev accepted_at : List ℕ → ℕ
        accepted_at point = weight * drawn_at point

        at-most : (point : List ℕ) → accepted_at point ≤ marked_below (λ p. not (missed point p)) n ^ q
        at-most point =
            le_trans
            (mul-le-mul_left weight
            (lists-imply q bound (λ places. cheats point && draws (missed point) places) (draws (missed point))
            (λ places are is. last (cheats point) (draws (missed point) places) is)))
            (count (missed point))
          where
            last : (a b : Bool) → (a && b) ≡ true → b ≡ true
            last true b is = is
            last false b is = absurd (cc)

        honest-none : (point : List ℕ) → cheats point ≡ false → accepted_at point ≡ 0
        honest-none point is =
            ap (λ (b : Bool). weight * sum_lists q bound (λ places. cond (b && draws (missed point) places) 1 0)) is
            ∙ ap (λ (m : ℕ). weight * m) (lists-constant q bound 0) ∙ nothing-times (bound ^ q)
          where
            nothing-times : (m : ℕ) → weight * (m * 0) ≡ 0
            nothing-times m = omega arith

        many-missed : (point : List ℕ) → e < marked_below (missed point) n → accepted_at point ≤ (n - (e + 1)) ^ q
        many-missed point many =
            let all = unmarked-count (missed point) n in
            let fewer : marked_below (λ p. not (missed point p)) n ≤ n - (e + 1) = omega (arith, all, many) in
            le_trans (at-most point) (pow-le-pow_left fewer q)

        all-places : (point : List ℕ) → accepted_at point ≤ n ^ q
        all-places point =
            let all = unmarked-count (missed point) n in
            let fewer : marked_below (λ p. not (missed point p)) n ≤ n = omega (arith, all) in
            le_trans (at-most point) (pow-le-pow_left fewer q)

        -- of a matrix that is near, more places are missed than e
        near-at : IsNear times size n generator e (2 ^ h) word → (point : List ℕ) → length point ≡ h → accepted_at point ≤ (n - (e + 1)) ^ q
        near-at near point long = pick (cheats point) refl (cases_lt e (marked_below (missed point) n))
          where
            pick : (b : Bool) → cheats point ≡ b → (e < marked_below (missed point) n) ⊎ (marked_below (missed point) n ≤ e)
                → accepted_at point ≤ (n - (e + 1)) ^ q
            pick false is c = let none = honest-none point is in omega (arith, none)
            pick true is (inl many) = many-missed point many
            pick true is (inr little) =
                absurd (false_is point long is (record {
                  near = near;
                  folds = little-missed width times wide field size n d generator distance e h word point (prover point) (sends point long) near
                      (omega (arith, little, few));
                }))

        -- of one that is not, or the point is one of few
        far-at : (point : List ℕ) → length point ≡ h
            → accepted_at point ≤ n ^ q * cond (near_test 1 (rows_folded times h point word)) 1 0 + (n - (e + 1)) ^ q
        far-at point long = pick (cases_lt e (marked_below (missed point) n))
          where
            pick : (e < marked_below (missed point) n) ⊎ (marked_below (missed point) n ≤ e)
                → accepted_at point ≤ n ^ q * cond (near_test 1 (rows_folded times h point word)) 1 0 + (n - (e + 1)) ^ q
            pick (inl many) =
                let less = many-missed point many in
                roomy (accepted_at point) (n ^ q * cond (near_test 1 (rows_folded times h point word)) 1 0) ((n - (e + 1)) ^ q) less
              where
                roomy : (a b c : ℕ) → a ≤ c → a ≤ b + c
                roomy a b c less = omega (arith, less)
            pick (inr little) =
                let near = near-row width times wide field size n d generator distance e h word point (prover point) (sends point long) little in
                let is = near-test 1 (rows_folded times h point word) near in
                subst (λ (b : Bool). accepted_at point ≤ n ^ q * cond b 1 0 + (n - (e + 1)) ^ q) (sym is)
                (roomy (accepted_at point) (n ^ q) ((n - (e + 1)) ^ q) (all-places point))
              where
                roomy : (a b c : ℕ) → a ≤ b → a ≤ b * 1 + c
                roomy a b c less = omega (arith, less)

        few-accepted : 2 ^ width * sum_lists h (2 ^ width) accepted_at
            ≤ h * lucky * (2 ^ width) ^ h * n ^ q + 2 ^ width * ((2 ^ width) ^ h * (n - (e + 1)) ^ q)
        unfolding near_points
        few-accepted = pick (near-decided width times wide field size n generator e (2 ^ h) word)
          where
            pick : IsNear times size n generator e (2 ^ h) word ⊎ (IsNear times size n generator e (2 ^ h) word → ⊥)
                → 2 ^ width * sum_lists h (2 ^ width) accepted_at
                ≤ h * lucky * (2 ^ width) ^ h * n ^ q + 2 ^ width * ((2 ^ width) ^ h * (n - (e + 1)) ^ q)
            pick (inl near) =
                let most = lists-most h (2 ^ width) accepted_at (λ point. (n - (e + 1)) ^ q) (near-at near) in
                let all = lists-constant h (2 ^ width) ((n - (e + 1)) ^ q) in
                let sum : sum_lists h (2 ^ width) accepted_at ≤ (2 ^ width) ^ h * (n - (e + 1)) ^ q = omega (arith, most, all) in
                roomy (2 ^ width * sum_lists h (2 ^ width) accepted_at) (2 ^ width * ((2 ^ width) ^ h * (n - (e + 1)) ^ q))
                (h * lucky * (2 ^ width) ^ h * n ^ q) (mul-le-mul_left (2 ^ width) sum)
              where
                roomy : (a b c : ℕ) → a ≤ b → a ≤ c + b
                roomy a b c less = omega (arith, less)
            pick (inr far) =
                few-large h (2 ^ width) (n ^ q) ((n - (e + 1)) ^ q) (h * lucky * (2 ^ width) ^ h) accepted_at
                (λ point. near_test 1 (rows_folded times h point word)) (λ point are. far-at point are.count) (few-points h word fits far)

        pub few-drawn : 2 ^ width * (weight * sum_lists h (2 ^ width) drawn_at)
            ≤ h * lucky * (2 ^ width) ^ h * n ^ q + 2 ^ width * ((2 ^ width) ^ h * (n - (e + 1)) ^ q)
        few-drawn =
            subst (λ (m : ℕ). 2 ^ width * m ≤ h * lucky * (2 ^ width) ^ h * n ^ q + 2 ^ width * ((2 ^ width) ^ h * (n - (e + 1)) ^ q))
            (lists-times h (2 ^ width) weight drawn_at) few-accepted

pub few_cheats_are_accepted : FewCheatsAreAccepted
few_cheats_are_accepted width times size n d generator wide field distance e lucky h q word prover cheats few gap fits sends false_is =
    subst (λ (m : ℕ). 2 ^ width * m ≤ h * lucky * (2 ^ width) ^ h * n ^ q + 2 ^ width * ((2 ^ width) ^ h * (n - (e + 1)) ^ q))
    (once (accepted_cheats width times n h q word prover cheats))
    (few-drawn width times wide field size n generator e d distance few lucky gap h q n 1 all_unmarked count word fits prover cheats sends false_is)
  where
    once : (m : ℕ) → 1 * m ≡ m
    once m = omega arith

    count : (marked : ℕ → Bool) → 1 * sum_lists q n (λ places. cond (all_unmarked marked places) 1 0) ≤ marked_below (λ p. not (marked p)) n ^ q
    count marked = let is = all-unmarked-count marked q n in omega (arith, is)

pub few_points_fold_near : FewPointsFoldNear
unfolding near_points
few_points_fold_near width times size n d generator wide field distance e lucky h word few gap fits far near near_is =
    le_trans
    (mul-le-mul_left (2 ^ width)
    (lists-imply h (2 ^ width) near (λ point. near_test width times wide field size n generator e 1 (rows_folded times h point word))
    (λ point are is.
    near-test width times wide field size n generator e 1 (rows_folded times h point word) (near_is point are.count is))))
    (few-points width times wide field size n generator e d distance few lucky gap h word fits far)
