-- Fewer shares, by sums over the shares that are not known.
use Rattle.std.proofs.Common.{◌≡◌, ◌≢◌, ◌⊎◌, ℕ, zero, suc, ◌+◌, ◌*◌, ◌^◌, ◌<◌, inl, inr, List, [], ◌∷◌, length, Bool}
use Rattle.std.proofs.Common.{true, false, cond, refl, sym, ◌∙◌, ap, ap₂, subst, arith}
use Rattle.std.proofs.Math.Nat.{pow-suc, pow-zero}
use Rattle.std.specs.Prelude.{nat_eq, ◌&&◌}
use Rattle.std.proofs.lemmas.Bool.Decides.{eqb_tells}
use Rattle.field_base.specs.Field.{IsField}
use Rattle.field_base.specs.PolynomialRoots.{AreDistinctBelow}
use Rattle.field_base.proofs.Polynomials.{polynomial-lt}
use Rattle.field_slices.specs.Marks.{total}
use Rattle.field_slices.specs.Openings.{sum_lists}
use Rattle.error_codes.specs.Secrets.{FewerSharesAreCounted, are_shares}
use Rattle.error_codes.specs.Words.{at}
use Rattle.field_slices.proofs.Counting.{total-add, total-same, total-zero}
use Rattle.field_slices.proofs.Counts.{total-same_number}
use Rattle.error_codes.proofs.Counts.{shares_are_counted, total-none, total-one}
use Rattle.error_codes.proofs.Lists.{list-polynomial}

lists-same : (q bound : ℕ) (f g : List ℕ → ℕ) → ((xs : List ℕ) → f xs ≡ g xs)
    → sum_lists q bound f ≡ sum_lists q bound g
unfolding sum_lists
lists-same zero bound f g same = same []
lists-same (suc q) bound f g same =
    total-same (λ x. sum_lists q bound (λ xs. f (x ∷ xs))) (λ x. sum_lists q bound (λ xs. g (x ∷ xs))) bound
    (λ x below. lists-same q bound (λ xs. f (x ∷ xs)) (λ xs. g (x ∷ xs)) (λ xs. same (x ∷ xs)))

-- sums in another order
total-turned : (f : ℕ → ℕ → ℕ) (m n : ℕ) → total (λ x. total (f x) n) m ≡ total (λ y. total (λ x. f x y) m) n
unfolding total
total-turned f m zero = total-zero m
total-turned f m (suc n) =
    total-add (λ x. total (f x) n) (λ x. f x n) m ∙ ap (λ (z : ℕ). z + total (λ x. f x n) m) (total-turned f m n)

lists-total : (q bound n : ℕ) (f : ℕ → List ℕ → ℕ)
    → sum_lists q bound (λ xs. total (λ y. f y xs) n) ≡ total (λ y. sum_lists q bound (f y)) n
unfolding sum_lists
lists-total zero bound n f = refl
lists-total (suc q) bound n f =
    total-same (λ x. sum_lists q bound (λ xs. total (λ y. f y (x ∷ xs)) n))
    (λ x. total (λ y. sum_lists q bound (λ xs. f y (x ∷ xs))) n) bound
    (λ x below. lists-total q bound n (λ y xs. f y (x ∷ xs)))
    ∙ total-turned (λ x y. sum_lists q bound (λ xs. f y (x ∷ xs))) bound n

module _ (width : ℕ) (times : ℕ → ℕ → ℕ) (wide : 0 < width) (field : IsField width times) (point : ℕ → ℕ) where
  -- the shares with another one at a place
  abbrev put : (ℕ → ℕ) → ℕ → ℕ → ℕ → ℕ
  put share j y i = cond (nat_eq i j) y (share i)

  put-other : (share : ℕ → ℕ) (j y i : ℕ) → (i ≡ j → ⊥) → put share j y i ≡ share i
  put-other share j y i other = elim (eqb_tells i j) [
    | inl same ↦ absurd (other same.1)
    | inr differs ↦ ap (λ (b : Bool). cond b y (share i)) differs.0
  ]

  put-same : (share : ℕ → ℕ) (j y : ℕ) → put share j y j ≡ y
  put-same share j y = elim (eqb_tells j j) [
    | inl same ↦ ap (λ (b : Bool). cond b y (share j)) same.0
    | inr differs ↦ absurd (differs.1 refl)
  ]

  shares-same : (cs : List ℕ) (a b : ℕ → ℕ) (n : ℕ) → ((i : ℕ) → i < n → a i ≡ b i)
      → are_shares times point a cs n ≡ are_shares times point b cs n
  unfolding are_shares
  shares-same cs a b zero same = refl
  shares-same cs a b (suc n) same =
      ap₂ (λ (v : ℕ) (r : Bool). nat_eq (at times cs (point n)) v && r) (same n (omega arith))
      (shares-same cs a b n (λ i below. same i (omega (arith, below))))

  -- a list passes with exactly one more share
  one-more : (share : ℕ → ℕ) (cs : List ℕ) (known : ℕ)
      → total (λ y. cond (are_shares times point (put share known y) cs (suc known)) 1 0) (2 ^ width) ≡ cond
      (are_shares times point share cs known) 1 0
  unfolding are_shares
  one-more share cs known =
      total-same (λ y. cond (nat_eq v (put share known y known) && are_shares times point
      (put share known y) cs known) 1 0)
      (λ y. cond (nat_eq v y && are_shares times point share cs known) 1 0) (2 ^ width)
      (λ y below.
      ap₂ (λ (u : ℕ) (r : Bool). cond (nat_eq v u && r) (suc zero) zero) (put-same share known y)
      (shares-same cs (put share known y) share known (λ i inside. put-other share known y i (less i inside))))
      ∙ pick (are_shares times point share cs known)
    where
      v : ℕ
      v = at times cs (point known)

      less : (i : ℕ) → i < known → i ≡ known → ⊥
      less i inside same = absurd (omega (arith, inside, same))

      v-lt : v < 2 ^ width
      v-lt = polynomial-lt width times field.ring (length cs) (at times cs)
          (list-polynomial width times field (length cs) cs refl) (point known)

      is : (b : Bool) → b ≡ true → cond (b && true) (suc zero) zero ≡ suc zero
      is true b_is = refl
      is false b_is = absurd (cc)

      is-not : (a b : Bool) → a ≡ false → cond (a && b) (suc zero) zero ≡ zero
      is-not true b no_way = absurd (cc)
      is-not false b no_way = refl

      off : (a : Bool) → cond (a && false) (suc zero) zero ≡ zero
      off true = refl
      off false = refl

      pick : (b : Bool) → total (λ y. cond (nat_eq v y && b) 1 0) (2 ^ width) ≡ cond b 1 0
      pick true =
          total-one (λ y. cond (nat_eq v y && true) 1 0) (2 ^ width) v v-lt
          (elim (eqb_tells v v) [ inl same ↦ is (nat_eq v v) same.0 | inr other ↦ absurd (other.1 refl) ])
          (λ y below other. elim (eqb_tells v y) [
            | inl same ↦ absurd (other (sym same.1))
            | inr differs ↦ is-not
                (nat_eq v y) true differs.0
          ])
      pick false = total-none (λ y. cond (nat_eq v y && false) 1 0) (2 ^ width) (λ y below. off (nat_eq v y))

  counted : (others : ℕ) → AreDistinctBelow others (2 ^ width) point → ((i : ℕ) → i < others → point i ≢ 0)
      → (secret : ℕ) → secret < 2 ^ width
      → (more known : ℕ) → more + known ≡ others → (share : ℕ → ℕ) → ((i : ℕ) → i < known → share i < 2 ^ width)
      → sum_lists others (2 ^ width) (λ rest. cond (are_shares times point share (secret ∷ rest) known) 1 0) ≡
      (2 ^ width) ^ more
  counted others points nonzero secret secret_fits zero known sum share fits =
      ap (λ (k : ℕ). sum_lists others (2 ^ width) (λ rest. cond (are_shares times point share (secret ∷ rest) k)
      (suc zero) zero)) (all known others sum)
      ∙ shares_are_counted width times wide field others point share points nonzero
      (λ i below. fits i (omega (arith, below, sum))) secret secret_fits
      ∙ sym (pow-zero (2 ^ width))
    where
      all : (known others : ℕ) → zero + known ≡ others → known ≡ others
      all known others sum = omega (arith, sum)
  counted others points nonzero secret secret_fits (suc more) known sum share fits =
      lists-same others (2 ^ width) (λ rest. cond (are_shares times point share (secret ∷ rest) known) 1 0)
      (λ rest. total (λ y. cond (are_shares times point (put share known y) (secret ∷ rest) (suc known)) 1 0)
      (2 ^ width))
      (λ rest. sym (one-more share (secret ∷ rest) known))
      ∙ lists-total others (2 ^ width) (2 ^ width) (λ y rest. cond
      (are_shares times point (put share known y) (secret ∷ rest) (suc known)) 1 0)
      ∙ total-same (λ y. sum_lists others (2 ^ width) (λ rest. cond
      (are_shares times point (put share known y) (secret ∷ rest) (suc known)) 1 0))
      (λ y. (2 ^ width) ^ more) (2 ^ width)
      (λ y below.
      counted others points nonzero secret secret_fits more (suc known) (omega (arith, sum)) (put share known y)
      (λ i inside. put-fits y below i inside (eqb_tells i known)))
      ∙ total-same_number ((2 ^ width) ^ more) (2 ^ width) ∙ turned (2 ^ width) ((2 ^ width) ^ more)
      ∙ sym (pow-suc (2 ^ width) more)
    where
      turned : (a b : ℕ) → a * b ≡ b * a
      turned a b = omega arith

      less : (i known : ℕ) → i < suc known → (i ≡ known → ⊥) → i < known
      less i known below other = omega (arith, below, other)

      put-fits : (y : ℕ) → y < 2 ^ width → (i : ℕ) → i < suc known
          → ((nat_eq i known ≡ true) × (i ≡ known)) ⊎ ((nat_eq i known ≡ false) × (i ≡ known → ⊥))
          → put share known y i < 2 ^ width
      put-fits y y_fits i below (inl same) =
          subst (λ (z : ℕ). z < 2 ^ width) (sym (ap (λ (b : Bool). cond b y (share i)) same.0)) y_fits
      put-fits y y_fits i below (inr other) =
          subst (λ (z : ℕ). z < 2 ^ width) (sym (put-other share known y i other.1))
          (fits i (less i known below other.1))

pub fewer_shares_are_counted : FewerSharesAreCounted
fewer_shares_are_counted width times wide field others more known point share sum points nonzero fits secret secret_fits
    =
    counted width times wide field point others points nonzero secret secret_fits more known sum share fits
