-- Where exactly one list of numbers passes a test, the count is 1.
use Rattle.std.proofs.Common.{◌≡◌, ◌≢◌, ◌⊎◌, ℕ, zero, suc, ◌+◌, ◌^◌, ◌<◌, inl, inr, List, [], ◌∷◌, length, Bool, true}
use Rattle.std.proofs.Common.{false, cond, refl, sym, ◌∙◌, ap, subst, arith}
use Rattle.std.specs.Prelude.{nat_eq, slice_index, ◌&&◌}
use Rattle.std.proofs.lemmas.Bool.Decides.{eqb_tells}
use Rattle.field_slices.specs.Marks.{total}
use Rattle.field_slices.specs.Openings.{sum_lists}
use Rattle.error_codes.specs.Secrets.{SharesAreCounted, SharesSecret, are_shares}
use Rattle.error_codes.specs.Words.{at}
use Rattle.error_codes.proofs.Marks.{equal-is}
use Rattle.error_codes.proofs.Secrets.{shares_hide_secret}

pub total-none : (f : ℕ → ℕ) (n : ℕ) → ((i : ℕ) → i < n → f i ≡ 0) → total f n ≡ 0
unfolding total
total-none f zero none = refl
total-none f (suc n) none =
    let before = total-none f n (λ i below. none i (omega (arith, below))) in let last = none n (omega arith) in
    omega (arith, before, last)

pub total-one : (f : ℕ → ℕ) (n i : ℕ) → i < n → f i ≡ 1 → ((j : ℕ) → j < n → j ≢ i → f j ≡ 0) → total f n ≡ 1
unfolding total
total-one f zero i within one none = absurd (omega (arith, within))
total-one f (suc n) i within one none =
    pick (eqb_tells n i) (λ below. total-one f n i below one (λ j j_below. none j (omega (arith, j_below))))
  where
    earlier : (i n : ℕ) → i < suc n → (n ≡ i → ⊥) → i < n
    earlier i n below other = omega (arith, below, other)

    pick : ((nat_eq n i ≡ true) × (n ≡ i)) ⊎ ((nat_eq n i ≡ false) × (n ≡ i → ⊥)) → (i < n → total f n ≡ 1)
        → total f n + f n ≡ 1
    pick (inl same) before =
        let nothing = total-none f n (λ j below. none j (omega (arith, below))
        (λ e. absurd (omega (arith, below, e, same.1)))) in
        let last : f n ≡ 1 = ap f same.1 ∙ one in omega (arith, nothing, last)
    pick (inr other) before =
        let most = before (earlier i n within other.1) in let last = none n (omega arith) other.1 in
        omega (arith, most, last)

-- the numbers of a list are below a bound
abbrev AreBelow : ℕ → List ℕ → Type 0
AreBelow bound xs = (i : ℕ) → i < length xs → slice_index xs i < bound

more-below : (bound x : ℕ) (xs : List ℕ) → x < bound → AreBelow bound xs → AreBelow bound (x ∷ xs)
more-below bound x xs first rest zero below = first
more-below bound x xs first rest (suc i) below = rest i (omega (arith, below))

first-same : (x y : ℕ) (xs ys : List ℕ) → x ∷ xs ≡ y ∷ ys → x ≡ y
first-same x y xs ys same = cc

rest-same : (x y : ℕ) (xs ys : List ℕ) → x ∷ xs ≡ y ∷ ys → xs ≡ ys
rest-same x y xs ys same = cc

lists-none : (q bound : ℕ) (test : List ℕ → Bool) → ((ys : List ℕ) → length ys ≡ q → AreBelow bound ys
    → test ys ≡ false)
    → sum_lists q bound (λ ys. cond (test ys) 1 0) ≡ 0
unfolding sum_lists
lists-none zero bound test none =
    ap (λ (b : Bool). cond b (suc zero) zero) (none [] refl (λ i below. absurd (omega (arith, below))))
lists-none (suc q) bound test none =
    total-none (λ x. sum_lists q bound (λ ys. cond (test (x ∷ ys)) 1 0)) bound
    (λ x below. lists-none q bound (λ ys. test (x ∷ ys)) (λ ys count fits. none (x ∷ ys) (omega (arith, count))
    (more-below bound x ys below fits)))

lists-one : (q bound : ℕ) (test : List ℕ → Bool) (xs : List ℕ) → length xs ≡ q → AreBelow bound xs → test xs ≡ true
    → ((ys : List ℕ) → length ys ≡ q → AreBelow bound ys → test ys ≡ true → ys ≡ xs)
    → sum_lists q bound (λ ys. cond (test ys) 1 0) ≡ 1
unfolding sum_lists
lists-one zero bound test [] count fits passes only = ap (λ (b : Bool). cond b (suc zero) zero) passes
lists-one zero bound test (x ∷ xs) count fits passes only = absurd (omega (arith, count))
lists-one (suc q) bound test [] count fits passes only = absurd (omega (arith, count))
lists-one (suc q) bound test (x ∷ xs) count fits passes only =
    total-one (λ y. sum_lists q bound (λ ys. cond (test (y ∷ ys)) 1 0)) bound x (fits 0 (omega arith))
    (lists-one q bound (λ ys. test (x ∷ ys)) xs (omega (arith, count))
    (λ i below. fits (suc i) (omega (arith, below))) passes
    (λ ys ys_count ys_fit ys_pass.
    rest-same x x ys xs (only (x ∷ ys) (omega (arith, ys_count))
    (more-below bound x ys (fits 0 (omega arith)) ys_fit) ys_pass)))
    (λ y y_below other.
    lists-none q bound (λ ys. test (y ∷ ys))
    (λ ys ys_count ys_fit.
    refused (test (y ∷ ys))
    (λ ys_pass. other (first-same y x ys xs (only (y ∷ ys) (omega (arith, ys_count))
    (more-below bound y ys y_below ys_fit) ys_pass)))))
  where
    refused : (b : Bool) → (b ≡ true → ⊥) → b ≡ false
    refused true never = absurd (never refl)
    refused false never = refl

module _ (times : ℕ → ℕ → ℕ) (point share : ℕ → ℕ) (cs : List ℕ) where
  are-shares : (n : ℕ) → ((i : ℕ) → i < n → at times cs (point i) ≡ share i) → are_shares times point share cs n ≡ true
  unfolding are_shares
  are-shares zero each = refl
  are-shares (suc n) each =
      both (nat_eq (at times cs (point n)) (share n)) (are_shares times point share cs n)
      (yes (at times cs (point n)) (share n) (each n (omega arith)))
      (are-shares n (λ i below. each i (omega (arith, below))))
    where
      yes : (a b : ℕ) → a ≡ b → nat_eq a b ≡ true
      yes a b same = elim (eqb_tells a b) [
        | inl is ↦ is.0
        | inr other ↦ absurd (other.1 same)
      ]

      both : (a b : Bool) → a ≡ true → b ≡ true → (a && b) ≡ true
      both true true a_is b_is = refl
      both true false a_is b_is = absurd (cc)
      both false b a_is b_is = absurd (cc)

  shares-are : (n : ℕ) → are_shares times point share cs n ≡ true → (i : ℕ) → i < n → at times cs (point i) ≡ share i
  unfolding are_shares
  shares-are zero is i below = absurd (omega (arith, below))
  shares-are (suc n) is i below =
      let parts = both (nat_eq (at times cs (point n)) (share n)) (are_shares times point share cs n) is in
      pick (eqb_tells i n) (equal-is (at times cs (point n)) (share n) parts.0)
      (λ within. shares-are n parts.1 i within)
    where
      both : (a b : Bool) → (a && b) ≡ true → (a ≡ true) × (b ≡ true)
      both true b is = (refl, is)
      both false b is = absurd (cc)

      less : (i n : ℕ) → i < suc n → (i ≡ n → ⊥) → i < n
      less i n below other = omega (arith, below, other)

      pick : ((nat_eq i n ≡ true) × (i ≡ n)) ⊎ ((nat_eq i n ≡ false) × (i ≡ n → ⊥)) → at times cs (point n) ≡ share n
          → (i < n → at times cs (point i) ≡ share i) → at times cs (point i) ≡ share i
      pick (inl same) last before = ap (λ (j : ℕ). at times cs (point j)) same.1 ∙ last ∙ ap share (sym same.1)
      pick (inr other) last before = before (less i n below other.1)

pub shares_are_counted : SharesAreCounted
shares_are_counted width times wide field others point share points nonzero shares_fit secret secret_fits =
    pick given.0 given.1 given.2
  where
    given : (cs : List ℕ) × SharesSecret width times others point share secret cs
        × ((ds : List ℕ) → SharesSecret width times others point share secret ds → ds ≡ cs)
    given = shares_hide_secret width times wide field others point share points nonzero shares_fit secret secret_fits

    made : (ys : List ℕ) → length ys ≡ others → AreBelow (2 ^ width) ys
        → are_shares times point share (secret ∷ ys) others ≡ true
        → SharesSecret width times others point share secret (secret ∷ ys)
    made ys count fits is = record {
      count = ap suc count;
      fits = more-below (2 ^ width) secret ys secret_fits fits;
      is_secret = refl;
      shares = shares-are times point share (secret ∷ ys) others is;
    }

    pick : (cs : List ℕ) → SharesSecret width times others point share secret cs
        → ((ds : List ℕ) → SharesSecret width times others point share secret ds → ds ≡ cs)
        → sum_lists others (2 ^ width) (λ rest. cond (are_shares times point share (secret ∷ rest) others) 1 0) ≡ 1
    pick [] has only = let count = has.count in absurd (omega (arith, count))
    pick (c ∷ cs) has only =
        lists-one others (2 ^ width) (λ rest. are_shares times point share (secret ∷ rest) others) cs
        (let count = has.count in omega (arith, count)) (λ i below. has.fits (suc i) (omega (arith, below)))
        (subst (λ (z : ℕ). are_shares times point share (z ∷ cs) others ≡ true) has.is_secret
        (are-shares times point share (c ∷ cs) others has.shares))
        (λ ys count fits is. rest-same secret c ys cs (only (secret ∷ ys) (made ys count fits is)))
