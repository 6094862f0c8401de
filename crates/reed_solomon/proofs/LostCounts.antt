-- How many of the points are lost, by how many shards are missing.
use Rattle.std.proofs.Common.{◌≡◌, ℕ, zero, suc, ◌+◌, ◌-◌, ◌^◌, ◌<◌, ◌≤◌, Bool, true, false, List, if◌then◌else◌, refl, sym, ◌∙◌, ap, ap₂, arith}
use native.Mathlib.Numerals.{add-one}
use Rattle.std.proofs.lemmas.Bool.Decides.{nat_tests}
use Rattle.reed_solomon.specs.Locators.{lost_count}
use Rattle.reed_solomon.specs.Restoring.{is_lost, is_missing}

abbrev step : Bool → ℕ → ℕ
step b c = if b then suc c else c

step-add : (b : Bool) (a c : ℕ) → step b (a + c) ≡ a + step b c
step-add true a c = omega arith
step-add false a c = refl

lost_count-more : (f : ℕ → Bool) (n : ℕ) → lost_count f (suc n) ≡ step (f n) (lost_count f n)
unfolding lost_count
lost_count-more f n = refl

-- no shards
pub lost_count-nil : (f : ℕ → Bool) → lost_count f 0 ≡ 0
unfolding lost_count
lost_count-nil f = refl

-- one shard more, which is missing or not
pub lost_count-hit : (f : ℕ → Bool) (n : ℕ) → f n ≡ true → lost_count f (n + 1) ≡ lost_count f n + 1
lost_count-hit f n is =
    ap (lost_count f) (add-one n) ∙ lost_count-more f n ∙ ap (λ (b : Bool). step b (lost_count f n)) is ∙ sym (add-one (lost_count f n))

pub lost_count-miss : (f : ℕ → Bool) (n : ℕ) → f n ≡ false → lost_count f (n + 1) ≡ lost_count f n
lost_count-miss f n is = ap (lost_count f) (add-one n) ∙ lost_count-more f n ∙ ap (λ (b : Bool). step b (lost_count f n)) is

lost_count-add : (f : ℕ → Bool) (a b : ℕ) → lost_count f (a + b) ≡ lost_count f a + lost_count (λ i. f (a + i)) b
unfolding lost_count
lost_count-add f a zero = let none : a + 0 ≡ a = omega arith in ap (lost_count f) none ∙ sum (lost_count f a)
  where
    sum : (c : ℕ) → c ≡ c + 0
    sum c = omega arith
lost_count-add f a (suc b) =
    let next : a + suc b ≡ suc (a + b) = omega arith in
    ap (lost_count f) next ∙ lost_count-more f (a + b)
    ∙ ap (step (f (a + b))) (lost_count-add f a b)
    ∙ step-add (f (a + b)) (lost_count f a) (lost_count (λ i. f (a + i)) b)
    ∙ ap (λ (c : ℕ). lost_count f a + c) (sym (lost_count-more (λ i. f (a + i)) b))

lost_count-same : (f g : ℕ → Bool) (n : ℕ) → ((i : ℕ) → i < n → f i ≡ g i) → lost_count f n ≡ lost_count g n
unfolding lost_count
lost_count-same f g zero same = refl
lost_count-same f g (suc n) same =
    lost_count-more f n
    ∙ ap₂ step (same n (omega arith)) (lost_count-same f g n (λ i below. same i (omega (arith, below))))
    ∙ sym (lost_count-more g n)

lost_count-none : (n : ℕ) → lost_count (λ i. false) n ≡ 0
unfolding lost_count
lost_count-none zero = refl
lost_count-none (suc n) = lost_count-none n

pub lost_count-most : (f : ℕ → Bool) (n : ℕ) → lost_count f n ≤ n
unfolding lost_count
lost_count-most f zero = omega arith
lost_count-most f (suc n) = most (f n) (lost_count-most f n)
  where
    most : (b : Bool) → lost_count f n ≤ n → (if b then suc (lost_count f n) else lost_count f n) ≤ suc n
    most true few = omega (arith, few)
    most false few = omega (arith, few)

module _ (k n m : ℕ) (present : List Bool) (padded : k ≤ 2 ^ n) where
  abbrev missing : ℕ → Bool
  missing = is_missing present

  -- the place of a shard is lost where the shard is missing
  pub lost-data : (i : ℕ) → i < k → is_lost k n m present i ≡ missing i
  lost-data i below = grind (arith, nat_tests)

  lost-padding : (i : ℕ) → i < 2 ^ n - k → is_lost k n m present (k + i) ≡ false
  lost-padding i below = grind (arith, nat_tests)

  pub lost-parity : (t : ℕ) → t < m → is_lost k n m present (2 ^ n + t) ≡ missing (k + t)
  lost-parity t below =
      let place : 2 ^ n + t - 2 ^ n ≡ t = omega arith in
      let same : missing (k + (2 ^ n + t - 2 ^ n)) ≡ missing (k + t) = ap (λ (s : ℕ). missing (k + s)) place in
      grind (arith, nat_tests)

  -- of the points up to the parity's end as many are lost as shards are missing
  lost_shards : lost_count (is_lost k n m present) (2 ^ n + m) ≡ lost_count missing (k + m)
  lost_shards =
      let parts : 2 ^ n ≡ k + (2 ^ n - k) = omega (arith, padded) in
      lost_count-add (is_lost k n m present) (2 ^ n) m
      ∙ ap₂ (λ (a b : ℕ). a + b)
      (ap (lost_count (is_lost k n m present)) parts
      ∙ lost_count-add (is_lost k n m present) k (2 ^ n - k)
      ∙ ap₂ (λ (a b : ℕ). a + b) (lost_count-same (is_lost k n m present) missing k lost-data)
      (lost_count-same (λ i. is_lost k n m present (k + i)) (λ i. false) (2 ^ n - k) lost-padding ∙ lost_count-none (2 ^ n - k)))
      (lost_count-same (λ i. is_lost k n m present (2 ^ n + i)) (λ i. missing (k + i)) m lost-parity)
      ∙ regroup (lost_count missing k) (lost_count (λ i. missing (k + i)) m)
      ∙ sym (lost_count-add missing k m)
    where
      regroup : (a b : ℕ) → a + 0 + b ≡ a + b
      regroup a b = omega arith

  -- where no more shards are missing than the parity has, as many points are known as polynomials have coefficients
  pub enough_left : (count : ℕ) → 2 ^ n + m ≤ count → lost_count missing (k + m) ≤ m
      → lost_count (is_lost k n m present) count + 2 ^ n ≤ count
  enough_left count room few =
      let parts : count ≡ 2 ^ n + m + (count - (2 ^ n + m)) = omega (arith, room) in
      let sum = ap (lost_count (is_lost k n m present)) parts
      ∙ lost_count-add (is_lost k n m present) (2 ^ n + m) (count - (2 ^ n + m)) in
      let most = lost_count-most (λ i. is_lost k n m present (2 ^ n + m + i)) (count - (2 ^ n + m)) in
      omega (arith, sum, most, lost_shards, few, room)
