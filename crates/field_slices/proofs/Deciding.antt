-- Whether a matrix is near a code is decided: its messages are searched.
use Rattle.std.proofs.Common.{◌≡◌, ◌⊎◌, inl, inr, ℕ, zero, suc, ◌+◌, ◌*◌, ◌/◌, ◌%◌, ◌^◌, ◌<◌, ◌≤◌, Bool, true, false, cond, refl, sym, ◌∙◌, ap, ap₂, subst, arith}
use Rattle.std.specs.Prelude.{◌||◌, nat_eq, not}
use Rattle.std.proofs.Math.Dec.{leb}
use Rattle.std.proofs.Math.Nat.{mod-lt, mul_comm}
use Rattle.std.proofs.lemmas.Bool.{cases_lt, le-leb, leb-true}
use Rattle.std.proofs.lemmas.Bool.Decides.{eqb_tells}
use Rattle.std.proofs.lemmas.Nat.{div-add-mod', div-mul-add, mul-add-lt, pow_pos}
use Rattle.field_base.specs.Field.{IsField}
use Rattle.field_base.proofs.BasisSums.{sum_below-same}
use Rattle.field_base.proofs.RingLemmas.{mod-times}
use Rattle.field_slices.specs.Codes.{IsNear, encoded}
use Rattle.field_slices.specs.Marks.{marked_below}
use Rattle.field_slices.proofs.Counting.{total-most, total-same}
use Rattle.field_slices.proofs.Search.{search-functions}

-- ---- columns

-- whether the columns at p differ
rows_differ : ℕ → (ℕ → ℕ → ℕ) → (ℕ → ℕ → ℕ) → ℕ → Bool
rows_differ zero one other p = false
rows_differ (suc h) one other p = not (nat_eq (one h p) (other h p)) || rows_differ h one other p

equal-of : (a b : ℕ) (t : Bool) → (not (nat_eq a b) || t) ≡ false → (a ≡ b) × (t ≡ false)
equal-of a b t is = elim (eqb_tells a b) [
  | inl same ↦ (same.1, sym (ap (λ (s : Bool). not s || t) same.0) ∙ is)
  | inr other ↦ let no : (not false || t) ≡ false = sym (ap (λ (s : Bool). not s || t) other.0) ∙ is in absurd (cc)
]

of-equal : (a b : ℕ) (t : Bool) → a ≡ b → t ≡ false → (not (nat_eq a b) || t) ≡ false
of-equal a b t same is = elim (eqb_tells a b) [
  | inl equal ↦ ap (λ (s : Bool). not s || t) equal.0 ∙ is
  | inr other ↦ absurd (other.1 same)
]

rows-same : (height : ℕ) (one other : ℕ → ℕ → ℕ) (p : ℕ) → rows_differ height one other p ≡ false → (i : ℕ) → i < height → one i p ≡ other i p
unfolding rows_differ
rows-same zero one other p is i below = absurd (omega (arith, below))
rows-same (suc h) one other p is i below =
    let last = equal-of (one h p) (other h p) (rows_differ h one other p) is in
    elim (cases_lt i h) [
      | inl lower ↦ rows-same h one other p last.1 i lower
      | inr upper ↦ let end : h ≡ i = omega (arith, below, upper) in subst (λ (j : ℕ). one j p ≡ other j p) end last.0
    ]

same-rows : (height : ℕ) (one other : ℕ → ℕ → ℕ) (p : ℕ) → ((i : ℕ) → i < height → one i p ≡ other i p) → rows_differ height one other p ≡ false
unfolding rows_differ
same-rows zero one other p same = refl
same-rows (suc h) one other p same =
    of-equal (one h p) (other h p) (rows_differ h one other p) (same h (omega arith)) (same-rows h one other p (λ i below. same i (omega (arith, below))))

rows-other : (height : ℕ) (one other third : ℕ → ℕ → ℕ) (p : ℕ) → ((i : ℕ) → i < height → other i p ≡ third i p)
    → rows_differ height one other p ≡ rows_differ height one third p
unfolding rows_differ
rows-other zero one other third p same = refl
rows-other (suc h) one other third p same =
    ap₂ (λ (a : ℕ) (b : Bool). not (nat_eq (one h p) a) || b) (same h (omega arith))
    (rows-other h one other third p (λ i below. same i (omega (arith, below))))

-- ---- messages in one function

module _ (width : ℕ) (times : ℕ → ℕ → ℕ) (wide : 0 < width) (field : IsField width times) (size n : ℕ) (generator : ℕ → ℕ → ℕ)
    (e height : ℕ) (word : ℕ → ℕ → ℕ) where
  -- the code words of the messages that a function has, one after the other
  abbrev coded : (ℕ → ℕ) → ℕ → ℕ → ℕ
  coded f i p = encoded times size generator (λ j. f (i * size + j)) p

  place-lt : (i j : ℕ) → i < height → j < size → i * size + j < height * size
  place-lt i j i_below j_below = subst (λ (m : ℕ). i * size + j < m) (mul_comm size height) (mul-add-lt i size j height i_below j_below)

  coded-same : (f g : ℕ → ℕ) → ((t : ℕ) → t < height * size → f t ≡ g t) → (i p : ℕ) → i < height → coded f i p ≡ coded g i p
  coded-same f g same i p below =
      sum_below-same (λ j. times (f (i * size + j)) (generator j p)) (λ j. times (g (i * size + j)) (generator j p)) size
      (λ j inside. ap (λ (m : ℕ). times m (generator j p)) (same (i * size + j) (place-lt i j below inside)))

  abbrev misses : (ℕ → ℕ) → ℕ → Bool
  misses f = rows_differ height word (coded f)

  abbrev test : (ℕ → ℕ) → Bool
  test f = leb (marked_below (misses f) n) e

  test-reads : (f g : ℕ → ℕ) → ((t : ℕ) → t < height * size → f t ≡ g t) → test f ≡ test g
  test-reads f g same =
      ap (λ (c : ℕ). leb c e)
      (total-same (λ p. cond (misses f p) 1 0) (λ p. cond (misses g p) 1 0) n
      (λ p below.
      let one : ℕ = 1 in let none : ℕ = 0 in
      ap (λ (b : Bool). cond b one none) (rows-other height word (coded f) (coded g) p (λ i inside. coded-same f g same i p inside))))

  found-near : (f : ℕ → ℕ) → test f ≡ true → IsNear times size n generator e height word
  found-near f is = record {
    matrix = coded f;
    rows = λ i below. record { message = λ j. f (i * size + j); is = λ p inside. refl };
    marked = misses f;
    few = leb-true (marked_below (misses f) n) e is;
    same = λ i below p inside unmarked. rows-same height word (coded f) p unmarked i below;
  }

  module _ (near : IsNear times size n generator e height word) where
    message-of : (i : ℕ) → (i < height) ⊎ (height ≤ i) → ℕ → ℕ
    message-of i (inl below) j = (near.rows i below).message j
    message-of i (inr above) j = 0

    -- the messages of the matrix, one after the other, as elements
    joined : ℕ → ℕ
    joined t = message-of (t / size) (cases_lt (t / size) height) (t % size) % 2 ^ width

    joined-lt : (t : ℕ) → joined t < 2 ^ width
    unfolding joined
    joined-lt t = let some = pow_pos width in mod-lt (message-of (t / size) (cases_lt (t / size) height) (t % size)) some

    message-same : (i j : ℕ) (p : ℕ) → i < height → (c : (i < height) ⊎ (height ≤ i)) → p < n
        → near.matrix i p ≡ encoded times size generator (message-of i c) p
    unfolding message-of
    message-same i j p below (inl lower) inside = (near.rows i lower).is p inside
    message-same i j p below (inr upper) inside = absurd (omega (arith, below, upper))

    coded-matrix : (i p : ℕ) → i < height → p < n → near.matrix i p ≡ coded joined i p
    unfolding joined
    coded-matrix i p below inside =
        message-same i 0 p below (cases_lt i height) inside
        ∙ sum_below-same (λ j. times (message-of i (cases_lt i height) j) (generator j p)) (λ j. times (joined (i * size + j)) (generator j p)) size
        (λ j within. symbol j within)
      where
        symbol : (j : ℕ) → j < size → times (message-of i (cases_lt i height) j) (generator j p) ≡ times (joined (i * size + j)) (generator j p)
        symbol j within =
            let quotient : (i * size + j) / size ≡ i = div-mul-add i size j within in
            let whole = div-add-mod' (i * size + j) size in
            let product : (i * size + j) / size * size ≡ i * size = ap (λ (q : ℕ). q * size) quotient in
            let remainder : (i * size + j) % size ≡ j = omega (arith, whole, product) in
            sym (mod-times width 1 times field.ring (message-of i (cases_lt i height) j) (generator j p))
            ∙ sym (ap₂ (λ (q r : ℕ). times (message-of q (cases_lt q height) r % 2 ^ width) (generator j p)) quotient remainder)

    near-found : test joined ≡ true
    near-found =
        le-leb (marked_below (misses joined) n) e
        (let fewer = total-most (λ p. cond (misses joined p) 1 0) (λ p. cond (near.marked p) 1 0) n
        (λ p inside. at p inside (near.marked p) refl) in
        let few = near.few in omega (arith, fewer, few))
      where
        at : (p : ℕ) → p < n → (b : Bool) → near.marked p ≡ b → cond (misses joined p) 1 0 ≤ cond b 1 0
        at p inside true is = most (misses joined p)
          where
            most : (b : Bool) → cond b 1 0 ≤ 1
            most true = omega arith
            most false = omega arith
        at p inside false is =
            let one : ℕ = 1 in let none : ℕ = 0 in
            let zero_is : cond (misses joined p) one none ≡ none =
            ap (λ (b : Bool). cond b one none)
            (same-rows height word (coded joined) p (λ i below. near.same i below p inside is ∙ coded-matrix i p below inside)) in
            omega (arith, zero_is)

  pub near-decided : IsNear times size n generator e height word ⊎ (IsNear times size n generator e height word → ⊥)
  near-decided =
      elim (search-functions (height * size) (2 ^ width) test test-reads) [
        | inl found ↦ inl (found-near found.0 found.1)
        | inr none ↦ inr (λ near.
            let is = near-found near in
            let is_not = none (joined near) (λ t below. joined-lt near t) in
            absurd (cc))
      ]
