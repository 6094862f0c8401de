-- Different numbers below a bound are at most as many as the bound.
use Rattle.std.proofs.Common.{◌≡◌, ◌≢◌, ℕ, zero, suc, ◌<◌, ◌≤◌, inl, inr, Bool, cond, sym, ◌∙◌, ap, subst, arith}
use Rattle.std.specs.Prelude.{nat_eq}
use Rattle.std.proofs.lemmas.Bool.Decides.{eqb_tells}
use Rattle.field_base.specs.PolynomialRoots.{AreDistinctBelow}

below_last : (b x : ℕ) → x < suc b → x ≢ b → x < b
below_last b x fits other =
    elim (eqb_tells x b) [
      | inl is ↦ absurd (other is.1)
      | inr different ↦ less b x fits different.1
    ]
  where
    less : (b x : ℕ) → x < suc b → (x ≡ b → ⊥) → x < b
    less b x fits different = omega (arith, fits, different)

module _ (b m : ℕ) (choice : ℕ → ℕ) (distinct : AreDistinctBelow (suc m) (suc b) choice) where
  -- the choices before the last, with the last in place of the one that is b
  abbrev moved : ℕ → ℕ
  moved i = cond (nat_eq (choice i) b) (choice m) (choice i)

  moved_yes : (i : ℕ) → choice i ≡ b → moved i ≡ choice m
  moved_yes i is =
      elim (eqb_tells (choice i) b) [
        | inl same ↦ ap (λ (t : Bool). cond t (choice m) (choice i)) same.0
        | inr other ↦ absurd (other.1 is)
      ]

  moved_no : (i : ℕ) → choice i ≢ b → moved i ≡ choice i
  moved_no i is_not =
      elim (eqb_tells (choice i) b) [
        | inl same ↦ absurd (is_not same.1)
        | inr other ↦ ap (λ (t : Bool). cond t (choice m) (choice i)) other.0
      ]

  apart : (i j : ℕ) → i < suc m → j < suc m → choice i ≡ b → choice j ≡ b → i ≡ j
  apart i j i_below j_below i_is j_is = distinct.differ i j i_below j_below (i_is ∙ sym j_is)

  last_other : (i : ℕ) → i < m → choice i ≡ b → choice m ≢ b
  last_other i below is = λ e. absurd (omega (arith, below, apart i m (omega (arith, below)) (omega arith) is e))

  moved-below : (i : ℕ) → i < m → moved i < b
  moved-below i below =
      elim (eqb_tells (choice i) b) [
        | inl same ↦ subst (λ (x : ℕ). x < b) (sym (moved_yes i same.1))
            (below_last b (choice m) (distinct.below m (omega arith)) (last_other i below same.1))
        | inr other ↦ subst (λ (x : ℕ). x < b) (sym (moved_no i other.1))
            (below_last b (choice i) (distinct.below i (omega (arith, below))) other.1)
      ]

  -- the last one's value is no earlier one's
  not_last : (i : ℕ) → i < m → choice i ≢ choice m
  not_last i below = λ e. absurd (omega (arith, below, distinct.differ i m (omega (arith, below)) (omega arith) e))

  moved-differ : (i j : ℕ) → i < m → j < m → moved i ≡ moved j → i ≡ j
  moved-differ i j i_below j_below same =
      elim (eqb_tells (choice i) b) [
        | inl i_is ↦ elim (eqb_tells (choice j) b) [
          | inl j_is ↦ apart i j (omega (arith, i_below)) (omega (arith, j_below)) i_is.1 j_is.1
          | inr j_not ↦ absurd (not_last j j_below (sym (moved_no j j_not.1) ∙ sym same ∙ moved_yes i i_is.1))
        ]
        | inr i_not ↦ elim (eqb_tells (choice j) b) [
          | inl j_is ↦ absurd (not_last i i_below (sym (moved_no i i_not.1) ∙ same ∙ moved_yes j j_is.1))
          | inr j_not ↦ distinct.differ i j (omega (arith, i_below)) (omega (arith, j_below))
              (sym (moved_no i i_not.1) ∙ same ∙ moved_no j j_not.1)
        ]
      ]

pub pigeonhole : (n bound : ℕ) (choice : ℕ → ℕ) → AreDistinctBelow n bound choice → n ≤ bound
pigeonhole zero bound choice distinct = omega arith
pigeonhole (suc m) zero choice distinct = let fits = distinct.below 0 (omega arith) in absurd (omega (arith, fits))
pigeonhole (suc m) (suc b) choice distinct =
    let fewer : m ≤ b =
    pigeonhole m b (moved b m choice distinct)
    (record { below = moved-below b m choice distinct; differ = moved-differ b m choice distinct }) in
    omega (arith, fewer)
