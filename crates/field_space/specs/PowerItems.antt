-- The items of the iterator of the powers of an element.
use Rattle.std.specs.Prelude.{◌≡◌, ℕ, List, [], ◌∷◌, map, length, suc, zero}
use Rattle.std.specs.declared.option.Option.{Option}
use Rattle.std.specs.Iterator.{Yields}
use Rattle.std.specs.Prelude.{IsSomeAnd}
use Rattle.field_space.specs.declared.powers.Powers.{Powers}
use Rattle.field_base.specs.Powers.{power}

-- a call gives the current power and leaves the next one
abbrev pub GivesNextPower : {R : Type 0} → (R → ℕ) → (ℕ → ℕ → ℕ) → Powers R → Option R → Powers R → Type 0
GivesNextPower repr times s item t =
    IsSomeAnd item (λ x. (x ≡ s.current) × (t.base ≡ s.base) × (repr t.current ≡ times (repr s.current) (repr s.base)))

-- a to the powers k, k + 1, .. of a list of n
unfoldable pub powers_from : ℕ → (ℕ → ℕ → ℕ) → ℕ → ℕ → ℕ → List ℕ
powers_from unit times a k zero = []
powers_from unit times a k (suc n) = power unit times a k ∷ powers_from unit times a (suc k) n

-- whatever number of items is taken, they are the powers of a from a ^ 0 on
abbrev pub ArePowersOf : {R : Type 0} → (R → ℕ) → ℕ → (ℕ → ℕ → ℕ) → ℕ → Powers R → Type 0
ArePowersOf {R} repr unit times a powers =
    (xs : List R) (rest : Powers R) → Yields (GivesNextPower repr times) powers xs rest
    → map repr xs ≡ powers_from unit times a 0 (length xs)

-- whatever number of items is taken, they are b times the powers of a from a ^ 0 on
abbrev pub AreShiftedPowersOf : {R : Type 0} → (R → ℕ) → ℕ → (ℕ → ℕ → ℕ) → ℕ → ℕ → Powers R → Type 0
AreShiftedPowersOf {R} repr unit times b a powers =
    (xs : List R) (rest : Powers R) → Yields (GivesNextPower repr times) powers xs rest
    → map repr xs ≡ map (times b) (powers_from unit times a 0 (length xs))
