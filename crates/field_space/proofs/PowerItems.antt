-- The items of the iterator of powers, by induction on how many are taken.
use Rattle.std.proofs.Common.{◌≡◌, ℕ, suc, ◌^◌, ◌<◌, List, [], ◌∷◌, map, length, refl, sym, ◌∙◌, ap, ap₂}
use Rattle.std.proofs.lemmas.List.{map-id}
use Rattle.std.specs.Iterator.{Yields}
use Rattle.field_space.specs.declared.powers.Powers.{Powers}
use Rattle.field_space.specs.PowerItems.{ArePowersOf, AreShiftedPowersOf, GivesNextPower, powers_from}
use Rattle.field_base.specs.Powers.{power}
use Rattle.field_base.specs.Ring.{IsRing}
use Rattle.field_base.proofs.PowerLemmas.{times-one}

module _ {R : Type 0} (repr : R → ℕ) (unit : ℕ) (times : ℕ → ℕ → ℕ) where
  -- the items that are taken from f (a^k) on are f (a^k), f (a^(k + 1)), .., where f carries each power of a times a to the next
  items_from : (f : ℕ → ℕ) (a : ℕ) → ((k : ℕ) → times (f (power unit times a k)) a ≡ f (power unit times a (suc k)))
      → (k : ℕ) (s : Powers R) → repr s.base ≡ a → repr s.current ≡ f (power unit times a k)
      → (xs : List R) (rest : Powers R) → Yields (GivesNextPower repr times) s xs rest
      → map repr xs ≡ map f (powers_from unit times a k (length xs))
  unfolding powers_from
  items_from f a next k s base current [] rest yields = refl
  items_from f a next k s base current (x ∷ xs) rest yields =
      let gave = yields.1 in
      ap₂ (λ y ys. y ∷ ys) (ap repr gave.0 ∙ current)
      (items_from f a next (suc k) yields.0 (ap repr gave.1 ∙ base) (gave.2 ∙ ap₂ times current base ∙ next k) xs rest yields.2)

  -- so an iterator that starts at the one gives all powers
  pub powers_of : (s : Powers R) (a : ℕ) → repr s.base ≡ a → repr s.current ≡ unit → ArePowersOf repr unit times a s
  unfolding power
  powers_of s a base current xs rest yields =
      items_from (λ y. y) a (λ k. refl) 0 s base current xs rest yields ∙ map-id (powers_from unit times a 0 (length xs))

  -- and one that starts at b gives b times all powers
  pub shifted_powers_of : (width : ℕ) → IsRing width unit times → (b : ℕ) → b < 2 ^ width → (s : Powers R) (a : ℕ) → repr s.base ≡ a
      → repr s.current ≡ b → AreShiftedPowersOf repr unit times b a s
  unfolding power
  shifted_powers_of width ring b fits s a base current =
      items_from (times b) a (λ k. ring.assoc b (power unit times a k) a) 0 s base
      (current ∙ sym (times-one width unit times ring b fits))
