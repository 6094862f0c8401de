-- Repeated squares by tables: they are computed in words of 128 bits, at a level whose elements fit its own words.
use Rattle.std.proofs.Common.{◌≡◌, ℕ, ◌*◌, ◌/◌, ◌%◌, ◌^◌, ◌<◌, ◌≤◌, ◌∙◌, ap, ap₂, arith, lit<, subst, sym}
use Rattle.std.proofs.lemmas.Nat.{pow_pos}
use native.Mathlib.Nat.{lt_of_lt_of_le, mod-eq_of_lt, mod-lt, one-mul, pow-le-pow_right}
use Rattle.field_base.specs.Powers.{repeated_square}
use Rattle.field_base.specs.Tower.{tower_mul}
use Rattle.field_base.proofs.PowerLemmas.{repeated_square-lt, repeated_square-mod}
use Rattle.field_base.proofs.TowerLaws.{squarings_none}
use Rattle.field_base.proofs.TowerRing.{tower_ring}

-- repeated squares are elements
pub squarings_lt : (k n x : ℕ) → repeated_square 1 (tower_mul k) n x < 2 ^ 2 ^ k
squarings_lt k n x = repeated_square-lt (2 ^ k) 1 (tower_mul k) (tower_ring k) n x

-- an element squared no times is the word of its bits
pub no_squarings : (k x word : ℕ) → word ≡ x % 2 ^ 2 ^ k → word ≡ repeated_square 1 (tower_mul k) 0 x
no_squarings k x word is =
    is ∙ sym (squarings_none k (x % 2 ^ 2 ^ k) (mod-lt x (pow_pos (2 ^ k))))
    ∙ repeated_square-mod (2 ^ k) 1 (tower_mul k) (tower_ring k) 0 x

-- half of the bits of an element, as a shift in a word gives it
pub half_of_bits : (k level : ℕ) → k ≤ 7 → level ≡ k → 1 * 2 ^ level % 2 ^ 64 / 2 ≡ 2 ^ k / 2
half_of_bits k level few same =
    let room : 2 ^ k ≤ 2 ^ 7 = pow-le-pow_right (lit< tt) few in
    ap (λ (n : ℕ). 1 * 2 ^ n % 2 ^ 64 / 2) same ∙ ap (λ (n : ℕ). n / 2) (ap (λ (n : ℕ). n % 2 ^ 64) (one-mul (2 ^ k)) ∙ mod-eq_of_lt (omega (arith, room)))

-- repeated squares are elements, so that a word of enough bits holds them whole, and no squaring of it is left
pub record SquaredInWord (k n x word : ℕ) : Type 0 where
  -- the word is an element
  pub fits : word < 2 ^ 2 ^ k
  -- and it is x squared n times
  pub squarings : repeated_square 1 (tower_mul k) 0 word ≡ repeated_square 1 (tower_mul k) n x

-- x squared n times by numbers of 128 bits, and cut to the bits of the level's own word
pub squared_in_word : (k bits n x level number value word : ℕ) → 2 ^ k ≤ bits → level ≡ k → number ≡ x
    → value ≡ repeated_square 1 (tower_mul level) n number → word ≡ value % 2 ^ bits → SquaredInWord k n x word
squared_in_word k bits n x level number value word room same_level same_number computed kept =
    record { fits = fits; squarings = squarings_none k word fits ∙ is }
  where
    is : word ≡ repeated_square 1 (tower_mul k) n x
    is =
        kept
        ∙ ap (λ (v : ℕ). v % 2 ^ bits) (computed ∙ ap₂ (λ (l y : ℕ). repeated_square 1 (tower_mul l) n y) same_level same_number)
        ∙ mod-eq_of_lt (lt_of_lt_of_le (squarings_lt k n x) (pow-le-pow_right (lit< tt) room))

    fits : word < 2 ^ 2 ^ k
    fits = subst (λ (w : ℕ). w < 2 ^ 2 ^ k) (sym is) (squarings_lt k n x)
