-- The tower's laws in the form in which the levels' types cite them.
use Rattle.std.proofs.Common.{◌≡◌, ℕ, ◌+◌, ◌*◌, ◌%◌, ◌^◌, ◌<◌, sym, ◌∙◌, ap, ap₂}
use native.Mathlib.Nat.{mul-one}
use Rattle.field_base.specs.Powers.{repeated_square}
use Rattle.field_base.specs.Tower.{tower_mul}
use Rattle.field_base.specs.TowerField.{TowerIsField}
use Rattle.field_base.proofs.PowerLemmas.{repeated_square-add, repeated_square-none, repeated_square_more}
use Rattle.field_base.proofs.TowerFrobenius.{tower_repeated_square-mod_bits}
use Rattle.field_base.proofs.TowerTraces.{tower_inverses, squarings_return}
use Rattle.field_base.proofs.TowerRing.{tower_ring}

-- ---- at each level

-- every level is a field
pub tower_field : TowerIsField
tower_field k = record { ring = tower_ring k; inverses = tower_inverses k; squarings_return = squarings_return k }

-- a number is itself times the one
pub is_times_one : (a b : ℕ) → a ≡ b → a ≡ b * 1
is_times_one a b e = e ∙ sym (mul-one b)

-- ---- repeated squarings

-- m squarings after n are their sum, and count modulo the bits of a level
pub squarings_reduced : (k m n count a : ℕ) → m + n ≡ count % 2 ^ k
    → repeated_square 1 (tower_mul k) m (repeated_square 1 (tower_mul k) n a) ≡ repeated_square 1 (tower_mul k) count a
squarings_reduced k m n count a whole =
    sym (repeated_square-add (2 ^ k) 1 (tower_mul k) (tower_ring k) m n a)
    ∙ ap (λ (i : ℕ). repeated_square 1 (tower_mul k) i a) whole ∙ tower_repeated_square-mod_bits k count a

-- an element squared no times is the element
pub squarings_none : (k a : ℕ) → a < 2 ^ 2 ^ k → repeated_square 1 (tower_mul k) 0 a ≡ a
squarings_none k a fits = repeated_square-none (2 ^ k) 1 (tower_mul k) (tower_ring k) a fits

-- one squaring more is the square
pub squarings_more : (k n a value value' : ℕ) → value ≡ repeated_square 1 (tower_mul k) n a → value' ≡ tower_mul k value value
    → value' ≡ repeated_square 1 (tower_mul k) (n + 1) a
squarings_more k n a value value' so_far step =
    step ∙ ap₂ (tower_mul k) so_far so_far ∙ sym (repeated_square_more (2 ^ k) 1 (tower_mul k) (tower_ring k) n a)
