-- The locator of lost symbols (I. S. Reed and G. Solomon, 1960; R. E. Blahut, Theory and Practice of Error Control Codes, 1983, chapter 7):
-- the polynomial whose roots are their points.
use Rattle.std.specs.Prelude.{ℕ, zero, suc, Bool, false, if◌then◌else◌, nat_eq, bit_xor}

-- the product of x - (point p) over the lost places p below n
unfoldable pub locator : (ℕ → ℕ → ℕ) → (ℕ → ℕ) → (ℕ → Bool) → ℕ → ℕ → ℕ
locator times point lost zero x = 1
locator times point lost (suc n) x =
    if lost n then times (bit_xor x (point n)) (locator times point lost n x) else locator times point lost n x

-- how many places below n are lost
unfoldable pub lost_count : (ℕ → Bool) → ℕ → ℕ
lost_count lost zero = 0
lost_count lost (suc n) = if lost n then suc (lost_count lost n) else lost_count lost n

-- the lost places but place i
abbrev pub others_lost : (ℕ → Bool) → ℕ → ℕ → Bool
others_lost lost i p = if nat_eq p i then false else lost p
