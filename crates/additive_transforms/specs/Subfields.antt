-- The subfields in which the twiddles of a transform lie.
use Rattle.std.specs.Prelude.{ℕ, ◌+◌, ◌^◌, ◌<◌, ◌≤◌}
use Rattle.field_base.specs.Orders.{AreCantorVectors}
use Rattle.field_base.specs.Ring.{IsRing}
use Rattle.ghash_slices.specs.Cantor.{point, subspace_value}

-- where the first n vectors are below 2 ^ size, s_j is so at each point of a number below 2 ^ c, for c up to j + n: the twiddles of
-- stage j of a transform over those points are values of s_j there, so that they lie in smaller fields the higher the stage is (D. G.
-- Cantor, On arithmetical algorithms over finite fields, Journal of Combinatorial Theory A 50, 1989)
abbrev pub TwiddlesLieInSubfield : Type 0
TwiddlesLieInSubfield =
    (width : ℕ) (times : ℕ → ℕ → ℕ) (vector : ℕ → ℕ) → 0 < width → IsRing width 1 times → AreCantorVectors width times vector
    → (n size : ℕ) → ((i : ℕ) → i < n → vector i < 2 ^ size) → (j c p : ℕ) → c ≤ j + n → c ≤ width → p < 2 ^ c
    → subspace_value times j (point width vector 0 p) < 2 ^ size
