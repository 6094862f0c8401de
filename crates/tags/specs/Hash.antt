-- The hash of a list of numbers by a polynomial, at a key, in Horner's form (NIST SP 800-38D, section 6.4; RFC 8452, section 3).
use Rattle.std.specs.Prelude.{ℕ, List, bit_xor, fold}

-- Y_n, where Y_0 is 0 and Y_i is (Y_(i-1) + X_i) times the key: the sum of X_i key^(n + 1 - i)
abbrev pub polynomial_hash : (ℕ → ℕ → ℕ) → ℕ → List ℕ → ℕ
polynomial_hash times key blocks = fold (λ y x. times (bit_xor y x) key) 0 blocks
