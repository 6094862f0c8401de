-- The soundness error of proofs of sums in numbers, over the field of GHASH, its bits, and the sizes that reach them: of tables of 2 ^ n
-- elements, 2 ^ m places are opened. SoundnessErrors.antt says what is counted.
use Rattle.std.specs.Prelude.{◌≡◌, ◌⊎◌, ℕ, suc, ◌+◌, ◌*◌, ◌/◌, ◌^◌, ◌<◌, ◌≤◌, cond, max, nat_eq}
use Rattle.protocols.specs.CommitmentScheme.{matrix_rows, place_bits, row_levels, word_levels}

-- ---- the error

-- how many columns may be wrong: 93 of 256; none where all columns are opened
abbrev pub wrong_columns : ℕ → ℕ → ℕ
wrong_columns m n = cond (nat_eq (place_bits m n) 0) 0 (93 * (2 ^ row_levels m n / 64))

-- of the 2 ^ 128 values of a challenge, so many in all draws help a prover that cheats: two in each round of the
-- sum-check and one of the challenge that combines the tables, or 34 for each place, of that challenge and in each round
-- that combines rows, where not all columns are opened
abbrev pub lucky_challenges : ℕ → ℕ → ℕ
lucky_challenges m n =
    max (suc (2 * n)) (cond (nat_eq (place_bits m n) 0) 0 (suc (matrix_rows m n) * (34 * 2 ^ word_levels m n)))

-- of 256 ^ q lists of places, q = 2 ^ m, so many miss all columns that are wrong: (256 - 93) ^ q; none where all columns
-- are opened
abbrev pub lucky_places : ℕ → ℕ → ℕ
lucky_places m n = cond (nat_eq (place_bits m n) 0) 0 (163 ^ 2 ^ m)

-- the soundness error, lucky_challenges / 2 ^ 128 + lucky_places / 256 ^ q, as so many of the parts of one
abbrev pub error_parts : ℕ → ℕ → ℕ
error_parts m n = lucky_challenges m n * 256 ^ 2 ^ m + 2 ^ 128 * lucky_places m n

-- how many parts one has
abbrev pub whole_parts : ℕ → ℕ
whole_parts m = 2 ^ 128 * 256 ^ 2 ^ m

-- ---- its bits

-- the error is at most 2 ^ -bits
abbrev pub HaveSoundBits : ℕ → ℕ → ℕ → Type 0
HaveSoundBits m n bits = 2 ^ bits * error_parts m n ≤ whole_parts m

-- the largest bits of which that holds
pub record AreMostBits (m n bits : ℕ) : Type 0 where
  pub bound : 2 ^ bits * error_parts m n ≤ whole_parts m
  pub most : whole_parts m < 2 ^ suc bits * error_parts m n

-- m is for so many bits: 7 where these reach them, else 8 where these do
abbrev pub AreFor : ℕ → ℕ → ℕ → Type 0
AreFor bits m n =
    HaveSoundBits m n bits × ((m ≡ 7) ⊎ ((m ≡ 8) × (HaveSoundBits 7 n bits → ⊥)))

-- no m is
abbrev pub NoneIsFor : ℕ → ℕ → Type 0
NoneIsFor bits n = (HaveSoundBits 7 n bits → ⊥) × (HaveSoundBits 8 n bits → ⊥)
