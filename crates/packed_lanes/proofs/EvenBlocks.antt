-- The masks of even blocks, bit by bit.
use Rattle.std.proofs.Common.{◌≡◌, ℕ, ◌+◌, ◌*◌, ◌/◌, ◌%◌, ◌^◌, ◌<◌, ◌-◌, ◌&&◌, suc, zero, Bool, true, sym, ap, subst, ◌∙◌, inl, inr, ◌⊎◌, arith}
use Rattle.std.specs.Bool.{nat_eq}
use Rattle.std.specs.Int.{bit_at}
use Rattle.std.proofs.lemmas.Bool.{and_parts, eqb-true}
use Rattle.std.proofs.lemmas.Nat.{pow-add, pow_pos}
use Rattle.packed_lanes.specs.Parts.{HasEvenBlocks, IsBlockSize}

-- whether the bits below `count` are those of the even blocks
abbrev pub has_even_blocks : ℕ → ℕ → ℕ → Bool
has_even_blocks block n zero = true
has_even_blocks block n (suc count) = nat_eq (n / 2 ^ count % 2) (1 - count / block % 2) && has_even_blocks block n count

-- a mask that passes the test has the bits of the even blocks
each_bit : (block n count : ℕ) → has_even_blocks block n count ≡ true → (j : ℕ) → j < count → bit_at n j ≡ 1 - j / block % 2
each_bit block n zero all j less = absurd (omega arith)
each_bit block n (suc count) all j less =
    let both = and_parts (nat_eq (n / 2 ^ count % 2) (1 - count / block % 2)) (has_even_blocks block n count) all in
    cases both.0 (λ before. each_bit block n count both.1 j before) (last j count less)
  where
    last : (i m : ℕ) → i < suc m → (i < m) ⊎ (i ≡ m)
    last i m h = grind arith

    cases : nat_eq (n / 2 ^ count % 2) (1 - count / block % 2) ≡ true → (j < count → bit_at n j ≡ 1 - j / block % 2)
        → (j < count) ⊎ (j ≡ count) → bit_at n j ≡ 1 - j / block % 2
    cases here below (inl before) = below before
    cases here below (inr is) =
        subst (λ (x : ℕ). bit_at n x ≡ 1 - x / block % 2) (sym is)
        (eqb-true (n / 2 ^ count % 2) (1 - count / block % 2) here)

-- a mask has the even blocks of a block that is given, if a count of its bits says so
pub even_mask : (block given n : ℕ) → block ≡ given → has_even_blocks given n 64 ≡ true → HasEvenBlocks 64 block n
even_mask block given n is all = subst (λ (x : ℕ). HasEvenBlocks 64 x n) (sym is) (each_bit given n 64 all)

-- 2 ^ (6 + k) is not below 64
too_large : (k block : ℕ) → block ≡ 2 ^ suc (suc (suc (suc (suc (suc k))))) → block < 64 → ⊥
too_large k block is less =
    let places : suc (suc (suc (suc (suc (suc k))))) ≡ 6 + k = omega arith in
    let whole : 2 ^ suc (suc (suc (suc (suc (suc k))))) ≡ 64 * 2 ^ k = ap (λ (x : ℕ). 2 ^ x) places ∙ pow-add 2 6 k in
    let some = pow_pos k in
    omega arith

-- a block below 64 bits that is none of the smaller ones has 32
pub last_block : (block : ℕ) → IsBlockSize 64 block → (block ≡ 1 → ⊥) → (block ≡ 2 → ⊥) → (block ≡ 4 → ⊥) → (block ≡ 8 → ⊥) → (block ≡ 16 → ⊥) → block ≡ 32
last_block block (zero, is, less) one two four eight sixteen = absurd (one is)
last_block block (suc zero, is, less) one two four eight sixteen = absurd (two is)
last_block block (suc (suc zero), is, less) one two four eight sixteen = absurd (four is)
last_block block (suc (suc (suc zero)), is, less) one two four eight sixteen = absurd (eight is)
last_block block (suc (suc (suc (suc zero))), is, less) one two four eight sixteen = absurd (sixteen is)
last_block block (suc (suc (suc (suc (suc zero)))), is, less) one two four eight sixteen = is
last_block block (suc (suc (suc (suc (suc (suc k))))), is, less) one two four eight sixteen = absurd (too_large k block is less)
