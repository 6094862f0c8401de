-- Numbers of at most 64 bits by the halves of a double word.
use Rattle.std.proofs.Common.{◌≡◌, ℕ, ◌+◌, ◌*◌, ◌^◌, nat_lt, Bool, true, false, refl, arith}
use Rattle.std.specs.Prelude.{IfSome, Some, None, if◌then◌else◌}
use Rattle.std.proofs.lemmas.Bool.{ltb-true}
use Rattle.field_element.specs.Element.{number_of_64_bits}

-- the low half of such a number is the number, and the high half is 0
pub halves_of_64_bits : (n low high : ℕ) → n ≡ high * 2 ^ 64 + low → IfSome (number_of_64_bits n) (λ m. (high ≡ 0) × (low ≡ m))
halves_of_64_bits n low high splits = by_test (nat_lt n (2 ^ 64)) refl
  where
    by_test : (b : Bool) → nat_lt n (2 ^ 64) ≡ b → IfSome (if b then Some n else None) (λ m. (high ≡ 0) × (low ≡ m))
    by_test true below =
        let small = ltb-true n (2 ^ 64) below in
        (omega (arith, small, splits), omega (arith, small, splits))
    by_test false past = tt
