-- What is true of the definitions of Bit.antt.
use Rattle.std.specs.Prelude.{◌≡◌, ◌*◌, ◌<◌}
use Rattle.std.proofs.Common.{ap, sym, ◌∙◌}
use native.Mathlib.Nat.{mul-one}
use mathlib.Core.HLevel.{is_prop→PathP}
use native.Mathlib.Bridge.{le_prop}
use Rattle.field_base.specs.declared.gf2.Gf2.{Gf2}
use Rattle.field_base.specs.Bit.{bit_number}

-- elements of one representation are one
pub same_repr : (x y : Gf2) → bit_number x ≡ bit_number y → x ≡ y
same_repr x y e = λ i. record { repr = e i; in_range = is_prop→PathP (λ j. e j < 2) (λ j. le_prop) x.in_range y.in_range i }

-- the one times the representation of an element is that of the element
pub same_bit : (x r : Gf2) → r ≡ x → bit_number r ≡ bit_number x * 1
same_bit x r e = ap bit_number e ∙ sym (mul-one (bit_number x))
