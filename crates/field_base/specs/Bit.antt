-- The elements of the field of two elements, as numbers.
use Rattle.std.specs.Prelude.{◌≡◌, ℕ, ◌*◌, ◌<◌}
use Rattle.std.proofs.Common.{ap, sym, ◌∙◌}
use native.Mathlib.Nat.{mul-one}
use mathlib.Core.HLevel.{is_prop→PathP}
use native.Mathlib.Bridge.{le_prop}
use Rattle.field_base.specs.declared.gf2.Gf2.{Gf2}

-- the representation of an element: 0 or 1
abbrev pub bit_number : Gf2 → ℕ
bit_number x = x.repr
