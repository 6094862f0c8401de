-- Elements as numbers.
use Rattle.std.specs.Prelude.{◌≡◌, ℕ, ◌^◌, ◌<◌, Option, None, Some, if◌then◌else◌, nat_lt}
use Rattle.std.specs.declared.cmp.Ord
use Rattle.std.specs.declared.cmp.PartialEq
use Rattle.std.specs.declared.cmp.PartialOrd
use Rattle.std.specs.declared.fmt.Debug
use Rattle.std.specs.declared.hash.Hash
use mathlib.Core.HLevel.{is_prop→PathP}
use native.Mathlib.Bridge.{le_prop}
use Rattle.field_base.specs.declared.kernel.FieldKernel
use Rattle.field_base.specs.declared.word.Stored
use Rattle.field_element.specs.declared.element.Element.{Element}

-- the representation of an element of any field, as a number: the number of the word that stores it
abbrev pub repr_of : {R K : Type 0} {w : Stored.Ghosts R} {d : Debug.Ghosts R} {o : Ord.Ghosts R} {e : PartialEq.Ghosts R}
    {p : PartialOrd.Ghosts R} {h : Hash.Ghosts R} {k : FieldKernel.Ghosts K R} → Element R K w d o e p h k → ℕ
repr_of {w = w} x = w.number x.repr

-- the number, where it has 64 bits at most
abbrev pub number_of_64_bits : ℕ → Option ℕ
number_of_64_bits n = if nat_lt n (2 ^ 64) then Some n else None
