-- What is true of the definitions of Element.antt.
use Rattle.std.specs.Prelude.{◌≡◌, ◌^◌, ◌<◌}
use Rattle.std.specs.declared.cmp.Ord
use Rattle.std.specs.declared.cmp.PartialEq
use Rattle.std.specs.declared.cmp.PartialOrd
use Rattle.std.specs.declared.fmt.Debug
use Rattle.std.specs.declared.hash.Hash
use mathlib.Core.HLevel.{is_prop→PathP}
use native.Mathlib.Bridge.{le_prop}
use Rattle.field_base.specs.declared.kernel.FieldKernel
use Rattle.field_base.specs.declared.word.Stored
use Rattle.field_element.specs.declared.element.Element.{Element}

-- elements that one word stores are one
pub same_word : {R K : Type 0} {w : Stored.Ghosts R} {d : Debug.Ghosts R} {o : Ord.Ghosts R} {e : PartialEq.Ghosts R}
    {p : PartialOrd.Ghosts R} {h : Hash.Ghosts R} {k : FieldKernel.Ghosts K R} → (x y : Element R K w d o e p h k)
    → x.repr ≡ y.repr → x ≡ y
same_word {w = w} {k = k} x y same =
    λ i. record {
      repr = same i;
      field = record {};
      in_range = is_prop→PathP (λ j. w.number (same j) < 2 ^ k.width) (λ j. le_prop) x.in_range y.in_range i;
    }
