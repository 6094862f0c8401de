-- What is true of the definitions of Places.antt.
use Rattle.std.specs.Prelude.{ℕ, ◌^◌, ◌≤◌, refl}
use Rattle.field_base.specs.Tower.{tower_mul}
use Rattle.additive_transforms.specs.Rows.{level_of}
use Rattle.many_words.specs.Places.{IsInPlanes}

-- so it is where the field is that level
pub level_in_planes : (d : ℕ) → 2 ^ level_of d ≤ 128 → IsInPlanes d d (2 ^ level_of d) (tower_mul (level_of d))
level_in_planes d few = record { size_is = refl; width_is = refl; few = few; product_is = λ x y. refl }
