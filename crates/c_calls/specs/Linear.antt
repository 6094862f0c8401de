-- Calls that write images under a linear map.
use Rattle.std.specs.Prelude.{◌≡◌, ℕ, ◌<◌, List, length, get_or, map}
use Rattle.field_base.specs.LinearMaps.{linear_image}
use Rattle.c_calls.specs.Calls.{CallOf}

-- each word of `ys` is the image of the word of `xs` at its place under the map that takes bit j to image j
abbrev pub AreLinearImages : {W : Type 0} → (W → ℕ) → List W → List W → List W → Type 0
AreLinearImages number images xs ys =
    (k : ℕ) → k < length ys → (d : _) → number (get_or ys k d) ≡ linear_image (map number images) (number (get_or xs k d))

-- a call that writes them, with one image for each of so many bits
abbrev pub MapsLinearly : {W : Type 0} → (W → ℕ) → ℕ → List W → List W → List W → List W → ℕ → Type 0
MapsLinearly number bits images xs old new status =
    CallOf ((length images ≡ bits) × (length xs ≡ length old)) (Unit {0}) (AreLinearImages number images xs new) old new status
