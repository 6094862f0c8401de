-- A loop that writes to each place of a list what a function makes of the numbers that this list and another one had there.
use Rattle.std.proofs.Common.{◌≡◌, ℕ, ◌+◌, ◌<◌, ◌≤◌, List, get_or, length, map, set, ◌∙◌, arith}
use Rattle.std.specs.Simd.Lanes.{zip2}
use Rattle.field_base.proofs.Written.{WrittenTo, written_start, written_step, written-read, written-end, both-at, both-length}

module _ {V : Type 0} (number : V → ℕ) (f : ℕ → ℕ → ℕ) (old others : List V) where
  -- the places before n are done
  abbrev pub BothWritten : List V → ℕ → Type 0
  BothWritten = WrittenTo number (zip2 f (map number old) (map number others)) old

  pub both_start : BothWritten old 0
  both_start = written_start number (zip2 f (map number old) (map number others)) old old

  module _ (now : List V) (n : ℕ) (same : length now ≡ length old) (long : length others ≡ length old) (so_far : BothWritten now n) where
    pub both_step : (x y value : V) → n < length old → x ≡ get_or now n x → y ≡ get_or others n y → number value ≡ f (number x) (number y)
        → BothWritten (set now n value) (n + 1)
    both_step x y value within read other_read is =
        let wanted = zip2 f (map number old) (map number others) in
        let inside : n < length now = omega (arith, within, same) in
        written_step number wanted old now n value inside
        (is
        ∙ both-at number number f old others n (number x) y within (omega (arith, within, long))
        (written-read number wanted old now n x inside read so_far) other_read) so_far

    pub both_end : length old ≤ n → map number now ≡ zip2 f (map number old) (map number others)
    both_end past =
        written-end number (zip2 f (map number old) (map number others)) old now n same (both-length number number f old others long) past
        so_far
