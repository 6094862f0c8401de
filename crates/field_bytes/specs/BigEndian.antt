-- Numbers as bytes, the highest byte first.
use Rattle.std.specs.Prelude.{ℕ, List, reverse}
use Rattle.field_bytes.specs.Bytes.{low_bytes}

-- the lowest bytes of a number, as many as `count`, the highest of them first
abbrev pub be_bytes : ℕ → ℕ → List ℕ
be_bytes count n = reverse (low_bytes count n)
