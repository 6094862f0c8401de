use Rattle.std.proofs.Common.{◌≡◌, ◌<◌, ℕ, length, slice_index}
use Rattle.field_base.specs.Powers.{power}
use Rattle.reed_solomon.specs.ByteFields.{byte_times}
use Rattle.error_codes.proofs.code.rising_powers.Given as goal

abbrev pub invariant-loop-m : goal.invariant-loop-m
invariant-loop-m l =
    (l.next ≡ byte_times l.field l.first (power 1 (byte_times l.field) l.base l.m))
    × (length l.powers ≡ 256) × ((n : ℕ) → n < l.m → slice_index l.powers n
    ≡ byte_times l.field l.first (power 1 (byte_times l.field) l.base n))
