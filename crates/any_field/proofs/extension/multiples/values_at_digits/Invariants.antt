use Rattle.std.proofs.Common.{◌≡◌, length}
use Rattle.word_tables.proofs.TabledMaps.{Hold, digit_value}
use Rattle.any_field.proofs.extension.multiples.values_at_digits.Given as goal

-- the places before hold their values
abbrev pub invariant-loop-place : goal.invariant-loop-place
invariant-loop-place l = (length l.values ≡ 512) × Hold (digit_value l.images) l.place l.values
