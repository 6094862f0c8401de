use Rattle.std.proofs.Common.{◌≡◌, ℕ, ◌<◌, get_or}
use Rattle.word_tables.specs.LinearMap.{byte_map_of}
use Rattle.c_calls.specs.Fields.{wide_number}
use Rattle.c_calls.proofs.linear.map_wide.Given as goal

abbrev pub invariant-loop-place : goal.invariant-loop-place
invariant-loop-place l =
    (k : ℕ) → k < l.place → (d : _) → wide_number (get_or l.mapped k d) ≡ byte_map_of l.map (wide_number (get_or l.values k d))
