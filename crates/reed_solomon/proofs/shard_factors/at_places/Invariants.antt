use Rattle.std.proofs.Common.{◌≡◌, ◌≢◌, ◌<◌, ℕ, length, slice_index}
use Rattle.field_base.specs.Basis.{sum_below}
use Rattle.reed_solomon.specs.ByteFields.{byte_times}
use Rattle.reed_solomon.specs.declared.byte_field.ByteField.TheVariants.{Qr}
use Rattle.reed_solomon.proofs.shard_factors.at_places.Given as goal

abbrev pub invariant-loop-j : goal.invariant-loop-j
invariant-loop-j l =
    (length l.placed ≡ 256)
    × ((i : ℕ) → ((j : ℕ) → j < l.j → slice_index l.sample.places j ≢ i) → slice_index l.placed i ≡ 0)
    × ((total : ℕ) (symbol : ℕ → ℕ) → ((j : ℕ) → j < l.j → slice_index l.sample.places j < total)
    → sum_below (λ i. byte_times Qr (slice_index l.placed i) (symbol i)) total
    ≡ sum_below (λ j. byte_times Qr (slice_index l.factors j) (symbol (slice_index l.sample.places j))) l.j)
