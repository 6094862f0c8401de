use Rattle.std.proofs.Common.{◌≡◌, ◌⊎◌, ◌+◌, ◌*◌, ◌<◌, ◌≤◌, ℕ, slice_index}
use Rattle.field_base.specs.Interpolation.{lagrange}
use Rattle.reed_solomon.specs.ByteFields.{byte_times}
use Rattle.reed_solomon.specs.declared.byte_field.ByteField.TheVariants.{Qr}
use Rattle.reed_solomon.specs.Samples.{symbol_at}
use Rattle.reed_solomon.specs.Tables.{AreWritten, HaveRows}
use Rattle.reed_solomon.proofs.PreparedTables.{rows_before}
use Rattle.reed_solomon.proofs.missing.restore_prepared.Given as goal

abbrev pub invariant-loop-group : goal.invariant-loop-group
invariant-loop-group l =
    ((i : ℕ) → ((t : ℕ) → t < rows_before l.count l.group → (i < slice_index l.targets t * l.size) ⊎ (slice_index l.targets t * l.size + l.size ≤ i))
    → slice_index l.shards i ≡ slice_index l.fn.shards i)
    × (HaveRows (λ t j. lagrange 8 (byte_times Qr) (slice_index l.places) l.k j (slice_index l.targets t)) l.k l.count l.tables
    → AreWritten (λ t column. symbol_at l.k l.size (slice_index l.places) l.fn.shards column (slice_index l.targets t))
    (λ t. slice_index l.targets t * l.size) (rows_before l.count l.group) l.size l.fn.shards l.shards)
