use Rattle.std.proofs.Common.{◌≡◌, ◌+◌, ◌*◌, ◌/◌, ◌%◌, ◌<◌, ◌≤◌, ℕ, length, take, drop, slice_index, sym, ◌∙◌, subst, arith}
use Rattle.std.proofs.lemmas.List.{get_or-take, length-take-le}
use Rattle.field_base.specs.Interpolation.{lagrange}
use Rattle.reed_solomon.specs.ByteFields.{byte_times}
use Rattle.reed_solomon.specs.declared.byte_field.ByteField.TheVariants.{Qr}
use Rattle.reed_solomon.specs.Parity.{parity_factor, tables_length}
use Rattle.reed_solomon.specs.Tables.{HasRow, HaveRows}
use Rattle.reed_solomon.proofs.ParityWords.{parity_row}
use Rattle.reed_solomon.proofs.codec.ReedSolomon.prepare.Goals as goal

pub write_tables-requires-clause-room : goal.write_tables-requires-clause-room
write_tables-requires-clause-room c =
    let k = c.args.self.now.data_shards in
    let m = c.args.self.now.parity_shards in
    let points = c.places_from-points.result in
    subst (λ (n : ℕ). tables_length n (length (take m points)) ≤ length c.args.tables.now) (sym c.of_first-sample.ensures.count)
    (subst (λ (l : ℕ). tables_length k l ≤ length c.args.tables.now) (sym (length-take-le m points (omega (arith, c.args.self.now.few))))
    (omega (arith, c.requires)))

pub write_tables-requires-clause-apart : goal.write_tables-requires-clause-apart
write_tables-requires-clause-apart c = λ j t below within same.
    let m = c.args.self.now.parity_shards in
    let points = c.places_from-points.result in
    let listed = length-take-le m points (omega (arith, c.args.self.now.few)) in
    let inside : t < m = omega (arith, within, listed) in
    let place = c.of_first-sample.ensures.places j (omega (arith, below, c.of_first-sample.ensures.count)) in
    let point = get_or-take m points t 0 inside ∙ c.places_from-points.ensures t inside in
    absurd (omega (arith, same, place, point, below, c.of_first-sample.ensures.count))

-- sums with nothing
none : (t : ℕ) → 0 + t ≡ t
none t = omega arith

further : (k i : ℕ) → k + i ≡ k + 0 + i
further k i = omega arith

pub returns : goal.returns
returns c =
    let k = c.args.self.now.data_shards in
    let m = c.args.self.now.parity_shards in
    let points = c.places_from-points.result in
    let tables = c.write_tables.new.tables in
    let listed = length-take-le m points (omega (arith, c.args.self.now.few)) in
    record {
      long = c.write_tables.ensures.long ∙ c.requires;
      rows = λ t below.
          subst (λ (n : ℕ). HasRow (parity_factor k n) (drop (128 * k * (t / 4)) tables) (t % 4) k) (none t)
          (parity_row k 0 m t (t % 4) c.of_first-sample.result.places points (drop (128 * k * (t / 4)) tables) below
          c.of_first-sample.ensures.places (λ i inside. c.places_from-points.ensures i inside ∙ further k i)
          (subst
          (λ (n : ℕ). HaveRows (λ t j. lagrange 8 (byte_times Qr) (slice_index c.of_first-sample.result.places) n j (slice_index (take m points) t)) n
          (length (take m points)) tables)
          c.of_first-sample.ensures.count c.write_tables.ensures.set t (omega (arith, below, listed))));
    }
