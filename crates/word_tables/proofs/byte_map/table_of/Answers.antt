use Rattle.std.proofs.Common.{◌<◌, length, arith, rules}
use Rattle.word_tables.proofs.TabledMaps.{byte_of_digits, byte_value, entry_set, made_table}
use Rattle.word_tables.proofs.byte_map.table_of.Goals as goal

pub loop-place-preserved : goal.loop-place-preserved
loop-place-preserved c =
    let within : c.loop-place.place < length c.loop-place.table = omega (arith, c.loop-place.invariant.0) in (
      search (rules, c.loop-place.invariant.0),
      entry_set (byte_value c.args.images.now) c.loop-place.table c.loop-place.place _ within
          (byte_of_digits c.args.images.now c.values_at_digits-values.result c.values_at_digits-values.ensures c.loop-place.place (omega arith))
          c.loop-place.invariant.1,
    )

pub returns : goal.returns
returns c =
    made_table c.args.images.now c.loop-place.table (omega (arith, c.told-images))
    (λ p below. c.loop-place.invariant.1 p (omega arith))
