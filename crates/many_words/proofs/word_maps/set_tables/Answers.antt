use Rattle.std.proofs.Common.{◌+◌, ◌*◌, ◌^◌, ◌∙◌, arith, length-set}
use Rattle.field_base.specs.LinearMaps.{linear_image}
use Rattle.field_base.proofs.LinearMapLemmas.{the_linear_map}
use Rattle.many_words.proofs.MapSteps.{entries_read, table_set}
use Rattle.many_words.proofs.word_maps.set_tables.Goals as goal

pub loop-digit-preserved : goal.loop-digit-preserved
loop-digit-preserved g c =
    let long = c.loop-digit.invariant.0 in
    let test = c.loop-digit-test.true in (
      length-set c.loop-digit.tables c.loop-digit.digit c.gather.result ∙ long,
      table_set g.S.Planes.lane (λ n v. linear_image c.args.images.now (v * 2 ^ (0 + 4 * n))) c.loop-digit.tables c.loop-digit.digit
          c.gather.result (omega (arith, long, test))
          (entries_read g.S.Planes.depth g.S.Planes.lanes c.loop-digit.digit c.args.images.now c.sums_of_four-entries.result
          (g.S.Planes.lane c.gather.result) c.requires.depth g.met.S.Entries.sixteen_law c.told-images test c.gather.ensures
          c.sums_of_four-entries.ensures.sums c.sums_of_four-entries.ensures.fit)
          c.loop-digit.invariant.1,
    )

pub returns-clause-tables : goal.returns-clause-tables
returns-clause-tables g c =
    record {
      keeps = (the_linear_map c.args.images.now).of_sum;
      entries =
          λ n v inside below s.
          c.loop-digit.invariant.1 n v (omega (arith, inside, c.loop-digit.invariant.0, c.loop-digit-test.false)) below s;
    }
