use Rattle.std.proofs.Common.{map}
use Rattle.ghash_slices.proofs.LowRuns.{four_stages}
use Rattle.ghash_slices.proofs.low_stages.transform_run.Goals as goal

pub returns-clause-run : goal.returns-clause-run
returns-clause-run g c =
    let value = g.W.Reads.number in
    four_stages c.args.twiddles.now c.args.low.now c.args.start (map value c.args.values.now) (map value c.run_stage.new.values)
    (map value c.run_stage-2.new.values) (map value c.run_stage-3.new.values) (map value c.run_stage-4.new.values)
    c.numbers_fit.ensures
    c.run_stage.ensures.run c.run_stage-2.ensures.run c.run_stage-3.ensures.run c.run_stage-4.ensures.run
