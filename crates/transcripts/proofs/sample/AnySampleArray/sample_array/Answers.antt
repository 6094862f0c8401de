use Rattle.std.proofs.Common.{◌<◌, ◌∙◌, arith, length, sym}
use Rattle.std.proofs.lemmas.List.{length-replicate, length-set}
use Rattle.transcripts.proofs.ListLemmas.{none_in_turn, written_in_turn}
use Rattle.transcripts.proofs.sample.AnySampleArray.sample_array.Goals as goal

pub values-init : goal.values-init
values-init g c = record {
  goes_on = sym c.failed.ensures ∙ c.if-failed.false;
  run = none_in_turn g.C.CanSample.gives c.args.self.now;
  length = length-replicate g.row.N c.default-values.result;
}

pub values-preserved : goal.values-preserved
values-preserved g c =
    let inside : c.values.index < length c.values.values = omega (arith, c.values-test.true, c.values.invariant.length, c.values.auto.index-end) in
    record {
      goes_on = c.in_ok-values.ensures.answer.goes_on;
      run =
          written_in_turn g.C.CanSample.gives c.values.values c.values.index c.in_ok-values.field-0 c.args.self.now c.values.self
          c.sample.new.self inside c.values.invariant.run c.in_ok-values.ensures.ok;
      length = length-set c.values.values c.values.index c.in_ok-values.field-0 ∙ c.values.invariant.length;
    }
