use Rattle.std.proofs.Common.{◌∷◌, [], ◌∙◌, ap, arith, length, sym}
use Rattle.std.proofs.lemmas.List.{length-append}
use Rattle.transcripts.proofs.ListLemmas.{empty_in_turn, grown_in_turn}
use Rattle.transcripts.proofs.sample.CanSample.sample_vec.Goals as goal

pub values-init : goal.values-init
values-init g c = record {
  goes_on = sym c.failed.ensures ∙ c.if-failed.false;
  run = empty_in_turn g.Self.CanSample.gives c.in_ok-values.values.items c.args.self.now c.in_ok-values.ensures.items;
  count = ap length c.in_ok-values.ensures.items;
  len = c.in_ok-values.ensures.len;
  room = omega (arith, c.in_ok-values.ensures.exact);
}

pub values-preserved : goal.values-preserved
values-preserved g c =
    let more = length-append c.values.values.items (c.in_ok-sample.field-0 ∷ []) in
    record {
      goes_on = c.in_ok-sample.ensures.answer.goes_on;
      run =
          grown_in_turn g.Self.CanSample.gives c.values.values.items c.push_reserved.new.self.items c.in_ok-sample.field-0
          c.args.self.now c.values.self c.sample.new.self c.push_reserved.ensures.items c.values.invariant.run
          c.in_ok-sample.ensures.ok;
      count = ap length c.push_reserved.ensures.items ∙ omega (arith, more, c.values.invariant.count);
      len = omega (arith, c.push_reserved.ensures.len, c.values.invariant.len);
      room = omega (arith, c.push_reserved.ensures.capacity, c.values.invariant.room);
    }
