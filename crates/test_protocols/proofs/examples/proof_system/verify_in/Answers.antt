use Rattle.std.proofs.Common.{◌≡◌, ◌<◌, ℕ, List, get_or, length, map, sym, ◌∙◌, ap, arith}
use Rattle.std.specs.Prelude.{slice_index}
use Rattle.std.proofs.lemmas.Bool.{true≢false}
use Rattle.field_base.proofs.Places.{number-at}
use Rattle.test_protocols.proofs.examples.proof_system.verify_in.Goals as goal

pub verify_tables-requires-clause-coordinates : goal.verify_tables-requires-clause-coordinates
verify_tables-requires-clause-coordinates g c = ap length c.as_slice-point.ensures.value ∙ c.in_ok-left.ensures.point

pub returns-then-len-ne3 : goal.returns-then-len-ne3
returns-then-len-ne3 g c =
    let messages = c.as_slice-messages.ensures.value in
    let point = c.as_slice-point.ensures.value in
    let verdict = rw point at c.in_ok-opens.ensures.verdict in
    record {
      count = rw messages at c.in_ok-left.ensures.length;
      start = c.in_ok-left.left.start.items;
      point = c.in_ok-left.left.sum.point.items;
      between = c.verify_zero.new.challenger;
      run = rw messages at c.in_ok-left.ensures.run;
      opens = c.in_ok-opens.opens;
      opened = verdict;
      decided = (λ e. absurd (true≢false (sym e)), λ each. absurd (let long = (verdict.decided.0 each.0).1.values in omega (arith, long, c.if-len-ne3.true)));
    }

pub returns : goal.returns
returns g c =
    let repr = g.F.Represented.repr in
    let messages = c.as_slice-messages.ensures.value in
    let point = c.as_slice-point.ensures.value in
    let left = c.in_ok-left.ensures in
    let values = c.as_slice-values.ensures.value in
    let sent = c.args.proof.now.opened.values.items in
    let at : (i : ℕ) (x : _) → i < length c.as_slice-values.result.now → x ≡ get_or c.as_slice-values.result.now i x
    → repr x ≡ slice_index (map repr sent) i =
    λ i x below is. sym (number-at repr c.as_slice-values.result.now i x below is) ∙ ap (λ (l : List _). slice_index (map repr l) i) values in
    let three : length c.as_slice-values.result.now ≡ 3 = ap length values ∙ omega (arith, c.if-len-ne3.false) in
    let a = at 0 c.index-values-0.result (omega (arith, three)) c.index-values-0.is in
    let b = at 1 c.index-values-1.result (omega (arith, three)) c.index-values-1.is in
    let third = at 2 c.index-values-2.result (omega (arith, three)) c.index-values-2.is in
    let claim = rw messages at left.claim in
    let weight = left.weight in
    let met = rw (claim, weight, a, b, third) at c.is_met-met.ensures in
    let both = c.both_hold.ensures in
    record {
      count = rw messages at left.length;
      start = c.in_ok-left.left.start.items;
      point = c.in_ok-left.left.sum.point.items;
      between = c.verify_zero.new.challenger;
      run = rw messages at left.run;
      opens = c.in_ok-opens.opens;
      opened = rw point at c.in_ok-opens.ensures.verdict;
      decided = ((λ holds. let each = both.0 holds in (each.0, met.0 each.1)), λ each. both.1 (each.0, met.1 each.1));
    }
