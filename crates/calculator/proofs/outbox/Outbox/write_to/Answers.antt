-- Each write takes a front of the rest.
use Rattle.std.proofs.Common.{arith, rules, length-drop, length-take}
use Rattle.std.proofs.lemmas.List.{drop-drop}
use Rattle.calculator.specs.Outbox.{waiting}
use Rattle.calculator.proofs.ProgressLemmas.{TakesFront-take, take-drop}
use Rattle.calculator.proofs.outbox.Outbox.write_to.Goals as goal

pub loop-taken-preserved : goal.loop-taken-preserved
loop-taken-preserved g c =
    let all = waiting c.args.self.now in
    let part = take-drop c.loop-taken.taken c.args.self.now.len c.args.self.now.bytes (omega arith) in
    let more = TakesFront-take c.in-Ok.count c.loop-taken.invariant.takes (rw part at c.in-Ok.ensures.bytes) in
    let bound = rw part at c.in-Ok.ensures.bound in
    record {
      within = omega (arith, bound, length-drop c.loop-taken.taken all, length-take c.args.self.now.len c.args.self.now.bytes);
      takes = rw (← drop-drop c.in-Ok.count c.loop-taken.taken all) more;
      passed = search rules;
    }
