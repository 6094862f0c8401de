use Rattle.std.proofs.Common.{◌≡◌, ℕ, length, subst, arith}
use Rattle.shard_files.specs.Scans.{IsChoice}
use Rattle.shard_files.proofs.scan.Scan.choice.Goals as goal

pub loop-place-init : goal.loop-place-init
loop-place-init c = λ place is. absurd (omega (arith, is.early))

pub loop-place-preserved : goal.loop-place-preserved
loop-place-preserved c = c.after-choice.ensures c.args.wanted.now c.is_set.ensures c.loop-place.invariant

pub returns : goal.returns
returns c =
    let seen = c.args.self.now.seen.items in
    let all : c.loop-place.place ≡ length seen = omega (arith, c.loop-place-test.false, c.loop-place.auto.place-end) in
    subst (λ (n : ℕ). IsChoice seen c.args.wanted.now n c.loop-place.choice) all c.loop-place.invariant
