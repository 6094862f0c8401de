use Rattle.std.proofs.Common.{◌<◌, length, Some, sym, ◌∙◌, ap, arith}
use Rattle.shard_files.specs.declared.layout.Layout.{Layout}
use Rattle.shard_files.proofs.Scanned.{origin_read, origin_set}
use Rattle.shard_files.proofs.scan.Scan.mark.Goals as goal

pub returns-then-set_flag-clause-same : goal.returns-then-set_flag-clause-same
returns-then-set_flag-clause-same c =
    let seen = c.args.self.now.seen in
    let place = c.args.place in
    let below : place < length seen.items = omega (arith, c.if-place-len.true, c.len.ensures, seen.ok.0) in
    origin_set seen.items place c.count_one.new.seen below
    (ap (λ (l : Layout). Some l.origin) c.count_one.ensures
    ∙ sym (origin_read seen.items place c.index_mut.result.now below c.index_mut.ensures.value))
