use Rattle.std.proofs.Common.{arith}
use Rattle.std.proofs.lemmas.Bool.{false≢true}
use Rattle.shard_files.proofs.Scanned.{enough_read}
use Rattle.shard_files.proofs.scan.Scan.has_enough.Goals as goal

pub returns-then-place-len : goal.returns-then-place-len
returns-then-place-len c =
    let seen = c.args.self.now.seen in
    enough_read seen.items c.args.place c.index.result.now (omega (arith, c.if-place-len.true, c.len.ensures, seen.ok.0)) c.index.ensures
    c.has_enough.ensures

pub returns-else-place-len : goal.returns-else-place-len
returns-else-place-len c =
    let seen = c.args.self.now.seen in (
      λ is. absurd (false≢true is),
      λ has. absurd (omega (arith, has.inside, c.if-place-len.false, c.len.ensures, seen.ok.0)),
    )
