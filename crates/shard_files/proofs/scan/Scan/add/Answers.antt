use Rattle.std.proofs.Common.{[], ◌∷◌, ◌++◌, Vec, sym, ◌∙◌, ap, subst}
use Rattle.std.specs.declared.alloc.Global.{Global}
use Rattle.std.proofs.lemmas.Result.{on_ok_weaker}
use Rattle.shard_files.specs.Scans.{IsFinding}
use Rattle.shard_files.specs.declared.scan.Finding.{Finding}
use Rattle.shard_files.specs.declared.scan.Seen.{Seen}
use Rattle.shard_files.proofs.scan.Scan.add.Goals as goal

pub returns-in_ok-finding-in-Some-clause-read : goal.returns-in_ok-finding-in-Some-clause-read
returns-in_ok-finding-in-Some-clause-read c =
    let finding = c.in_ok-finding-in-Some.finding in
    rw c.in-Some.is
    (on_ok_weaker c.note.result
    (λ noted. (
      finding,
      subst (λ (v : Vec Seen Global). IsFinding v.items c.in-Some.bytes.now finding) (sym c.note.ensures.seen) c.in_ok-finding-in-Some.ensures.found,
      noted ∙ ap (λ (v : Vec Finding Global). v.items ++ finding ∷ []) c.in_ok-finding-in-Some.ensures.findings,
    ))
    c.note.ensures.noted)
