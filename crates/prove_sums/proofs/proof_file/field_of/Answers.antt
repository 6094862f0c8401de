use Rattle.std.proofs.Common.{rules, ◌≢◌, take}
use Rattle.prove_sums.specs.ProofFiles.{head}
use Rattle.prove_sums.proofs.Files.{headless}
use Rattle.prove_sums.proofs.proof_file.field_of.Goals as goal

pub returns-then-ne-clause-reason : goal.returns-then-ne-clause-reason
returns-then-ne-clause-reason c =
    let bytes = c.args.bytes.now in
    let other : take 8 bytes ≢ head c.in-Some.field = search rules in
    c.other_head-then-ne.ensures c.requires (headless bytes c.in-Some.field c.in-Some.ensures.named other)
