-- The loop of the bytes that are observed.
use Rattle.std.proofs.Common.{refl, ◌∙◌, sym}
use Rattle.transcripts.proofs.Runs.{after_none, observed_next}
use Rattle.transcripts.proofs.byte_runs.observe_bytes.Goals as goal

pub bytes-init : goal.bytes-init
bytes-init g c = record { run = sym (after_none _ _); kept = refl }

pub bytes-preserved : goal.bytes-preserved
bytes-preserved g c = record {
  run = observed_next _ c.args.bytes.now c.bytes.index _ _ _ c.bytes-test.true c.bytes.invariant.run c.in_ok-observe_byte.ensures.ok;
  kept = c.in_ok-observe_byte.ensures.kept ∙ c.bytes.invariant.kept;
}
