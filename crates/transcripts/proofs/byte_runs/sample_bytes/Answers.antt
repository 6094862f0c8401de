-- The loop of the bytes that are sampled.
use Rattle.std.proofs.Common.{◌<◌, length, refl, ◌∙◌, sym, arith, rules}
use Rattle.std.proofs.lemmas.List.{take_more_set}
use Rattle.transcripts.proofs.Runs.{after_none, byte_sampled_next, sampled_next, sampling_is_partly_run, squeezed_none}
use Rattle.transcripts.proofs.byte_runs.sample_bytes.Goals as goal

pub bytes-init : goal.bytes-init
bytes-init g c = record {
  run = sym (after_none _ _);
  bytes = sym (squeezed_none _ _);
  kept = refl;
}

pub bytes-preserved : goal.bytes-preserved
bytes-preserved g c = record {
  run = sampled_next _ c.bytes.index _ _ _ _ c.bytes.invariant.run c.in_ok-bytes.ensures.ok;
  bytes =
      let inside : c.bytes.index < length c.bytes.bytes = omega (arith, c.bytes-test.true, c.bytes.auto.bytes) in
      take_more_set c.bytes.bytes c.bytes.index c.in_ok-bytes.field-0 inside
      ∙ byte_sampled_next _ c.bytes.index _ _ _ _ _ c.bytes.invariant.run c.bytes.invariant.bytes c.in_ok-bytes.ensures.ok;
  kept = c.in_ok-bytes.ensures.kept ∙ c.bytes.invariant.kept;
}

pub returns-in_err-bytes-clause-err : goal.returns-in_err-bytes-clause-err
returns-in_err-bytes-clause-err g c =
    let partly =
    sampling_is_partly_run g.C.ByteChallenger.transitions g.C.ByteChallenger.state g.C.ByteChallenger.may_leave c.bytes.index
    (length c.args.bytes.now) _ _ _ c.bytes-test.true c.bytes.invariant.run c.in_err-bytes.ensures.err in
    search (rules, partly)
