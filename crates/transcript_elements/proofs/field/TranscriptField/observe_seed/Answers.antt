-- The length and the bytes of a seed, one after the other.
use Rattle.std.proofs.Common.{◌∙◌, [], arith, length, refl}
use Rattle.field_bytes.proofs.WordBytes.{eight_bytes}
use Rattle.transcripts.proofs.GuardedLemmas.{on_err}
use Rattle.transcripts.proofs.ListLemmas.{none_in_turn}
use Rattle.transcript_elements.proofs.SeedLemmas.{neither_begins, on_err-with, on_ok-with, seed_is_long, seed_observed, seed_part_of_both, seed_part_of_first}
use Rattle.transcript_elements.proofs.field.TranscriptField.observe_seed.Goals as goal

pub returns-then-failed-clause-err : goal.returns-then-failed-clause-err
returns-then-failed-clause-err g c = (
  [],
  _,
  (_, refl, seed_is_long g.Self.RawDataSerializable.NUM_BYTES c.args.seed.now),
  none_in_turn g.C.CanObserve.observes _,
  g.met.C.CanObserve.may_stay _,
)

pub returns-then-failed-clause-apart : goal.returns-then-failed-clause-apart
returns-then-failed-clause-apart g c other fits differ xs ys of_seed of_other =
    neither_begins g.Self.RawDataSerializable.NUM_BYTES g.Self.Represented.repr c.args.seed.now other xs ys (omega arith) fits differ of_seed of_other

pub returns-in_err-observe_padded-clause-err : goal.returns-in_err-observe_padded-clause-err
returns-in_err-observe_padded-clause-err g c =
    on_err c.from_residual.result
    (seed_part_of_first g.Self.RawDataSerializable.NUM_BYTES g.Self.Represented.repr g.C.CanObserve.observes c.args.seed.now
    c.args.challenger.now g.C.CanObserve.may_leave _ c.observe_padded.new.challenger
    (c.to_le_bytes-header.ensures ∙ eight_bytes (length c.args.seed.now)) c.in_err-observe_padded.ensures.err)

pub returns-in_err-observe_padded-clause-apart : goal.returns-in_err-observe_padded-clause-apart
returns-in_err-observe_padded-clause-apart g c other fits differ xs ys of_seed of_other =
    neither_begins g.Self.RawDataSerializable.NUM_BYTES g.Self.Represented.repr c.args.seed.now other xs ys (omega arith) fits differ of_seed of_other

pub returns-clause-ok : goal.returns-clause-ok
returns-clause-ok g c =
    on_ok-with c.observe_padded-2.result
    (seed_observed g.Self.RawDataSerializable.NUM_BYTES g.Self.Represented.repr g.C.CanObserve.observes c.args.seed.now
    c.args.challenger.now _ c.observe_padded.new.challenger
    c.observe_padded-2.new.challenger (c.to_le_bytes-header.ensures ∙ eight_bytes (length c.args.seed.now))
    c.in_ok-observe_padded.ensures.ok)
    c.observe_padded-2.ensures.ok

pub returns-clause-err : goal.returns-clause-err
returns-clause-err g c =
    on_err-with c.observe_padded-2.result
    (seed_part_of_both g.Self.RawDataSerializable.NUM_BYTES g.Self.Represented.repr g.C.CanObserve.observes c.args.seed.now
    c.args.challenger.now g.C.CanObserve.may_leave _ c.observe_padded.new.challenger
    c.observe_padded-2.new.challenger (c.to_le_bytes-header.ensures ∙ eight_bytes (length c.args.seed.now))
    c.in_ok-observe_padded.ensures.ok)
    c.observe_padded-2.ensures.err

pub returns-clause-apart : goal.returns-clause-apart
returns-clause-apart g c other fits differ xs ys of_seed of_other =
    neither_begins g.Self.RawDataSerializable.NUM_BYTES g.Self.Represented.repr c.args.seed.now other xs ys (omega arith) fits differ of_seed of_other
