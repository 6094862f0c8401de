use Rattle.std.proofs.Common.{◌≡◌, ◌∙◌, ℕ, ap, OnErr, subst, take}
use Rattle.field_bytes.specs.Bytes.{low_bytes}
use Rattle.transcripts.specs.ByteCalls.{IsPartlyRun, observing}
use Rattle.transcript_elements.specs.Challengers.{state_of}
use Rattle.transcript_elements.proofs.challenger.BinaryChallenger.observe_element.Goals as goal

pub returns-clause-err : goal.returns-clause-err
returns-clause-err g c goes_on =
    let bytes : take c.NUM_BYTES.result c.low_first-bytes.result ≡ low_bytes g.F.RawDataSerializable.NUM_BYTES (g.F.Represented.repr c.args.value) =
    ap (λ (k : ℕ). take k c.low_first-bytes.result) c.NUM_BYTES.ensures ∙ c.low_first-bytes.ensures in
    subst
    (λ observed. OnErr c.observe_bytes.result
    (IsPartlyRun g.Inner.ByteChallenger.transitions g.Inner.ByteChallenger.state g.Inner.ByteChallenger.may_leave (observing observed)
    (state_of c.args.self.now) c.observe_bytes.new.self.inner)) bytes (c.observe_bytes.ensures.err goes_on)
