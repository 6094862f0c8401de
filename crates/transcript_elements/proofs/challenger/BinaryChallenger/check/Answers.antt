use Rattle.std.proofs.Common.{rules}
use Rattle.transcript_elements.specs.Challengers.{inner_of, state_of}
use Rattle.transcript_elements.proofs.Checks.{nothing_checked, passes_checked, state_checked, stops_observing, stops_sampling}
use Rattle.transcript_elements.proofs.challenger.BinaryChallenger.check.Goals as goal

pub returns-then-bits-eq0-clause-state : goal.returns-then-bits-eq0-clause-state
returns-then-bits-eq0-clause-state g c =
    nothing_checked _ g.F.RawDataSerializable.NUM_BYTES c.args.bits (g.F.Represented.repr c.args.witness) _ c.if-bits-eq0.true

pub returns-clause-passed : goal.returns-clause-passed
returns-clause-passed g c =
    passes_checked g.Inner.ByteChallenger.transitions g.F.RawDataSerializable.NUM_BYTES c.args.bits
    (g.F.Represented.repr c.args.witness) _ _ _ c.if-bits-eq0.false c.in_ok-observe_element.ensures.state c.in_ok-sample_low_bits.ensures.ok.1

pub returns-clause-state : goal.returns-clause-state
returns-clause-state g c =
    state_checked g.Inner.ByteChallenger.transitions g.F.RawDataSerializable.NUM_BYTES c.args.bits
    (g.F.Represented.repr c.args.witness) _ _ _ c.if-bits-eq0.false c.in_ok-observe_element.ensures.state c.in_ok-sample_low_bits.ensures.ok.0

pub returns-in_err-observe_element-clause-err : goal.returns-in_err-observe_element-clause-err
returns-in_err-observe_element-clause-err g c goes_on =
    let partly =
    stops_observing g.Inner.ByteChallenger.transitions g.F.RawDataSerializable.NUM_BYTES g.Inner.ByteChallenger.state
    g.Inner.ByteChallenger.may_leave c.args.bits (g.F.Represented.repr c.args.witness) (state_of c.args.self.now)
    (inner_of c.observe_element.new.self) c.if-bits-eq0.false (c.in_err-observe_element.ensures.err goes_on) in
    search (rules, partly)

pub returns-in_err-sample_low_bits-clause-err : goal.returns-in_err-sample_low_bits-clause-err
returns-in_err-sample_low_bits-clause-err g c goes_on =
    let partly =
    stops_sampling g.Inner.ByteChallenger.transitions g.F.RawDataSerializable.NUM_BYTES g.Inner.ByteChallenger.state
    g.Inner.ByteChallenger.may_leave c.args.bits (g.F.Represented.repr c.args.witness) (state_of c.args.self.now)
    (state_of c.observe_element.new.self) (inner_of c.sample_low_bits.new.self) c.if-bits-eq0.false
    c.in_ok-observe_element.ensures.state (c.in_err-sample_low_bits.ensures.err c.in_ok-observe_element.ensures.answer.goes_on) in
    search (rules, partly)
