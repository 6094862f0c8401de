use Rattle.std.proofs.Common.{◌≡◌, ◌++◌, ◌∷◌, [], ◌∙◌, ◌+◌, drop, inr, rules, subst, sym, take}
use Rattle.transcripts.specs.ByteCalls.{IsPartlyRun}
use Rattle.transcript_elements.specs.Calls.{byte_calls, call_sayings, AppendsSayings, StopsAtCall}
use Rattle.transcript_elements.specs.Challengers.{inner_of, state_of}
use Rattle.transcript_elements.proofs.CallLists.{call_apart, called_next, has_room, nothing_called, nothing_replied, replied_next, room_left}
use Rattle.transcripts.proofs.GuardedLemmas.{on_err}
use Rattle.transcript_elements.proofs.calls.run_calls.Goals as goal

pub calls-init : goal.calls-init
calls-init g c = record {
  goes_on = sym c.failed.ensures ∙ c.if-failed.false;
  run =
      nothing_called g.F.RawDataSerializable.NUM_BYTES g.F.Represented.width g.F.Represented.repr g.Inner.ByteChallenger.transitions _;
  replied =
      nothing_replied g.F.RawDataSerializable.NUM_BYTES g.F.Represented.width g.F.Represented.repr g.Inner.ByteChallenger.transitions _ _;
  room = search rules;
}

-- the calls before the index have their replies, and the byte challenger stopped within the call at the index
pub returns-in_err-reply-clause-err : goal.returns-in_err-reply-clause-err
returns-in_err-reply-clause-err g c goes_on =
    let size = g.F.RawDataSerializable.NUM_BYTES in
    let call = c.index-calls-index.result in
    let apart =
    call_apart size g.F.Represented.width g.F.Represented.repr g.Inner.ByteChallenger.transitions c.args.calls.now c.calls.index call call
    c.calls-test.true c.index-calls-index.is in
    let within =
    subst
    (λ state.
    IsPartlyRun g.Inner.ByteChallenger.transitions g.Inner.ByteChallenger.state g.Inner.ByteChallenger.may_leave
    (byte_calls size g.F.Represented.repr call) state (inner_of c.reply_to.new.self))
    c.calls.invariant.run (c.in_err-reply.ensures.err c.calls.invariant.goes_on) in
    let same : c.reserve.new.self.items ≡ c.args.replies.now.items = c.reserve.ensures.items in
    let replied =
    subst
    (λ items. AppendsSayings g.F.Represented.repr
    (call_sayings size g.F.Represented.width g.F.Represented.repr g.Inner.ByteChallenger.transitions
    (take c.calls.index c.args.calls.now) (state_of c.args.challenger.now)) items c.calls.replies.items) same c.calls.invariant.replied in
    let stops : StopsAtCall size g.F.Represented.width g.F.Represented.repr c.args.calls.now c.args.challenger.now c.reply_to.new.self
    c.args.replies.now c.calls.replies = (
      take c.calls.index c.args.calls.now,
      call,
      drop (c.calls.index + 1) c.args.calls.now,
      apart,
      replied,
      within,
      (c.in_err-reply.ensures.answer.memory c.calls.invariant.goes_on).1,
    ) in
    on_err c.from_residual.result (inr stops)

pub push_reserved-requires : goal.push_reserved-requires
push_reserved-requires g c = has_room c.calls-test.true c.calls.invariant.room

pub calls-preserved : goal.calls-preserved
calls-preserved g c =
    let call = c.index-calls-index.result in
    let old = state_of c.args.challenger.now in
    let now = state_of c.calls.challenger in
    let next = state_of c.reply_to.new.self in
    let pushed : c.calls.replies.items ++ c.in_ok-reply.reply ∷ [] ≡ c.push_reserved.new.self.items = sym c.push_reserved.ensures.items in
    record {
      goes_on = c.in_ok-reply.ensures.answer.goes_on;
      run =
          called_next g.F.RawDataSerializable.NUM_BYTES g.F.Represented.width g.F.Represented.repr g.Inner.ByteChallenger.transitions
          c.args.calls.now c.calls.index call call old now next c.calls-test.true c.index-calls-index.is
          c.calls.invariant.run c.in_ok-reply.ensures.state;
      replied =
          subst
          (λ items. AppendsSayings g.F.Represented.repr
          (call_sayings g.F.RawDataSerializable.NUM_BYTES g.F.Represented.width g.F.Represented.repr g.Inner.ByteChallenger.transitions
          (take (c.calls.index + 1) c.args.calls.now) old) c.reserve.new.self.items items) pushed
          (replied_next g.F.RawDataSerializable.NUM_BYTES g.F.Represented.width g.F.Represented.repr g.Inner.ByteChallenger.transitions
          c.args.calls.now c.calls.index call call c.in_ok-reply.reply old now c.reserve.new.self.items
          c.calls.replies.items c.calls-test.true c.index-calls-index.is c.calls.invariant.run c.in_ok-reply.ensures.reply
          c.calls.invariant.replied);
      room = room_left _ c.calls-test.true c.push_reserved.ensures.len c.push_reserved.ensures.capacity c.calls.invariant.room;
    }
