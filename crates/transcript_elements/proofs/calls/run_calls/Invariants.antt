use Rattle.std.proofs.Common.{◌≡◌, ◌≤◌, ◌+◌, ◌-◌, false, length, take, vec_capacity, vec_len}
use Rattle.transcript_elements.specs.Calls.{AppendsReplies, joined_calls}
use Rattle.transcript_elements.specs.Challengers.{challenger_failed, state_after, state_of}
use Rattle.transcript_elements.proofs.calls.run_calls.Given as goal

-- the calls before the index were made and have their replies, there is room for the others', and nothing has failed
abbrev pub invariant-calls : goal.invariant-calls
invariant-calls g l = record {
  goes_on : challenger_failed l.challenger ≡ false;
  run : state_of l.challenger
      ≡ state_after (joined_calls g.F.RawDataSerializable.NUM_BYTES g.F.Represented.repr (take l.index l.calls)) l.initial.challenger;
  replied : AppendsReplies g.F.RawDataSerializable.NUM_BYTES g.F.Represented.width g.F.Represented.repr (take l.index l.calls)
      l.initial.challenger l.initial.replies l.replies;
  room : vec_len l.replies + (length l.calls - l.index) ≤ vec_capacity l.replies;
}
