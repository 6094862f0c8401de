use Rattle.std.proofs.Common.{◌≡◌, ◌<◌, ◌≤◌, ◌+◌, ◌%◌, ◌∙◌, ap, arith, inl, inr, refl, subst, sym}
use Rattle.field_bytes.specs.Streams.{IsWithin}
use Rattle.field_bytes.proofs.Streaming.{nothing_pending}
use Rattle.field_bytes.proofs.Wide.{comes_next, comes_pending, less_left, less_pending, nothing_taken, room_within, word_taken}
use Rattle.field_bytes.proofs.streams.ByteStreamByteSource.take_word.Goals as goal

pub returns-in-Some : goal.returns-in-Some
returns-in-Some g c =
    let s = c.args.self.now in
    let size = g.E.RawDataSerializable.NUM_BYTES in
    let words : size % 8 ≡ 0 = omega (arith, c.if-NUM_BYTES-ne0.false, c.NUM_BYTES.ensures) in
    let whole : s.given % 8 ≡ 0 = omega (arith, c.if-self-eq0.true) in
    let within : s.given < size = subst (λ p. IsWithin size p s.given) c.in-Some.is c.requires.1 in
    let room = room_within size s.given words whole within in
    let eight : g.W.LittleEndian.SIZE ≡ 8 = omega (arith, c.if-SIZE-ne8.false, c.SIZE.ensures) in
    record {
      taken =
          word_taken g.I.Iterator.next_gives size g.E.Represented.repr s c.give_wide.new.self c.in-Some.element s.given s.elements
          (comes_pending g.I.Iterator.next_gives size g.E.Represented.repr s c.in-Some.element c.in-Some.is) room c.give_wide.ensures.source
          c.give_wide.ensures.left c.give_wide.ensures.ended g.W.LittleEndian.SIZE _ eight c.give_wide.ensures.word;
      goes_on = λ _.
          ((λ going. subst g.I.Iterator.can_next (sym c.give_wide.ensures.source) (c.requires.0 (sym c.give_wide.ensures.ended ∙ going))), c.give_wide.ensures.inside);
      ends =
          less_pending g.I.Iterator.next_gives size g.E.Represented.repr g.I.Iterator.remaining s c.give_wide.new.self c.in-Some.element g.W.LittleEndian.SIZE
          eight c.in-Some.is room c.give_wide.ensures.source c.give_wide.ensures.left;
    }

pub returns-in-Some-next : goal.returns-in-Some-next
returns-in-Some-next g c =
    let s = c.args.self.now in
    let size = g.E.RawDataSerializable.NUM_BYTES in
    let words : size % 8 ≡ 0 = omega (arith, c.if-NUM_BYTES-ne0.false, c.NUM_BYTES.ensures) in
    let room : 0 + 8 ≤ size = omega (arith, words, g.met.E.RawDataSerializable.bytes_law) in
    let eight : g.W.LittleEndian.SIZE ≡ 8 = omega (arith, c.if-SIZE-ne8.false, c.SIZE.ensures) in
    let t = c.give_wide-in-Some-next.new.self in
    record {
      taken =
          word_taken g.I.Iterator.next_gives size g.E.Represented.repr s t c.in-Some-next.element 0 c.next.new.self
          (comes_next g.I.Iterator.next_gives size g.E.Represented.repr s c.in-Some-next.element c.next.new.self c.in-None.is c.requires.1 c.if-self.false c.in-Some-next.ensures.steps)
          room c.give_wide-in-Some-next.ensures.source c.give_wide-in-Some-next.ensures.left c.give_wide-in-Some-next.ensures.ended g.W.LittleEndian.SIZE _ eight
          c.give_wide-in-Some-next.ensures.word;
      goes_on =
          λ _.
          ((λ _. subst g.I.Iterator.can_next (sym c.give_wide-in-Some-next.ensures.source) c.in-Some-next.ensures.goes.keeps), c.give_wide-in-Some-next.ensures.inside);
      ends = λ finite.
          let after = c.in-Some-next.ensures.goes.on finite in
          less_left g.I.Iterator.next_gives size g.E.Represented.repr g.I.Iterator.remaining s t c.in-Some-next.element c.next.new.self g.W.LittleEndian.SIZE eight
          room c.give_wide-in-Some-next.ensures.source c.give_wide-in-Some-next.ensures.left after.1 after.2;
    }

pub returns-in-None-next-clause-taken : goal.returns-in-None-next-clause-taken
returns-in-None-next-clause-taken g c =
    let s = c.args.self.now in
    let none = nothing_pending g.E.RawDataSerializable.NUM_BYTES g.E.Represented.repr s.pending s.given c.in-None.is in
    nothing_taken g.I.Iterator.next_gives g.E.RawDataSerializable.NUM_BYTES g.E.Represented.repr s _ g.W.LittleEndian.SIZE _ g.met.W.LittleEndian.wide_law
    (ap g.W.Stored.number c.ZERO-in-None-next.ensures ∙ g.W.Stored.zero_number) (none, none, refl, inr (c.if-self.false, c.in-None-next.ensures.steps))

pub next-requires : goal.next-requires
next-requires g c = c.requires.0 c.if-self.false

pub returns-in-None-clause-taken : goal.returns-in-None-clause-taken
returns-in-None-clause-taken g c =
    let s = c.args.self.now in
    let none = nothing_pending g.E.RawDataSerializable.NUM_BYTES g.E.Represented.repr s.pending s.given c.in-None.is in
    nothing_taken g.I.Iterator.next_gives g.E.RawDataSerializable.NUM_BYTES g.E.Represented.repr s _ g.W.LittleEndian.SIZE _ g.met.W.LittleEndian.wide_law
    (ap g.W.Stored.number c.ZERO.ensures ∙ g.W.Stored.zero_number) (none, none, c.if-self.true, inl (c.if-self.true, refl))
