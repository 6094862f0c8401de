use Rattle.std.proofs.Common.{◌∙◌, inr, refl, subst, sym}
use Rattle.field_bytes.specs.declared.streams.ByteStream.{ByteStream}
use Rattle.field_bytes.proofs.Progress.{element_begun, element_continued}
use Rattle.field_bytes.proofs.Streaming.{element_begun_before, element_taken, nothing_pending}
use Rattle.field_bytes.proofs.streams.ByteStreamIterator.next.Goals as goal

pub returns-in-Some-clause-steps : goal.returns-in-Some-clause-steps
returns-in-Some-clause-steps g c =
    element_begun_before g.I.Iterator.next_gives g.E.RawDataSerializable.NUM_BYTES g.E.Represented.repr c.args.self.now c.give.new.self c.in-Some.element _
    c.in-Some.is c.give.ensures.source c.give.ensures.left c.give.ensures.ended

pub returns-in-Some-next-clause-steps : goal.returns-in-Some-next-clause-steps
returns-in-Some-next-clause-steps g c =
    element_taken g.I.Iterator.next_gives g.E.RawDataSerializable.NUM_BYTES g.E.Represented.repr c.args.self.now c.give-in-Some-next.new.self
    c.next.new.self c.in-Some-next.element _ c.in-None.is c.requires.1 c.if-self.false c.in-Some-next.ensures.steps c.give-in-Some-next.ensures.source
    c.give-in-Some-next.ensures.left c.give-in-Some-next.ensures.ended

pub returns-in-Some-next-clause-goes : goal.returns-in-Some-next-clause-goes
returns-in-Some-next-clause-goes g c =
    element_begun {T = ByteStream g.row.I.Denot g.row.E.Denot} g.E.RawDataSerializable.NUM_BYTES g.E.Represented.repr (λ s. s.elements) (λ s. s.pending)
    (λ s. s.given) _ _ c.in-Some-next.element _ c.in-Some-next.ensures.goes c.give-in-Some-next.ensures.source
    (λ can. ((λ _. can), c.give-in-Some-next.ensures.within)) c.requires.1 c.in-None.is c.give-in-Some-next.ensures.left

pub returns-in-None-next-clause-steps : goal.returns-in-None-next-clause-steps
returns-in-None-next-clause-steps g c =
    let none = nothing_pending g.E.RawDataSerializable.NUM_BYTES g.E.Represented.repr c.args.self.now.pending c.args.self.now.given c.in-None.is in
    (none, none, refl, inr (c.if-self.false, c.in-None-next.ensures.steps))

pub next-requires : goal.next-requires
next-requires g c = c.requires.0 c.if-self.false

pub returns-in-Some-clause-goes : goal.returns-in-Some-clause-goes
returns-in-Some-clause-goes g c =
    element_continued {T = ByteStream g.row.I.Denot g.row.E.Denot} g.I.Iterator.remaining g.E.RawDataSerializable.NUM_BYTES g.E.Represented.repr (λ s. s.elements) (λ s. s.pending)
    (λ s. s.given) c.args.self.now c.give.new.self c.in-Some.element _
    ((λ going. subst g.I.Iterator.can_next (sym c.give.ensures.source) (c.requires.0 (sym c.give.ensures.ended ∙ going))), c.give.ensures.within)
    c.give.ensures.source c.in-Some.is c.give.ensures.left
