use Rattle.std.proofs.Common.{◌∙◌, subst, sym}
use Rattle.field_bytes.specs.declared.parallel.ParallelByteStreams.{ParallelByteStreams}
use Rattle.field_bytes.proofs.Progress.{element_begun, element_continued}
use Rattle.field_bytes.proofs.Rows.{row_begun, row_taken}
use Rattle.field_bytes.proofs.parallel.ParallelByteStreamsIterator.next.Goals as goal

pub returns-in-Some-clause-steps : goal.returns-in-Some-clause-steps
returns-in-Some-clause-steps g c =
    row_begun {width = g.row.N} g.I.Iterator.next_gives g.E.RawDataSerializable.NUM_BYTES g.E.Represented.repr c.args.self.now c.give.new.self c.in-Some.row
    c.give.result c.in-Some.is c.give.ensures.source c.give.ensures.left c.give.ensures.fewer c.give.ensures.ended

pub returns-in-Some-next-clause-steps : goal.returns-in-Some-next-clause-steps
returns-in-Some-next-clause-steps g c =
    row_taken {width = g.row.N} g.I.Iterator.next_gives g.E.RawDataSerializable.NUM_BYTES g.E.Represented.repr c.args.self.now c.give-in-Some-next.new.self
    c.next.new.self c.in-Some-next.row c.give-in-Some-next.result c.in-None.is c.requires.1 c.if-self.false c.in-Some-next.ensures.steps
    c.give-in-Some-next.ensures.source c.give-in-Some-next.ensures.left c.give-in-Some-next.ensures.fewer c.give-in-Some-next.ensures.ended

pub returns-in-Some-next-clause-goes : goal.returns-in-Some-next-clause-goes
returns-in-Some-next-clause-goes g c =
    element_begun {T = ParallelByteStreams g.row.I.Denot g.row.E.Denot g.row.N} g.E.RawDataSerializable.NUM_BYTES (λ row. 0) (λ s. s.elements)
    (λ s. s.pending) (λ s. s.given) _ _ c.in-Some-next.row 0 c.in-Some-next.ensures.goes c.give-in-Some-next.ensures.source
    (λ can. ((λ _. can), c.give-in-Some-next.ensures.within)) c.requires.1 c.in-None.is c.give-in-Some-next.ensures.fewer

pub next-requires : goal.next-requires
next-requires g c = c.requires.0 c.if-self.false

pub returns-in-Some-clause-goes : goal.returns-in-Some-clause-goes
returns-in-Some-clause-goes g c =
    element_continued {T = ParallelByteStreams g.row.I.Denot g.row.E.Denot g.row.N} g.I.Iterator.remaining g.E.RawDataSerializable.NUM_BYTES (λ row. 0) (λ s. s.elements)
    (λ s. s.pending) (λ s. s.given) c.args.self.now c.give.new.self c.in-Some.row 0
    ((λ going. subst g.I.Iterator.can_next (sym c.give.ensures.source) (c.requires.0 (sym c.give.ensures.ended ∙ going))), c.give.ensures.within)
    c.give.ensures.source c.in-Some.is c.give.ensures.fewer
