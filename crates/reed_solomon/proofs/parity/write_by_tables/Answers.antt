use Rattle.std.proofs.Common.{◌≡◌, ◌+◌, ◌*◌, ◌<◌, ◌≤◌, ℕ, refl, sym, ◌∙◌, subst, arith}
use Rattle.std.proofs.lemmas.List.{get_or-take, length-take-le}
use Rattle.reed_solomon.specs.Parity.{parity_symbol}
use Rattle.reed_solomon.specs.Tables.{AreWritten}
use Rattle.reed_solomon.proofs.GroupWriting.{apart_places}
use Rattle.reed_solomon.proofs.ParityWords.{parity_encoded}
use Rattle.reed_solomon.proofs.RowWriting.{columns_written}
use Rattle.reed_solomon.proofs.parity.write_by_tables.Goals as goal

pub write_columns-requires-clause-counted : goal.write_columns-requires-clause-counted
write_columns-requires-clause-counted c =
    length-take-le c.args.k c.starts_from-starts.result (omega (arith, c.requires.points, c.starts_from-starts.ensures.long))
    ∙ sym c.of_first-sample.ensures.count

pub write_columns-requires-clause-begun : goal.write_columns-requires-clause-begun
write_columns-requires-clause-begun c = λ j below.
    let inside : j < c.args.k = omega (arith, below, c.of_first-sample.ensures.count) in
    let start : (0 + j) * c.args.size ≡ j * c.args.size = omega arith in
    get_or-take c.args.k c.starts_from-starts.result j 0 inside ∙ c.starts_from-starts.ensures.starts j inside ∙ start

pub loop-first-preserved : goal.loop-first-preserved
loop-first-preserved c =
    let k = c.args.k in
    let size = c.args.size in
    let shards = c.args.shards.now in
    let first = c.loop-first.first in
    let width = c.strip_of-width.result in
    let fits : first + width ≤ size = omega (arith, c.strip_of-width.ensures.few, c.loop-first-test.true) in (
      fits,
      columns_written (parity_symbol k size shards) (λ t. t * size) c.args.m first width (first + width) size c.args.parity.now c.loop-first.parity _
          c.loop-first.invariant.1
          (subst
          (λ (n : ℕ). AreWritten (λ t i. parity_symbol n size shards t (first + i)) (λ t. t * size + first) c.args.m width c.loop-first.parity
          c.write_columns.new.parity)
          c.of_first-sample.ensures.count c.write_columns.ensures.written)
          refl fits (λ row other less within. apart_places size row other (λ e. absurd (omega (arith, less, e)))),
    )

pub returns-clause-encoded : goal.returns-clause-encoded
returns-clause-encoded c =
    parity_encoded c.args.k c.args.m c.args.size c.args.shards.now c.requires.points c.bytes_fit.ensures c.args.parity.now c.loop-first.parity
    c.requires.whole
    (λ t column below inside. c.loop-first.invariant.1.written t column below (omega (arith, inside, c.loop-first-test.false)))
