use Rattle.std.proofs.Common.{◌+◌, ◌*◌, ◌≤◌, ℕ, refl, subst, arith}
use Rattle.std.proofs.lemmas.List.{length-take-le}
use Rattle.reed_solomon.specs.Parity.{HaveParityTables, parity_symbol}
use Rattle.reed_solomon.specs.Tables.{AreWritten}
use Rattle.reed_solomon.proofs.GroupWriting.{apart_places}
use Rattle.reed_solomon.proofs.ParityWords.{parity_encoded}
use Rattle.reed_solomon.proofs.RowWriting.{columns_written}
use Rattle.reed_solomon.proofs.prepared.write_prepared.Goals as goal

pub loop-first-preserved : goal.loop-first-preserved
loop-first-preserved c =
    let k = c.args.k in
    let size = c.args.size in
    let shards = c.args.shards.now in
    let first = c.loop-first.first in
    let width = c.strip_of-width.result in
    let counted = length-take-le k c.starts_from-starts.result (omega (arith, c.requires.points, c.starts_from-starts.ensures.long)) in
    let fits : first + width ≤ size = omega (arith, c.strip_of-width.ensures.few, c.loop-first-test.true) in (
      fits,
      λ all.
          columns_written (parity_symbol k size shards) (λ t. t * size) c.args.m first width (first + width) size c.args.parity.now c.loop-first.parity _
          (c.loop-first.invariant.1 all)
          (subst
          (λ (n : ℕ). HaveParityTables n c.args.m c.args.tables.now
          → AreWritten (λ t i. parity_symbol n size shards t (first + i)) (λ t. t * size + first) c.args.m width c.loop-first.parity
          c.write_columns.new.parity)
          counted c.write_columns.ensures.written all)
          refl fits (λ row other less within. apart_places size row other (λ e. absurd (omega (arith, less, e)))),
    )

pub returns-clause-encoded : goal.returns-clause-encoded
returns-clause-encoded c = λ all.
    parity_encoded c.args.k c.args.m c.args.size c.args.shards.now c.requires.points c.bytes_fit.ensures c.args.parity.now c.loop-first.parity
    c.requires.whole
    (λ t column below inside. (c.loop-first.invariant.1 all).written t column below (omega (arith, inside, c.loop-first-test.false)))
