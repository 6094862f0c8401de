use Rattle.std.proofs.Common.{◌≡◌, ◌+◌, ◌*◌, ◌≤◌, ℕ, length, subst, arith}
use Rattle.reed_solomon.specs.Parity.{parity_symbol}
use Rattle.reed_solomon.specs.Tables.{AreWritten}
use Rattle.reed_solomon.proofs.StripRows.{strip_behind}
use Rattle.reed_solomon.proofs.parity.write_parity_group.Goals as goal

pub write_parity_strip-requires-clause-within : goal.write_parity_strip-requires-clause-within
write_parity_strip-requires-clause-within c =
    omega (arith, c.requires.within, c.near_width-width.ensures, c.loop-done-test.true)

pub write_parity_strip-requires-clause-some : goal.write_parity_strip-requires-clause-some
write_parity_strip-requires-clause-some c =
    omega (arith, c.requires.inside 0 c.requires.some_shards, c.requires.within, c.loop-done-test.true)

pub loop-done-preserved : goal.loop-done-preserved
loop-done-preserved c =
    let width = c.near_width-width.result in
    let fits : c.loop-done.done + width ≤ c.args.columns.width = omega (arith, c.near_width-width.ensures, c.loop-done-test.true) in (
      fits,
      λ set.
          strip_behind (parity_symbol (length c.args.starts.now) c.args.size c.args.shards.now) c.args.size c.args.first c.args.count
          c.args.columns.first c.loop-done.done width c.args.parity.now c.loop-done.parity c.write_parity_strip.new.parity
          (omega (arith, fits, c.requires.within)) (c.loop-done.invariant.1 set) (c.write_parity_strip.ensures.written set),
    )

pub returns-clause-written : goal.returns-clause-written
returns-clause-written c = λ set.
    let end : c.loop-done.done ≡ c.args.columns.width = omega (arith, c.loop-done.invariant.0, c.loop-done-test.false) in
    subst
    (λ (n : ℕ). AreWritten (λ row i. parity_symbol (length c.args.starts.now) c.args.size c.args.shards.now (c.args.first + row) (c.args.columns.first + i))
    (λ row. (c.args.first + row) * c.args.size + c.args.columns.first) c.args.count n c.args.parity.now c.loop-done.parity)
    end (c.loop-done.invariant.1 set)
