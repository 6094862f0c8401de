use Rattle.std.proofs.Common.{◌+◌, ◌*◌, ◌^◌, ◌<◌, ℕ, map}
use Rattle.additive_transforms.specs.Columns.{column_of}
use Rattle.additive_transforms.specs.Words.{level_element}
use Rattle.reed_solomon.specs.Columns.{AreParityBelow, OthersAreKept}
use Rattle.reed_solomon.proofs.encoding.write_parity.Given as goal

-- so many blocks are written
abbrev pub invariant-loop-number : goal.invariant-loop-number
invariant-loop-number g l =
    let element = level_element g.R.Stored.number g.L.Level.LEVEL in
    let zero = g.R.Stored.ZERO in
    ((c : ℕ) → c < l.strip.width → AreParityBelow element zero g.L.Level.LEVEL l.code.levels l.code.parity_shards l.strip.size (l.strip.start + c)
    (column_of l.strip.width c (map element l.coefficients)) (l.number * 2 ^ l.code.levels) l.parity)
    × OthersAreKept zero l.strip.size l.strip.start l.strip.width l.initial.parity l.parity
