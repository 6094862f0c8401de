use Rattle.std.proofs.Common.{◌≡◌}
use Rattle.field_base.specs.Powers.{repeated_square}
use Rattle.field_base.specs.Tower.{tower_mul}
use Rattle.word_tower.proofs.level.Level.conjugate.Given as goal

-- the squarings so far
abbrev pub invariant-loop : goal.invariant-loop
invariant-loop g l = g.R.Stored.number l.conjugate ≡ repeated_square 1 (tower_mul g.Self.Level.LEVEL) l.counter (g.R.Stored.number l.fn.x)
