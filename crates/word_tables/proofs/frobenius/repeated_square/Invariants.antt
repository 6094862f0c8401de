use Rattle.std.proofs.Common.{◌≡◌, ◌%◌, ◌^◌}
use Rattle.field_base.specs.Powers.{repeated_square}
use Rattle.field_base.specs.Tower.{tower_mul}
use Rattle.word_tables.proofs.frobenius.repeated_square.Given as goal

-- the squarings of the bits of the count before `step` are done
abbrev pub invariant-loop-step : goal.invariant-loop-step
invariant-loop-step l = l.value ≡ repeated_square 1 (tower_mul l.fn.level) (l.fn.count % 2 ^ l.step) l.fn.x
