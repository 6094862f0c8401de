use Rattle.std.proofs.Common.{◌<◌, ◌≤◌, ◌+◌, ◌-◌, ◌*◌, ℕ, length}
use Rattle.reed_solomon.specs.Parity.{parity_factor, parity_symbol}
use Rattle.reed_solomon.specs.Tables.{AreWritten, HasRow}
use Rattle.reed_solomon.proofs.parity.write_parity_group.Given as goal

abbrev pub invariant-loop-done : goal.invariant-loop-done
invariant-loop-done l =
    (l.done ≤ l.columns.width)
    × (((row : ℕ) → row < l.count → HasRow (parity_factor (length l.starts) (l.first + row)) l.entries row (length l.starts))
    → AreWritten (λ row c. parity_symbol (length l.starts) l.size l.shards (l.first + row) (l.columns.first + c))
    (λ row. (l.first + row) * l.size + l.columns.first) l.count l.done l.fn.parity l.parity)

abbrev pub decreases-loop-done : goal.decreases-loop-done
decreases-loop-done l = l.columns.width - l.done
