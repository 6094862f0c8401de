use Rattle.std.proofs.Common.{◌≡◌, ◌<◌, ◌^◌, ℕ, length, slice_index}
use Rattle.error_codes.proofs.MasseySteps.{IsBetweenEntries}
use Rattle.error_codes.proofs.field_code.registers.write_register.Given as goal

abbrev pub invariant-loop-l : goal.invariant-loop-l
invariant-loop-l g l =
    IsBetweenEntries (g.F.SymbolField.product l.field) (slice_index l.entries) l.l l.size (slice_index l.coefficients) l.failed
    (slice_index l.older) l.failure
    × (length l.coefficients ≡ length l.fn.coefficients) × (length l.older ≡ length l.fn.coefficients)
    × (length l.spare ≡ length l.fn.coefficients)
    × ((i : ℕ) → slice_index l.coefficients i < 2 ^ g.F.SymbolField.width l.field)
