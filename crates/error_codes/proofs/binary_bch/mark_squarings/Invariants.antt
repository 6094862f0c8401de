use Rattle.std.proofs.Common.{◌≡◌, ◌⊎◌, ◌<◌, ℕ, true, length}
use Rattle.std.specs.Prelude.{◌↔◌}
use Rattle.field_base.specs.Powers.{repeated_square}
use Rattle.error_codes.specs.BinaryBch.{IsSquaring}
use Rattle.reed_solomon.specs.ByteFields.{byte_times}
use Rattle.error_codes.specs.Filling.{is_marked}
use Rattle.error_codes.proofs.binary_bch.mark_squarings.Given as goal

-- so many squarings are marked
abbrev pub invariant-loop : goal.invariant-loop
invariant-loop l =
    (l.next ≡ repeated_square 1 (byte_times l.field) l.counter l.root) × (length l.marks ≡ 256)
    × ((b : ℕ) → b < 256 → (is_marked l.marks b ≡ true)
    ↔ ((is_marked l.initial.marks b ≡ true) ⊎ IsSquaring (byte_times l.field) l.root l.counter b))
