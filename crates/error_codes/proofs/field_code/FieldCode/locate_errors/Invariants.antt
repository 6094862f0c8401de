use Rattle.std.proofs.Common.{length, slice_index}
use Rattle.std.specs.Prelude.{nat_eq, ◌||◌}
use Rattle.error_codes.specs.Correcting.{code_value}
use Rattle.error_codes.specs.Filling.{falling_point, is_marked}
use Rattle.error_codes.proofs.Marking.{IsWritten}
use Rattle.error_codes.proofs.field_code.FieldCode.locate_errors.Given as goal

abbrev pub invariant-loop-i : goal.invariant-loop-i
invariant-loop-i g l =
    let times = g.F.SymbolField.product l.self.field in
    IsWritten l.self.word_length (λ j. is_marked l.initial.marks j || nat_eq (code_value times (length l.register)
    (slice_index l.register) (falling_point times l.self.root l.self.word_length j)) 0) (is_marked l.initial.marks) l.i l.marks
