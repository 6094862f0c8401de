-- What the program says of a fault.
use Rattle.std.specs.Prelude.{◌≡◌, ℕ, Bool, true, false, List, codes, Result, Ok, Err}
use Rattle.calculator.specs.declared.error.RunError.{RunError}
use Rattle.calculator.specs.declared.error.RunError.TheVariants.{Read, Write, Memory}

-- the line that tells of a fault, with its line feed
abbrev pub fault_line : RunError → List ℕ
fault_line Read = codes "binfield: cannot read\n"
fault_line Write = codes "binfield: cannot write\n"
fault_line Memory = codes "binfield: out of memory\n"

-- whether the reader and the writer have failed, by what a run returns
abbrev pub FailedEnds : {T : Type 0} → Result T RunError → Bool → Bool → Type 0
FailedEnds (Ok _) reader writer = (reader ≡ false) × (writer ≡ false)
FailedEnds (Err Read) reader writer = (reader ≡ true) × (writer ≡ false)
FailedEnds (Err Write) reader writer = (reader ≡ false) × (writer ≡ true)
FailedEnds (Err Memory) reader writer = (reader ≡ false) × (writer ≡ false)

-- whether the writer has failed, by what a call returns that can fail only at the writer
abbrev pub FailedWriter : {T : Type 0} → Result T RunError → Bool → Type 0
FailedWriter (Ok _) writer = writer ≡ false
FailedWriter (Err Write) writer = writer ≡ true
FailedWriter (Err Read) writer = ⊥
FailedWriter (Err Memory) writer = ⊥
