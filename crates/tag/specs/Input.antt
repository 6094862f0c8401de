-- What a contract sees of an `Input`.
use Rattle.std.specs.Prelude.{ℕ, Bool}
use Rattle.tag.specs.declared.input.Input.{Input}

-- the reader
abbrev pub input_reader : {R : Type 0} → Input R → R
input_reader input = input.inner

-- whether it has failed
abbrev pub input_failed : {R : Type 0} → Input R → Bool
input_failed input = input.has_failed

-- how many reads it still makes
abbrev pub input_reads : {R : Type 0} → Input R → ℕ
input_reads input = input.reads_left
