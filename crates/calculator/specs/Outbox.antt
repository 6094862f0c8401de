-- What a contract sees of an `Outbox`.
use Rattle.std.specs.Prelude.{ℕ, List, take}
use Rattle.calculator.specs.declared.outbox.Outbox.{Outbox}

-- the bytes that wait for the writer
abbrev pub waiting : Outbox → List ℕ
waiting o = take o.len o.bytes
