-- What is found is not missing.
use Rattle.std.proofs.Common.{Option, None, Some, rules}
use Rattle.std.specs.Prelude.{IfNone, IsSome}

pub none-of : {A : Type 0} (P : Type 0) (found : Option A) → IsSome found → IfNone found P
none-of P None some = search rules
none-of P (Some x) some = search rules
