use Rattle.std.proofs.Common.{◌≡◌, ◌+◌, ◌*◌, vec_len}
use Rattle.secret.proofs.sharing.rows_of_zeros.Given as goal

abbrev pub invariant-rows : goal.invariant-rows
invariant-rows l = vec_len l.zeros ≡ l.counter * l.size

abbrev pub invariant-places : goal.invariant-places
invariant-places l = vec_len l.zeros ≡ vec_len l.initial.zeros + l.counter
