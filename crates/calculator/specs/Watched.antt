-- What a contract sees of a `Watched`.
use Rattle.std.specs.Prelude.{ℕ, Bool}
use Rattle.calculator.specs.declared.watched.Watched.{Watched}

-- the reader or writer that is watched
abbrev pub watched_inner : {T : Type 0} → Watched T → T
watched_inner w = w.inner

-- whether a call has failed
abbrev pub has_failed : {T : Type 0} → Watched T → Bool
has_failed w = w.has_failed

-- how many reads it still passes on
abbrev pub reads_left : {T : Type 0} → Watched T → ℕ
reads_left w = w.reads_left
