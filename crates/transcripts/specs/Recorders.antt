-- What a contract sees of a recorder.
use Rattle.std.specs.Prelude.{Bool, List}
use Rattle.transcripts.specs.declared.recorder.Recorder.{Recorder}

-- what it has observed, the first value first
abbrev pub items_of : {T A : Type 0} → Recorder T A → List T
items_of recorder = recorder.items.items

-- whether a call has failed
abbrev pub recorder_failed : {T A : Type 0} → Recorder T A → Bool
recorder_failed recorder = recorder.has_failed
