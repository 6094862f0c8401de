use Rattle.std.proofs.Common.{◌≡◌, false, take}
use Rattle.std.specs.Int.{to_le_bytes, w64}
use Rattle.std.specs.List.{flat_map}
use Rattle.transcripts.specs.ByteCalls.{observing}
use Rattle.transcripts.specs.Guarded.{guarded_after, guarded_failed, guarded_state}
use Rattle.transcripts.proofs.digest.U64DigestWord.observe_words.Given as goal

-- the words before the index were observed, and nothing has failed
abbrev pub invariant-words : goal.invariant-words
invariant-words g l = record {
  goes_on : guarded_failed l.guarded ≡ false;
  run : guarded_state l.guarded ≡ guarded_after (observing (flat_map (λ w. to_le_bytes w64 w) (take l.index l.words))) l.initial.guarded;
}
