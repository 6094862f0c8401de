-- What a contract sees of a challenger over a hash function.
use Rattle.std.specs.Prelude.{take, Bool}
use Rattle.transcripts.specs.HashBuffers.{HashState}
use Rattle.transcripts.specs.declared.hash_challenger.HashChallenger.{HashChallenger}

-- its hasher, input and output
abbrev pub hash_state : {H A : Type 0} → HashChallenger H A → HashState H
hash_state challenger = (challenger.hasher, challenger.input.items, take challenger.unread challenger.digest)

-- whether it has refused a byte call
abbrev pub hash_refused : {H A : Type 0} → HashChallenger H A → Bool
hash_refused challenger = challenger.has_refused
