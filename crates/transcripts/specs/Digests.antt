-- What a contract sees of digests and caps.
use Rattle.std.specs.Prelude.{ℕ, List}
use Rattle.transcripts.specs.declared.digest.Hash.{Hash}
use Rattle.transcripts.specs.declared.digest.MerkleCap.{MerkleCap}

-- the words of a digest
abbrev pub words_of : {G W : Type 0} {n : ℕ} → Hash G W n → List W
words_of hash = hash.words

-- the roots of a cap
abbrev pub roots_of : {G D A : Type 0} → MerkleCap G D A → List D
roots_of cap = cap.roots.items
