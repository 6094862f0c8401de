-- What the program reads and hashes.
use Rattle.std.specs.Prelude.{◌≡◌, ℕ, List, Option}
use Rattle.std.specs.Io.KnownBytes.{Consumes, IsAtEnd}

-- of a reader before and after: it gave all of its bytes, and `hash` is the hash of them, as `hash_of` has it of a message
pub record HashesAll (hash_of : List ℕ → List ℕ) (reader reader' : Option (List ℕ)) (hash : List ℕ) : Type 0 where
  pub read : List ℕ
  pub consumed : Consumes reader reader' read
  pub at_end : IsAtEnd reader'
  pub hashed : hash ≡ hash_of read
