-- Three words as one number, as text, as `serde` reads them, and as they are drawn at random.
use Rattle.std.specs.Prelude.{ℕ, Bool, List, [], ◌∷◌, ◌++◌, None, codes}
use Rattle.std.specs.Fmt.{digits}
use Rattle.rand_core.specs.Stream.{Stream}
use Rattle.serde.specs.Event.{Event, seq_begins, seq_ends, unsigned}
use Rattle.word_polynomial.specs.Cubic.{triple}
use Rattle.word_polynomial.specs.declared.triple.Triple.{Triple}

-- the number of three words, the first lowest
abbrev pub triple_number : Triple → ℕ
triple_number x = triple 64 x.c0 x.c1 x.c2

-- the text `A + B*y + C*y^2`, with the three words in hexadecimal, in large letters or small
abbrev pub hexadecimal_of : Bool → Triple → List ℕ
hexadecimal_of upper x =
    digits 16 upper x.c0 ++ codes " + " ++ digits 16 upper x.c1 ++ codes "*y + " ++ digits 16 upper x.c2 ++ codes "*y^2"

-- what stands where three words are read: an array of three numbers
abbrev pub events_of : Triple → List Event
events_of x = seq_begins None ∷ unsigned x.c0 ∷ unsigned x.c1 ∷ unsigned x.c2 ∷ seq_ends ∷ []

-- the three words are drawn one after the other, c0 first; `draws` says how a generator's stream yields one word
abbrev pub DrawsThree : (Stream → ℕ → Stream → Type 0) → Stream → Triple → Stream → Type 0
DrawsThree draws s x t = (first second : Stream) × draws s x.c0 first × draws first x.c1 second × draws second x.c2 t
