-- What is observed and sampled by calls of a challenger of a field, in the bytes of the byte challenger below it. Elements have
-- `size` bytes and `width` bits.
use Rattle.std.specs.Prelude.{◌≡◌, ℕ, zero, suc, ◌*◌, ◌%◌, ◌^◌, Bool, true, List, [], ◌∷◌, ◌++◌, nat_eq}
use Rattle.std.specs.List.{flat_map}
use Rattle.field_base.specs.Chunks.{chunks}
use Rattle.field_bytes.specs.Bytes.{low_bytes, number_of_bytes}
use Rattle.transcripts.specs.ByteCalls.{after, ByteCall, observing, sampling, squeezed, squeezed_word, Transitions}
use Rattle.transcripts.specs.declared.byte_challenger.ByteChallenger
use Rattle.transcript_elements.specs.Challengers.{state_of}
use Rattle.transcript_elements.specs.declared.challenger.BinaryChallenger.{BinaryChallenger}

-- a sample of so many bits: eight bytes are sampled, for 0 bits too, and the number is the low bits of their word
abbrev pub SamplesBits : {S : Type 0} → Transitions S → S → ℕ → ℕ → S → Type 0
SamplesBits transitions old bits number new =
    (new ≡ after transitions (sampling 8) old) × (number ≡ squeezed_word transitions (sampling 8) old % 2 ^ bits)

-- the element that is sampled: the number of its bytes, the lowest first, cut to its width
abbrev pub squeezed_element : {S : Type 0} → Transitions S → ℕ → ℕ → S → ℕ
squeezed_element transitions size width state = number_of_bytes (squeezed transitions (sampling size) state) % 2 ^ width

-- n elements that are sampled one after the other
unfoldable pub squeezed_elements : {S : Type 0} → Transitions S → ℕ → ℕ → ℕ → S → List ℕ
squeezed_elements transitions size width zero state = []
squeezed_elements transitions size width (suc n) state =
    squeezed_elements transitions size width n state
    ++ squeezed_element transitions size width (after transitions (sampling (size * n)) state) ∷ []

-- a sample of n coefficients: size * n bytes are sampled, and coefficient i is the number of its bytes, the lowest first, cut to
-- the width
abbrev pub SamplesCoefficients : {S : Type 0} → Transitions S → ℕ → ℕ → ℕ → S → ℕ → S → Type 0
SamplesCoefficients transitions size width n old number new =
    (new ≡ after transitions (sampling (size * n)) old) × (chunks width n number ≡ squeezed_elements transitions size width n old)

-- the bytes of n coefficients, coefficient 0 first, and the lowest byte of each first
abbrev pub coefficient_bytes : ℕ → ℕ → ℕ → ℕ → List ℕ
coefficient_bytes size width n number = flat_map (λ c. low_bytes size c) (chunks width n number)

-- the calls that check a witness for so many bits: its bytes are observed, and eight are sampled; none for 0 bits
abbrev pub check_calls : ℕ → ℕ → ℕ → List ByteCall
check_calls size zero witness = []
check_calls size (suc bits) witness = observing (low_bytes size witness) ++ sampling 8

-- whether a witness passes for so many bits in a state: the low bits of the word that is sampled are 0
abbrev pub passes : {S : Type 0} → Transitions S → ℕ → ℕ → S → ℕ → Bool
passes transitions size zero state witness = true
passes transitions size (suc bits) state witness =
    nat_eq (squeezed_word transitions (check_calls size (suc bits) witness) state % 2 ^ suc bits) 0

-- whether a witness passes for so many bits in a challenger
abbrev pub challenger_passes : {F C : Type 0} {c : ByteChallenger.Ghosts C} → ℕ → ℕ → BinaryChallenger F C c → ℕ → Bool
challenger_passes {c = c} size bits challenger witness = passes c.transitions size bits (state_of challenger) witness
