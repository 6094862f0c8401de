-- The lanes of a number as a list, and packed bits taken apart one after the other.
use Rattle.std.proofs.Common.{◌≡◌, ℕ, zero, suc, ◌+◌, ◌*◌, ◌/◌, ◌%◌, ◌^◌, ◌<◌, ◌≤◌, List, [], ◌∷◌, ◌++◌, refl, sym, ap, ap₂, ◌∙◌, arith}
use Rattle.std.specs.Prelude.{drop}
use Rattle.std.specs.Array.{index_steps}
use Rattle.std.specs.Int.{bit_at}
use Rattle.std.specs.Iterator.{CallableAtEachTurn}
use Rattle.std.proofs.Math.Nat.{div-one}
use Rattle.std.proofs.lemmas.List.{map-id}
use native.Mathlib.Numerals.{add-one}
use Rattle.field_base.specs.Chunks.{chunk, chunks}
use Rattle.field_base.proofs.Calls.{may_go_on}
use Rattle.field_base.proofs.ChunkLists.{chunk_pushed}
use Rattle.packed_lanes.specs.lemmas.Chunk.{chunks-front}
use Rattle.packed_lanes.specs.Parts.{IsFilled, IsWithPart}
use Rattle.field_base.proofs.BasisSums.{bit_at-add}
use Rattle.packed_lanes.proofs.WordLists.{Filled, more_filled}
use Rattle.bits_packed.specs.Lanes.{IsWithLane, bits_of, lanes_from}

-- lane j is digit j in base 2
pub lane-as_part : (n j : ℕ) → bit_at n j ≡ chunk 1 j n
lane-as_part n j = let same : 1 * j ≡ j = omega arith in ap (λ (k : ℕ). n / 2 ^ k % 2) (sym same)

-- writing a lane writes the digit of one bit in its place
pub lane_is_part : (width n lane v r : ℕ) → IsWithLane width n lane v r → IsWithPart 1 width n lane v r
lane_is_part width n lane v r written = (
  sym (lane-as_part r lane) ∙ written.0,
  λ k less other. sym (lane-as_part r k) ∙ written.1 k less other ∙ lane-as_part n k,
)

-- past the end there is no lane
pub lanes_end : (width next n : ℕ) → width ≤ next → lanes_from width next n ≡ []
unfolding chunks
lanes_end zero zero n past = refl
lanes_end zero (suc next) n past = refl
lanes_end (suc width) zero n past = absurd (omega arith)
lanes_end (suc width) (suc next) n past =
    ap (λ (xs : List ℕ). drop (suc next) xs) (chunks-front 1 width n) ∙ lanes_end width next (n / 2 ^ 1) (omega arith)

-- before the end, lane `next` comes first
first_lane : (width next n : ℕ) → next < width → lanes_from width next n ≡ bit_at n next ∷ lanes_from width (suc next) n
first_lane zero next n less = absurd (omega arith)
first_lane (suc width) zero n less =
    let front = chunks-front 1 width n in
    front ∙ ap (λ (xs : List ℕ). n % 2 ∷ drop 1 xs) (sym front)
    ∙ ap (λ (x : ℕ). x % 2 ∷ lanes_from (suc width) 1 n) (sym (div-one n))
first_lane (suc width) (suc next) n less =
    let place : 1 + next ≡ suc next = omega arith in
    let front = chunks-front 1 width n in
    ap (λ (xs : List ℕ). drop (suc next) xs) front
    ∙ first_lane width next (n / 2 ^ 1) (omega arith)
    ∙ ap (λ (x : ℕ). x ∷ lanes_from width (suc next) (n / 2 ^ 1)) (sym (bit_at-add n 1 next) ∙ ap (bit_at n) place)
    ∙ ap (λ (xs : List ℕ). bit_at n (suc next) ∷ drop (suc (suc next)) xs) (sym front)

-- lane `next`, and the lanes after it
pub lanes_next : (width next n lane : ℕ) → next < width → lane ≡ bit_at n next → lanes_from width next n ≡ lane ∷ lanes_from width (next + 1) n
lanes_next width next n lane less is =
    first_lane width next n less ∙ ap₂ (λ (x k : ℕ). x ∷ lanes_from width k n) (sym is) (sym (add-one next))

-- one byte more of the packed bits that are being taken apart
pub byte_pushed : (width i n byte : ℕ) (items new begun : List ℕ) → new ≡ items ++ byte ∷ [] → items ≡ begun ++ chunks width i n
    → byte ≡ chunk width i n → new ≡ begun ++ chunks width (i + 1) n
byte_pushed width i n byte items new begun is so_far value =
    sym (map-id new) ∙ chunk_pushed (λ (x : ℕ). x) width i n items new byte begun is (map-id items ∙ so_far) value

-- one lane more of those that calls give, and leave for the calls that are left
pub lane_filled : {S A : Type 0} {number : A → ℕ} {step : S → ℕ → A → S → Type 0} {Q : S → ℕ → Type 0} {start now next : S} {n r : ℕ} {lane_value : A}
    → (width lane : ℕ) → lane < width
    → CallableAtEachTurn (index_steps width) (λ p i q. (x : A) × step p i x q) Q lane now × Filled 1 number step start lane n now
    → step now lane lane_value next → IsWithLane width n lane (number lane_value) r
    → CallableAtEachTurn (index_steps width) (λ p i q. (x : A) × step p i x q) Q (lane + 1) next × Filled 1 number step start (lane + 1) r next
lane_filled {number = number} {step = step} {start = start} {now = now} {next = next} {n = n} {r = r} {lane_value = lane_value} width lane inside so_far
    called written = (
      may_go_on width lane inside so_far.0 next (lane_value, called),
      more_filled 1 number step start width lane n r now next lane_value so_far.1 inside called (lane_is_part width n lane (number lane_value) r written),
    )

-- all lanes are those that the calls gave, once each was asked for
pub all_filled : {S A : Type 0} {number : A → ℕ} {step : S → ℕ → A → S → Type 0} {start now : S} {lane n : ℕ}
    → (width : ℕ) → lane ≡ width → Filled 1 number step start lane n now → (last : S) × IsFilled step number 1 width n start last
all_filled {now = now} {n = n} width all done = (now, (done.taken, done.fills, done.are ∙ ap (λ (x : ℕ). bits_of x n) all))
