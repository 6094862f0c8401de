-- Words of tables, the elements that they are, and their images in the field of GHASH.
use Rattle.std.proofs.Common.{◌≡◌, ◌≢◌, ℕ, zero, suc, ◌+◌, ◌*◌, ◌/◌, ◌%◌, ◌^◌, ◌<◌, ◌≤◌, Err, Ok, Result, List, [], ◌∷◌, ◌++◌, drop, get_or, length, map, take, refl, sym, ◌∙◌, ap, ap₂, subst, arith}
use Rattle.std.specs.Prelude.{IfNone, None, Option, Some}
use Rattle.std.specs.Int.{bit_at}
use Rattle.std.specs.List.{range_with_len}
use Rattle.std.specs.Result.{IfOk}
use Rattle.std.proofs.lemmas.List.{get_or-drop, length-drop, length-map, length-take-le, take-append-drop}
use Rattle.std.proofs.lemmas.List.Concat.{flat_map-cons}
use Rattle.std.proofs.lemmas.List.FromFn.{length-map-range_with_len}
use Rattle.std.proofs.lemmas.Nat.{div-add-mod'}
use Rattle.std.proofs.lemmas.Simd.{map-map}
use Rattle.field_base.specs.Basis.{basis_image, bit_image, ghash_images}
use Rattle.field_base.specs.Remainder.{ghash_modulus}
use Rattle.field_base.proofs.BasisSums.{bit_at-mod, sum_below-same}
use Rattle.field_bytes.specs.Bytes.{low_bytes, number_of_bytes}
use Rattle.field_bytes.specs.Streams.{joined_bytes}
use Rattle.field_bytes.proofs.LowBytes.{fits-take, low-number, number-lt}
use Rattle.transcripts.specs.Commitments.{row_at}
use Rattle.additive_transforms.specs.Images.{tower_image}
use Rattle.prove_sums.specs.Tables.{AreEmbedded}

-- an image reads the low 128 bits
image-low : (x : ℕ) → tower_image (x % 2 ^ 128) ≡ tower_image x
unfolding basis_image
image-low x =
    sum_below-same (λ j. bit_at (x % 2 ^ 128) j * bit_image 128 ghash_modulus ghash_images j)
    (λ j. bit_at x j * bit_image 128 ghash_modulus ghash_images j) (2 ^ length ghash_images)
    (λ j below. ap (λ (d : ℕ). d * bit_image 128 ghash_modulus ghash_images j) (bit_at-mod x 128 j below))

-- the images of so many words, each the number of its bytes cut to 128 bits
pub words-embedded : {F G : Type 0} (repr : F → ℕ) (number : G → ℕ) (size : ℕ) (bytes : List ℕ) (count : ℕ) (words : List G) (elements : List F)
    → map number words ≡ map (λ p. number_of_bytes (row_at size bytes p) % 2 ^ 128) (range_with_len 0 count)
    → map repr elements ≡ map (λ x. tower_image (number x)) words
    → length bytes % size ≡ 0 → count ≡ length bytes / size → AreEmbedded size repr bytes elements
words-embedded repr number size bytes count words elements read images even last = record {
  whole = let all = div-add-mod' (length bytes) size in
      joined (length bytes / size) (length bytes) (length bytes % size) (length elements) size all even (long ∙ last);
  each = subst (λ (n : ℕ). map repr elements ≡ map (λ p. tower_image (number_of_bytes (row_at size bytes p))) (range_with_len 0 n)) (sym long) values;
}
  where
    values : map repr elements ≡ map (λ p. tower_image (number_of_bytes (row_at size bytes p))) (range_with_len 0 count)
    values =
        images ∙ sym (map-map tower_image number words) ∙ ap (map tower_image) read
        ∙ map-map tower_image (λ p. number_of_bytes (row_at size bytes p) % 2 ^ 128) (range_with_len 0 count)
        ∙ (λ i. map (λ p. image-low (number_of_bytes (row_at size bytes p)) i) (range_with_len 0 count))

    long : length elements ≡ count
    long =
        sym (length-map elements repr) ∙ ap length values
        ∙ length-map-range_with_len (λ p. tower_image (number_of_bytes (row_at size bytes p))) 0 count

    joined : (quotient all rest n s : ℕ) → quotient * s + rest ≡ all → rest ≡ 0 → n ≡ quotient → all ≡ n * s
    joined quotient all rest n s is none same =
        sym (ap (λ (v : ℕ). v * s) same ∙ omega (arith, is, none))

-- a word of 16 bytes is that of an element, where each number of 128 bits is that of one
word-there : {F : Type 0} (repr : F → ℕ) → ((n : ℕ) → n < 2 ^ 128 → (x : F) × (repr x ≡ n)) → (bytes : List ℕ) → 16 ≤ length bytes
    → ((k : ℕ) → get_or bytes k 0 < 256) → (x : F) × (take 16 bytes ≡ low_bytes 16 (repr x))
word-there {F} repr every bytes enough fits = (
  first.0,
  sym (low-number (take 16 bytes) small) ∙ ap (λ (n : ℕ). low_bytes n (number_of_bytes (take 16 bytes))) long
      ∙ ap (low_bytes 16) (sym first.1),
)
  where
    small : (k : ℕ) → get_or (take 16 bytes) k 0 < 256
    small = fits-take 16 bytes fits

    long : length (take 16 bytes) ≡ 16
    long = length-take-le 16 bytes enough

    first : (x : F) × (repr x ≡ number_of_bytes (take 16 bytes))
    first =
        every (number_of_bytes (take 16 bytes))
        (subst (λ (n : ℕ). number_of_bytes (take 16 bytes) < 2 ^ (8 * n)) long (number-lt (take 16 bytes) small))

-- .. and so many words are those of as many elements
elements-there : {F : Type 0} (repr : F → ℕ) → ((n : ℕ) → n < 2 ^ 128 → (x : F) × (repr x ≡ n)) → (count : ℕ) (bytes : List ℕ)
    → length bytes ≡ count * 16 → ((k : ℕ) → get_or bytes k 0 < 256) → (elements : List F) × (bytes ≡ joined_bytes 16 repr elements)
elements-there repr every zero [] whole fits = ([], refl)
elements-there repr every zero (b ∷ bytes) whole fits = absurd (omega (arith, whole))
elements-there repr every (suc count) bytes whole fits =
    let first = word-there repr every bytes (omega (arith, whole)) fits in
    let others =
    elements-there repr every count (drop 16 bytes) (omega (arith, whole, length-drop 16 bytes))
    (λ k. subst (λ (b : ℕ). b < 256) (sym (get_or-drop 16 bytes k 0)) (fits (16 + k))) in (
      first.0 ∷ others.0,
      sym (take-append-drop 16 bytes) ∙ ap₂ (λ (a b : List ℕ). a ++ b) first.1 others.1
          ∙ sym (flat_map-cons (λ x. low_bytes 16 (repr x)) first.0 others.0),
    )

-- so bytes that are those of no elements end within a word
pub ends-within : {F V E : Type 0} (repr : F → ℕ) (bytes : List ℕ) (read : Result (Option V) E)
    → IfOk read (λ found. IfNone found ((elements : List F) → bytes ≢ joined_bytes 16 repr elements))
    → ((n : ℕ) → n < 2 ^ 128 → (x : F) × (repr x ≡ n)) → ((k : ℕ) → get_or bytes k 0 < 256)
    → IfOk read (λ found. IfNone found (length bytes % 16 ≢ 0))
ends-within repr bytes (Ok None) none every fits = λ whole.
    let there = elements-there repr every (length bytes / 16) bytes (omega (arith, whole)) fits in none there.0 there.1
ends-within repr bytes (Ok (Some found)) none every fits = tt
ends-within repr bytes (Err error) none every fits = tt
