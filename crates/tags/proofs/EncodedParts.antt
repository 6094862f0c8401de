-- The encoding of associated data and text into blocks is injective, so that few keys let two pairs of them collide.
use Rattle.std.proofs.Common.{◌≡◌, ℕ, zero, suc, ◌+◌, ◌*◌, ◌/◌, ◌^◌, ◌<◌, List, [], ◌∷◌, ◌++◌, length, take, drop, get_or, refl, sym, ap, ap₂, ◌∙◌, arith, length-append}
use Rattle.std.specs.Prelude.{bit_xor, map, reverse}
use Rattle.std.specs.List.{All}
use Rattle.std.specs.Int.{byte_at, bytes_high_first, bytes_low_first, from_be_bytes, from_le_bytes, to_be_bytes, to_le_bytes, w64, w128}
use Rattle.std.proofs.lemmas.List.{length-map, map-append, reverse-append}
use Rattle.std.proofs.lemmas.List.Elements.{All-append, All-cons, All-nil}
use Rattle.std.proofs.lemmas.Nat.{from_be_bytes-to_be_bytes_8, from_le_bytes-to_le_bytes_8, pow_pos}
use Rattle.std.proofs.Math.Seq.{drop-append_seam, take-append_seam}
use Rattle.tags.specs.Blocks.{AreBytes, IsBlock, blocks_of}
use Rattle.tags.specs.Collisions.{AtMostCollide, HaveSameBlocks}
use Rattle.tags.specs.EncodedParts.{EncodesParts, FewKeysCollide, GcmCollides, GcmSivCollides, GcmEncodesParts, GcmSivEncodesParts, IsPart}
use Rattle.tags.specs.Gcm.{gcm_hash, gcm_product, ghash}
use Rattle.tags.specs.Hash.{polynomial_hash}
use Rattle.tags.specs.Polyval.{dot, polyval, polyval_hash}
use Rattle.tags.proofs.BlockBytes.{from_be-to_be, from_le-lt}
use Rattle.tags.proofs.BlocksDiffer.{blocks_of-injective, first_blocks_are, from_be-injective, from_be-lt, from_le-injective, from_le-to_le, length-first_blocks, single}
use Rattle.tags.proofs.Collisions.{same_length_is_same}
use Rattle.tags.proofs.GcmProduct.{gcm_product-lt}
use Rattle.tags.proofs.Hashes.{fold-lt}
use Rattle.tags.proofs.KeyedCollisions.{ghash_collides, polyval_collides}
use Rattle.tags.proofs.PolyvalProduct.{dot-lt}

-- lists that begin with lists of one length
same_first : {A : Type 0} → (p q r s : List A) → length p ≡ length q → p ++ r ≡ q ++ s → p ≡ q
same_first p q r s same_length same =
    sym (take-append_seam p r) ∙ ap (take (length p)) same ∙ ap (λ (n : ℕ). take n (q ++ s)) same_length ∙ take-append_seam q s

same_rest : {A : Type 0} → (p q r s : List A) → length p ≡ length q → p ++ r ≡ q ++ s → r ≡ s
same_rest p q r s same_length same =
    sym (drop-append_seam p r) ∙ ap (drop (length p)) same ∙ ap (λ (n : ℕ). drop n (q ++ s)) same_length ∙ drop-append_seam q s

-- the last number of a list is the first one from the end
last_number : (xs : List ℕ) (x : ℕ) → get_or (reverse (xs ++ x ∷ [])) 0 0 ≡ x
last_number xs x = ap (λ (ys : List ℕ). get_or ys 0 0) (reverse-append xs (x ∷ []))

-- a way to write blocks as numbers, and numbers as eight bytes, by which both are told apart
record TellsApart (number : List ℕ → ℕ) (write : ℕ → List ℕ) : Type 0 where
  number_injective : (b c : List ℕ) → IsBlock b → IsBlock c → number b ≡ number c → b ≡ c
  number_lt : (b : List ℕ) → IsBlock b → number b < 2 ^ 128
  length_write : (n : ℕ) → length (write n) ≡ 8
  bytes_write : (n : ℕ) → AreBytes (write n)
  write_injective : (m n : ℕ) → m < 2 ^ 64 → n < 2 ^ 64 → write m ≡ write n → m ≡ n

module _ (number : List ℕ → ℕ) (write : ℕ → List ℕ) (way : TellsApart number write) where
  -- the block of lengths, the blocks, and all of them
  abbrev lengths : List ℕ → List ℕ → List ℕ
  lengths a t = write (length a * 8) ++ write (length t * 8)

  abbrev parts : List ℕ → List ℕ → List (List ℕ)
  parts a t = blocks_of a ++ blocks_of t

  abbrev encoded : List ℕ → List ℕ → List (List ℕ)
  encoded a t = blocks_of a ++ blocks_of t ++ lengths a t ∷ []

  lengths_are : (a t : List ℕ) → IsBlock (lengths a t)
  lengths_are a t = (
    omega (arith, length-append (write (length a * 8)) (write (length t * 8)), way.length_write (length a * 8), way.length_write (length t * 8)),
    All-append (λ byte. byte < 256) (write (length a * 8)) (write (length t * 8)) (way.bytes_write (length a * 8)) (way.bytes_write (length t * 8)),
  )

  encoded_are : (a t : List ℕ) → IsPart a → IsPart t → All IsBlock (encoded a t)
  encoded_are a t of_a of_t =
      All-append IsBlock (parts a t) (lengths a t ∷ [])
      (All-append IsBlock (blocks_of a) (blocks_of t) (first_blocks_are ((length a + 15) / 16) a of_a.0)
      (first_blocks_are ((length t + 15) / 16) t of_t.0))
      (single (lengths a t) (lengths_are a t))

  length-encoded : (a t : List ℕ) → length (encoded a t) ≡ (length a + 15) / 16 + (length t + 15) / 16 + 1
  length-encoded a t =
      omega (
        arith,
        length-append (parts a t) (lengths a t ∷ []),
        length-append (blocks_of a) (blocks_of t),
        length-first_blocks ((length a + 15) / 16) a,
        length-first_blocks ((length t + 15) / 16) t,
      )

  -- blocks of the same numbers are the same
  same_numbers : (xs ys : List (List ℕ)) → All IsBlock xs → All IsBlock ys → map number xs ≡ map number ys → xs ≡ ys
  same_numbers [] [] of_xs of_ys same = refl
  same_numbers [] (y ∷ ys) of_xs of_ys same = absurd (omega (arith, ap length same))
  same_numbers (x ∷ xs) [] of_xs of_ys same = absurd (omega (arith, ap length same))
  same_numbers (x ∷ xs) (y ∷ ys) of_xs of_ys same =
      ap₂ (λ (b : List ℕ) (bs : List (List ℕ)). b ∷ bs)
      (way.number_injective x y (of_xs 0 [] (omega arith)) (of_ys 0 [] (omega arith)) (ap (λ (zs : List ℕ). get_or zs 0 0) same))
      (same_numbers xs ys (λ j e within. of_xs (suc j) e (omega (arith, within))) (λ j e within. of_ys (suc j) e (omega (arith, within)))
      (ap (drop 1) same))

  numbers_fit : (xs : List (List ℕ)) → All IsBlock xs → All (λ x. x < 2 ^ 128) (map number xs)
  numbers_fit [] are k d within = absurd (omega (arith, within))
  numbers_fit (x ∷ xs) are zero d within = way.number_lt x (are 0 [] (omega arith))
  numbers_fit (x ∷ xs) are (suc k) d within =
      numbers_fit xs (λ j e j_within. are (suc j) e (omega (arith, j_within))) k d (omega (arith, within))

  -- the blocks of lengths are the last ones, so they are the same
  same_lengths : (a t b u : List ℕ) → HaveSameBlocks (map number (encoded a t)) (map number (encoded b u)) → lengths a t ≡ lengths b u
  same_lengths a t b u same =
      let left : List ℕ = map number (parts a t) in
      let right : List ℕ = map number (parts b u) in
      way.number_injective (lengths a t) (lengths b u) (lengths_are a t) (lengths_are b u)
      (sym (last_number left (number (lengths a t)))
      ∙ ap (λ (xs : List ℕ). get_or (reverse xs) 0 0) (sym (map-append number (parts a t) (lengths a t ∷ [])))
      ∙ same 0
      ∙ ap (λ (xs : List ℕ). get_or (reverse xs) 0 0) (map-append number (parts b u) (lengths b u ∷ []))
      ∙ last_number right (number (lengths b u)))

  eight_times : (m n : ℕ) → m < 2 ^ 61 → n < 2 ^ 61 → write (m * 8) ≡ write (n * 8) → m ≡ n
  eight_times m n m_fits n_fits same =
      let eight : m * 8 ≡ n * 8 = way.write_injective (m * 8) (n * 8) (omega (arith, m_fits)) (omega (arith, n_fits)) same in
      omega (arith, eight)

  parts_are_encoded : EncodesParts number encoded
  unfolding EncodesParts
  parts_are_encoded a t b u of_a of_t of_b of_u same =
      let last : lengths a t ≡ lengths b u = same_lengths a t b u same in
      let eight : length (write (length a * 8)) ≡ length (write (length b * 8)) =
      way.length_write (length a * 8) ∙ sym (way.length_write (length b * 8)) in
      let a_length : length a ≡ length b =
      eight_times (length a) (length b) of_a.1 of_b.1
      (same_first (write (length a * 8)) (write (length b * 8)) (write (length t * 8)) (write (length u * 8)) eight last) in
      let t_length : length t ≡ length u =
      eight_times (length t) (length u) of_t.1 of_u.1
      (same_rest (write (length a * 8)) (write (length b * 8)) (write (length t * 8)) (write (length u * 8)) eight last) in
      let counts : length (map number (encoded a t)) ≡ length (map number (encoded b u)) =
      length-map (encoded a t) number ∙ length-encoded a t
      ∙ ap₂ (λ (m n : ℕ). (m + 15) / 16 + (n + 15) / 16 + 1) a_length t_length
      ∙ sym (length-map (encoded b u) number ∙ length-encoded b u) in
      let blocks : encoded a t ≡ encoded b u =
      same_numbers (encoded a t) (encoded b u) (encoded_are a t of_a of_t) (encoded_are b u of_b of_u)
      (same_length_is_same (map number (encoded a t)) (map number (encoded b u)) counts same) in
      let a_count : length (blocks_of a) ≡ length (blocks_of b) =
      length-first_blocks ((length a + 15) / 16) a ∙ ap (λ (n : ℕ). (n + 15) / 16) a_length
      ∙ sym (length-first_blocks ((length b + 15) / 16) b) in
      let t_count : length (blocks_of t) ≡ length (blocks_of u) =
      length-first_blocks ((length t + 15) / 16) t ∙ ap (λ (n : ℕ). (n + 15) / 16) t_length
      ∙ sym (length-first_blocks ((length u + 15) / 16) u) in
      let both : length (parts a t) ≡ length (parts b u) =
      length-append (blocks_of a) (blocks_of t) ∙ ap₂ (λ (m n : ℕ). m + n) a_count t_count
      ∙ sym (length-append (blocks_of b) (blocks_of u)) in
      let same_parts : parts a t ≡ parts b u = same_first (parts a t) (parts b u) (lengths a t ∷ []) (lengths b u ∷ []) both blocks in (
        blocks_of-injective a b a_length (same_first (blocks_of a) (blocks_of b) (blocks_of t) (blocks_of u) a_count same_parts),
        blocks_of-injective t u t_length (same_rest (blocks_of a) (blocks_of b) (blocks_of t) (blocks_of u) a_count same_parts),
      )

  -- what holds of the hash of numbers holds of that of bytes
  module _ (of_numbers : ℕ → List ℕ → ℕ) (of_bytes : List ℕ → List (List ℕ) → List ℕ)
      (number_of_bytes : (key : List ℕ) (blocks : List (List ℕ)) → number (of_bytes key blocks) ≡ of_numbers (number key) (map number blocks))
      (few : AtMostCollide 128 of_numbers) where
    few_keys : FewKeysCollide number of_bytes encoded
    unfolding AtMostCollide EncodesParts FewKeysCollide
    few_keys n count difference a t b u key of_a of_t of_b of_u differ left_fits right_fits of_keys keys_differ collide =
        few n count difference (map number (encoded a t)) (map number (encoded b u)) (λ i. number (key i))
        (omega (arith, length-map (encoded a t) number, left_fits), numbers_fit (encoded a t) (encoded_are a t of_a of_t))
        (omega (arith, length-map (encoded b u) number, right_fits), numbers_fit (encoded b u) (encoded_are b u of_b of_u))
        (λ same. differ (parts_are_encoded a t b u of_a of_t of_b of_u same))
        record {
          below = λ i within. way.number_lt (key i) (of_keys i within);
          differ = λ i j i_within j_within same. keys_differ i j i_within j_within
              (way.number_injective (key i) (key j) (of_keys i i_within) (of_keys j j_within) same);
        }
        (λ i within.
        sym (ap₂ bit_xor (number_of_bytes (key i) (encoded a t)) (number_of_bytes (key i) (encoded b u)))
        ∙ collide i within)

-- ---- the two standards

-- the bytes of a number are bytes, in either order
byte_at-lt : (i n : ℕ) → byte_at i n < 256
byte_at-lt zero n = omega arith
byte_at-lt (suc i) n = omega arith

high_first_are : (k n : ℕ) → AreBytes (bytes_high_first k n)
high_first_are zero n = All-nil (λ byte. byte < 256)
high_first_are (suc k) n = All-cons (λ byte. byte < 256) (byte_at k n) (bytes_high_first k n) (byte_at-lt k n) (high_first_are k n)

low_first_are : (i k n : ℕ) → AreBytes (bytes_low_first i k n)
low_first_are i zero n = All-nil (λ byte. byte < 256)
low_first_are i (suc k) n =
    All-cons (λ byte. byte < 256) (byte_at i n) (bytes_low_first (suc i) k n) (byte_at-lt i n) (low_first_are (suc i) k n)

-- blocks and numbers are told apart where a number is read back from its bytes
told_apart : (number : List ℕ → ℕ) (write : ℕ → List ℕ) (read : List ℕ → ℕ)
    → ((b c : List ℕ) → IsBlock b → IsBlock c → number b ≡ number c → b ≡ c) → ((b : List ℕ) → IsBlock b → number b < 2 ^ 128)
    → ((n : ℕ) → length (write n) ≡ 8) → ((n : ℕ) → AreBytes (write n)) → ((n : ℕ) → n < 2 ^ 64 → read (write n) ≡ n)
    → TellsApart number write
told_apart number write read injective below long are back =
    record {
      number_injective = injective;
      number_lt = below;
      length_write = long;
      bytes_write = are;
      write_injective = λ m n m_fits n_fits same. sym (back m m_fits) ∙ ap read same ∙ back n n_fits;
    }

of_gcm : TellsApart (from_be_bytes w128) (to_be_bytes w64)
of_gcm =
    told_apart (from_be_bytes w128) (to_be_bytes w64) (from_be_bytes w64) from_be-injective from_be-lt (λ n. refl) (high_first_are 8)
    from_be_bytes-to_be_bytes_8

of_gcm_siv : TellsApart (from_le_bytes w128) (to_le_bytes w64)
of_gcm_siv =
    told_apart (from_le_bytes w128) (to_le_bytes w64) (from_le_bytes w64) from_le-injective from_le-lt (λ n. refl) (low_first_are 0 8)
    from_le_bytes-to_le_bytes_8

pub gcm_encodes_parts : GcmEncodesParts
gcm_encodes_parts = parts_are_encoded (from_be_bytes w128) (to_be_bytes w64) of_gcm

pub gcm_siv_encodes_parts : GcmSivEncodesParts
gcm_siv_encodes_parts = parts_are_encoded (from_le_bytes w128) (to_le_bytes w64) of_gcm_siv

-- the number of a hash that is written as bytes
hash_number : (product : ℕ → ℕ → ℕ) (number : List ℕ → ℕ) (bytes : ℕ → List ℕ) → ((a b : ℕ) → product a b < 2 ^ 128)
    → ((n : ℕ) → n < 2 ^ 128 → number (bytes n) ≡ n) → (key : ℕ) (blocks : List ℕ)
    → number (bytes (polynomial_hash product key blocks)) ≡ polynomial_hash product key blocks
hash_number product number bytes below back key blocks =
    back (polynomial_hash product key blocks) (fold-lt product key (λ a. below a _) 0 blocks (pow_pos 128))

ghash_number : (key : List ℕ) (blocks : List (List ℕ))
    → from_be_bytes w128 (ghash key blocks) ≡ gcm_hash (from_be_bytes w128 key) (map (from_be_bytes w128) blocks)
unfolding ghash
ghash_number key blocks =
    hash_number gcm_product (from_be_bytes w128) (to_be_bytes w128) gcm_product-lt from_be-to_be
    (from_be_bytes w128 key) (map (from_be_bytes w128) blocks)

polyval_number : (key : List ℕ) (blocks : List (List ℕ))
    → from_le_bytes w128 (polyval key blocks) ≡ polyval_hash (from_le_bytes w128 key) (map (from_le_bytes w128) blocks)
unfolding polyval
polyval_number key blocks =
    hash_number dot (from_le_bytes w128) (to_le_bytes w128) dot-lt from_le-to_le (from_le_bytes w128 key)
    (map (from_le_bytes w128) blocks)

pub gcm_collides : GcmCollides
gcm_collides = few_keys (from_be_bytes w128) (to_be_bytes w64) of_gcm gcm_hash ghash ghash_number ghash_collides

pub gcm_siv_collides : GcmSivCollides
gcm_siv_collides = few_keys (from_le_bytes w128) (to_le_bytes w64) of_gcm_siv polyval_hash polyval polyval_number polyval_collides
