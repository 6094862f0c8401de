-- Words that are sent interleaved (CCSDS 131.0-B, symbol interleaving): the first symbols of all words, one after the
-- other, then the second symbols, so that the words are the columns of a matrix. The depth is how many words there are.
use Rattle.std.specs.Prelude.{◌≡◌, ℕ, ◌+◌, ◌*◌, ◌<◌, List, map, slice_index, Bool, true, false}
use Rattle.std.specs.List.{range_with_len}
use Rattle.field_base.specs.Powers.{power}
use Rattle.error_codes.specs.Correcting.{HasRoots, IsMeant, code_value}

-- word c, of n symbols
abbrev pub interleaved_word : ℕ → ℕ → List ℕ → ℕ → List ℕ
interleaved_word n depth symbols c = map (λ i. slice_index symbols (i * depth + c)) (range_with_len 0 n)

module _ (times : ℕ → ℕ → ℕ) (root first n checks : ℕ) where
  -- the values of the words at the roots, interleaved like their symbols
  abbrev pub AreWordValues : ℕ → List ℕ → List ℕ → Type 0
  AreWordValues depth words values =
      (c m : ℕ) → c < depth → m < checks → slice_index (interleaved_word checks depth values c) m
      ≡ code_value times n (slice_index (interleaved_word n depth words c)) (power 1 times root (first + m))

  -- code words that begin with the k symbols of data of others
  pub record AreEncoded (depth k : ℕ) (old new : List ℕ) : Type 0 where
    pub kept : (c i : ℕ) → c < depth → i < k
        → slice_index (interleaved_word n depth new c) i ≡ slice_index (interleaved_word n depth old c) i
    pub encoded : (c : ℕ) → c < depth → HasRoots times root first checks (interleaved_word n depth new c)

  -- what correction leaves of a received word, and whether it says that this is the word that was meant
  pub record IsSettled (received erasures : List ℕ) (said : Bool) (left : List ℕ) : Type 0 where
    pub found : (sent : List ℕ) → IsMeant times root first n checks received erasures sent → (said ≡ true) × (left ≡ sent)
    pub right : said ≡ true → IsMeant times root first n checks received erasures left
    pub kept : said ≡ false → left ≡ received

-- tables of the first scalars, 32 entries for each: its products by 0, .., 15, and then by 0, 16, .., 240
pub record HaveProducts (times : ℕ → ℕ → ℕ) (scalars : List ℕ) (count : ℕ) (tables : List ℕ) : Type 0 where
  pub low : (j n : ℕ) → j < count → n < 16 → slice_index tables (32 * j + n) ≡ times n (slice_index scalars j)
  pub high : (j n : ℕ) → j < count → n < 16 → slice_index tables (32 * j + 16 + n) ≡ times (16 * n) (slice_index scalars j)
