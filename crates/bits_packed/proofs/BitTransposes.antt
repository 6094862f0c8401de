-- Blocks of 64 words, one of each row, that are written one behind the other.
use Rattle.std.proofs.Common.{◌≡◌, ◌≢◌, ◌⊎◌, inl, inr, ℕ, ◌+◌, ◌*◌, ◌-◌, ◌/◌, ◌%◌, ◌<◌, ◌≤◌, List, length, refl, sym, ◌∙◌, ap, ap₂, arith, below_more, get_or, get_or-set_other, get_or-set_same, map, set}
use Rattle.std.specs.Prelude.{slice_index, slice_set}
use Rattle.std.specs.Int.{bit_at}
use Rattle.std.proofs.lemmas.Bool.{cases_lt}
use Rattle.std.proofs.lemmas.List.{get_or-map, length-set}
use Rattle.field_slices.proofs.MatrixRows.{places-differ}
use Rattle.field_base.proofs.Places.{number-set_other, number-set_same}
use Rattle.bits_packed.specs.BitMatrices.{IsBlockWritten, bit_entry, entry_within, row_word, word_of}
use Rattle.bits_packed.proofs.WordColumns.{entry_of_word, row_bits}

pub block_start : (rows words first word : ℕ) (wanted : ℕ → ℕ → ℕ) (old : List ℕ) → IsBlockWritten rows words first 0 word wanted old old
block_start rows words first word wanted old =
    record {
      shape = refl;
      written = λ i b past below inside short. absurd (omega (arith, past, below));
      before = λ i j inside fits outside. refl;
      others = λ i j inside fits outside. refl;
    }

-- some rows more
pub block_more : (rows words first next n m word : ℕ) (wanted more : ℕ → ℕ → ℕ) (old now after : List ℕ) → next ≡ first + n → word < words
    → ((i b : ℕ) → next ≤ i → i < next + m → i < rows → b < 64 → more i b ≡ wanted i b)
    → IsBlockWritten rows words first n word wanted old now → IsBlockWritten rows words next m word more now after
    → IsBlockWritten rows words first (n + m) word wanted old after
block_more rows words first next n m word wanted more old now after is within same so_far write =
    record {
      shape = write.shape ∙ so_far.shape;
      written = λ i b past below inside short. elim (cases_lt i next) [
        | inl earlier ↦
            write.before i (64 * word + b) inside (omega (arith, within, short)) (inl earlier)
            ∙ so_far.written i b past (omega (arith, earlier, is)) inside short
        | inr later ↦ write.written i b later (omega (arith, below, is)) inside short ∙ same i b later (omega (arith, below, is)) inside short
      ];
      before = λ i j inside fits outside.
          write.before i j inside fits (outside_more i outside) ∙ so_far.before i j inside fits (outside_first i outside);
      others = λ i j inside fits outside. write.others i j inside fits outside ∙ so_far.others i j inside fits outside;
    }
  where
    outside_more : (i : ℕ) → (i < first) ⊎ (first + (n + m) ≤ i) → (i < next) ⊎ (next + m ≤ i)
    outside_more i (inl earlier) = inl (omega (arith, earlier, is))
    outside_more i (inr later) = inr (omega (arith, later, is))

    outside_first : (i : ℕ) → (i < first) ⊎ (first + (n + m) ≤ i) → (i < first) ⊎ (first + n ≤ i)
    outside_first i (inl earlier) = inl earlier
    outside_first i (inr later) = inr (omega (arith, later))

-- one word is written
module _ (rows words row word at value : ℕ) (old now : List ℕ) (is : at ≡ row * words + word) (within : word < words) (inside_list : at < length old)
    (sets : now ≡ slice_set old at value) where
  read_same : word_of words now row word ≡ value
  read_same =
      ap (λ (values : List ℕ). slice_index values (row * words + word)) sets ∙ ap (slice_index (slice_set old at value)) (sym is)
      ∙ get_or-set_same old at value 0 inside_list

  read_other : (i v : ℕ) → v < words → (i ≢ row) ⊎ (v ≢ word) → word_of words now i v ≡ word_of words old i v
  read_other i v fits differs =
      ap (λ (values : List ℕ). slice_index values (i * words + v)) sets
      ∙ get_or-set_other old at (i * words + v) value 0 (λ e. places-differ words i v row word fits within differs (e ∙ is))

  pub word_put : IsBlockWritten rows words row 1 word (λ i b. bit_at value b) old now
  word_put =
      record {
        shape = ap length sets ∙ length-set old at value;
        written = λ i b past below inside short.
            let own : i ≡ row = omega (arith, past, below) in
            entry_of_word words now i word b short
            ∙ ap (λ (k : ℕ). bit_at (word_of words now k word) b) own ∙ ap (λ (x : ℕ). bit_at x b) read_same;
        before = λ i j inside fits outside.
            ap (λ (x : ℕ). bit_at x (j % 64)) (read_other i (j / 64) (omega (arith, fits)) (inl (other_row i outside)));
        others = λ i j inside fits outside.
            ap (λ (x : ℕ). bit_at x (j % 64)) (read_other i (j / 64) (omega (arith, fits)) (inr (other_word j outside)));
      }
    where
      other_row : (i : ℕ) → (i < row) ⊎ (row + 1 ≤ i) → i ≢ row
      other_row i (inl earlier) = λ e. absurd (omega (arith, e, earlier))
      other_row i (inr later) = λ e. absurd (omega (arith, e, later))

      other_word : (j : ℕ) → (j < 64 * word) ⊎ (64 * word + 64 ≤ j) → j / 64 ≢ word
      other_word j (inl earlier) = λ e. absurd (omega (arith, e, earlier))
      other_word j (inr later) = λ e. absurd (omega (arith, e, later))

-- or none, where there is no row
pub word_missing : (rows words row word value : ℕ) (old : List ℕ) → rows ≤ row
    → IsBlockWritten rows words row 1 word (λ i b. bit_at value b) old old
word_missing rows words row word value old none =
    record {
      shape = refl;
      written = λ i b past below inside short. absurd (omega (arith, past, inside, none));
      before = λ i j inside fits outside. refl;
      others = λ i j inside fits outside. refl;
    }

-- what a transposed block has is the entry in the place of its row and column
pub turned_bit : (rows words word block i b : ℕ) (source taken turned : List ℕ)
    → ((k : ℕ) → k < 64 → slice_index taken k ≡ row_word rows words source (64 * word + k) block)
    → ((k l : ℕ) → k < 64 → l < 64 → bit_at (slice_index turned k) l ≡ bit_at (slice_index taken l) k)
    → 64 * block ≤ i → i < 64 * block + 64 → b < 64
    → bit_at (slice_index turned (i - 64 * block)) b ≡ entry_within rows (bit_entry words source) (64 * word + b) i
turned_bit rows words word block i b source taken turned takes turns past below short =
    let quotient : block ≡ i / 64 = omega (arith, past, below) in
    let rest : i - 64 * block ≡ i % 64 = omega (arith, past, below) in
    turns (i - 64 * block) b (omega (arith, past, below)) short ∙ ap (λ (x : ℕ). bit_at x (i - 64 * block)) (takes b short)
    ∙ ap₂ (λ (v k : ℕ). bit_at (row_word rows words source (64 * word + b) v) k) quotient rest
    ∙ row_bits rows words source (64 * word + b) i

-- one element more of a list whose elements stand for numbers
pub number_more : {V : Type 0} (xs : List V) (n : ℕ) (x : V) (number : V → ℕ) (wanted : ℕ → ℕ) → n < length xs → number x ≡ wanted n
    → ((k : ℕ) → k < n → slice_index (map number xs) k ≡ wanted k) → (k : ℕ) → k < n + 1 → slice_index (map number (set xs n x)) k ≡ wanted k
number_more xs n x number wanted inside is before =
    below_more (λ k. slice_index (map number (set xs n x)) k ≡ wanted k) n
    (λ k below. number-set_other number xs n k x (λ e. absurd (omega (arith, e, below))) ∙ before k below)
    (number-set_same number xs n x inside ∙ is)

-- and what is read of one
pub number_read : {V : Type 0} (xs : List V) (n : ℕ) (x : V) (number : V → ℕ) → n < length xs
    → number (get_or xs n x) ≡ slice_index (map number xs) n
number_read xs n x number inside = sym (get_or-map number xs n x 0 inside)
