-- How elements lie in the lanes of a block of vectors, and how a block is transposed. A block of level k has 2^k vectors; bit i of the
-- number in lane l is bit l of vector i.
use Rattle.std.specs.Prelude.{◌≡◌, ℕ, suc, ◌+◌, ◌*◌, ◌<◌, ◌≤◌, ◌^◌, List, length, get_or}
use Rattle.std.specs.Int.{bit_at}

-- lanes `a` and `b` become `c` and `d`: those of `a` whose numbers have bit j set, and those of `b` whose numbers have not, change places
pub record AreLanesExchanged (j : ℕ) (a b c d : ℕ → ℕ) : Type 0 where
  pub low_even : (h r : ℕ) → r < 2 ^ j → c (h * 2 ^ suc j + r) ≡ a (h * 2 ^ suc j + r)
  pub low_odd : (h r : ℕ) → r < 2 ^ j → c (h * 2 ^ suc j + (2 ^ j + r)) ≡ b (h * 2 ^ suc j + r)
  pub high_even : (h r : ℕ) → r < 2 ^ j → d (h * 2 ^ suc j + r) ≡ a (h * 2 ^ suc j + (2 ^ j + r))
  pub high_odd : (h r : ℕ) → r < 2 ^ j → d (h * 2 ^ suc j + (2 ^ j + r)) ≡ b (h * 2 ^ suc j + (2 ^ j + r))

-- `AreLanesExchanged` at j = 0, for the words of vectors: odd words of `a` and even words of `b` change places
pub record AreWordsExchanged (a b c d : ℕ → ℕ) : Type 0 where
  pub low_even : (h : ℕ) → c (h * 2) ≡ a (h * 2)
  pub low_odd : (h : ℕ) → c (h * 2 + 1) ≡ b (h * 2)
  pub high_even : (h : ℕ) → d (h * 2) ≡ a (h * 2 + 1)
  pub high_odd : (h : ℕ) → d (h * 2 + 1) ≡ b (h * 2 + 1)

-- a block of level k is transposed in squares of 2^k lanes: bit i of lane r of a square is what bit r of its lane i was
abbrev pub IsTurned : ℕ → (ℕ → ℕ) → (ℕ → ℕ) → Type 0
IsTurned k a c = (i q r : ℕ) → i < 2 ^ k → r < 2 ^ k → bit_at (c (q * 2 ^ k + r)) i ≡ bit_at (a (q * 2 ^ k + i)) r

-- words lie in vectors as they lie in memory: `each` words of `width` bits in a vector, and `count` vectors. Bit v of lane q width + i is
-- bit i of word v each + q, and no word has more bits.
pub record IsLaidOut (width each count : ℕ) (lane word : ℕ → ℕ) : Type 0 where
  pub bits : (v q i : ℕ) → v < count → q < each → i < width → bit_at (lane (q * width + i)) v ≡ bit_at (word (v * each + q)) i
  pub fit : (v q : ℕ) → v < count → q < each → word (v * each + q) < 2 ^ width

-- a word is in a lane of its own: word r each + q in lane q width + r
abbrev pub AreInLanes : ℕ → ℕ → (ℕ → ℕ) → (ℕ → ℕ) → Type 0
AreInLanes width each lane word = (q r : ℕ) → q < each → r < width → lane (q * width + r) ≡ word (r * each + q)

-- the words are as they were, but for `count` of them from `start` on
pub record AreKept {W : Type 0} (start count : ℕ) (old new : List W) : Type 0 where
  pub long : length new ≡ length old
  pub below : (p : ℕ) → p < start → (d : W) → get_or new p d ≡ get_or old p d
  pub above : (p : ℕ) (d : W) → get_or new (start + count + p) d ≡ get_or old (start + count + p) d

-- each word before place `end` is, by its number, related to what it was, and those from there on are as they were
abbrev pub IsDoneUpTo : {W : Type 0} → ℕ → (ℕ → ℕ → ℕ → Type 0) → (W → ℕ) → List W → List W → Type 0
IsDoneUpTo {W} end gives number old new =
    (length new ≡ length old)
    × ((k : ℕ) → k < end → (d : W) → gives k (number (get_or old k d)) (number (get_or new k d)))
    × ((k : ℕ) → end ≤ k → (d : W) → get_or new k d ≡ get_or old k d)

-- each word from place `start` on is, by its number, related to what it was, and those before are as they were
abbrev pub IsDoneFrom : {W : Type 0} → ℕ → (ℕ → ℕ → ℕ → Type 0) → (W → ℕ) → List W → List W → Type 0
IsDoneFrom {W} start gives number old new =
    (length new ≡ length old)
    × ((k : ℕ) → k < start → (d : W) → get_or new k d ≡ get_or old k d)
    × ((k : ℕ) → start ≤ k → k < length new → (d : W) → gives k (number (get_or old k d)) (number (get_or new k d)))
