-- Blocks of words in lanes: a block that is read and turned has each word in a lane, and what is done in lanes is done at each word.
use Rattle.std.proofs.Common.{◌≡◌, ℕ, ◌+◌, ◌-◌, ◌*◌, ◌/◌, ◌%◌, ◌<◌, ◌≤◌, ◌^◌, ◌⊎◌, inl, inr, List, get_or, sym, ◌∙◌, ap, subst, arith}
use Rattle.std.proofs.lemmas.Bool.{cases_lt}
use Rattle.std.proofs.lemmas.Nat.{div-add-mod', div_below, mul-le}
use Rattle.std.proofs.lemmas.Nat.Bits.{same_from_bits_below}
use Rattle.std.proofs.Math.Nat.{add-mul, mul_assoc, mul_comm}
use native.Mathlib.Nat.{mod-lt}
use Rattle.bit_slices.specs.Layout.{AreInLanes, AreKept, IsDoneUpTo, IsLaidOut, IsTurned}

-- after a turn each word is in a lane
pub turned_in_lanes : (level word_level each : ℕ) (a c word : ℕ → ℕ) → level ≡ word_level
    → IsLaidOut (2 ^ word_level) each (2 ^ level) a word → IsTurned level a c → ((l : ℕ) → c l < 2 ^ 2 ^ level)
    → AreInLanes (2 ^ word_level) each c word
turned_in_lanes level word_level each a c word same laid turned fits =
    subst (λ (v : ℕ). AreInLanes (2 ^ v) each c word) same
    (at_one (subst (λ (v : ℕ). IsLaidOut (2 ^ v) each (2 ^ level) a word) (sym same) laid))
  where
    at_one : IsLaidOut (2 ^ level) each (2 ^ level) a word → AreInLanes (2 ^ level) each c word
    at_one laid q r q_fits r_fits =
        same_from_bits_below (2 ^ level) (c (q * 2 ^ level + r)) (word (r * each + q)) (fits (q * 2 ^ level + r)) (laid.fit r q r_fits q_fits)
        (λ i less. turned i q r less r_fits ∙ laid.bits r q i r_fits q_fits less)

-- and the other way, before a turn
pub lanes_before_turn : (level word_level each : ℕ) (a c word : ℕ → ℕ) → level ≡ word_level
    → IsLaidOut (2 ^ word_level) each (2 ^ level) c word → IsTurned level a c → ((l : ℕ) → a l < 2 ^ 2 ^ level)
    → AreInLanes (2 ^ word_level) each a word
lanes_before_turn level word_level each a c word same laid turned fits =
    turned_in_lanes level word_level each c a word same laid (λ i q r i_fits r_fits. sym (turned r q i r_fits i_fits)) fits

-- the words of a block
pub words_of_block : (w bits units count : ℕ) → bits * count ≡ 128 → bits ≡ w → w * (units * count) ≡ 128 * units
words_of_block w bits units count whole is =
    let all : w * count ≡ 128 = ap (λ (n : ℕ). n * count) (sym is) ∙ whole in
    ap (λ (n : ℕ). w * n) (mul_comm units count) ∙ sym (mul_assoc w count units) ∙ ap (λ (n : ℕ). n * units) all

-- what is done in each lane is done at each word of the block
pub changed_words : (w each total start : ℕ) (gives : ℕ → ℕ → ℕ → Type 0) (before after old new : ℕ → ℕ) → w * each ≡ total
    → AreInLanes w each before old → AreInLanes w each after new
    → ((q r : ℕ) → q < each → r < w → gives (start + (r * each + q)) (before (q * w + r)) (after (q * w + r)))
    → (n : ℕ) → n < total → gives (start + n) (old n) (new n)
changed_words w each total start gives before after old new whole read written given n less =
    subst (λ (m : ℕ). gives (start + m) (old m) (new m)) place
    (subst (gives (start + (n / each * each + n % each)) (old (n / each * each + n % each))) (written (n % each) (n / each) q_fits r_fits)
    (subst (λ (x : ℕ). gives (start + (n / each * each + n % each)) x (after (n % each * w + n / each)))
    (read (n % each) (n / each) q_fits r_fits) (given (n % each) (n / each) q_fits r_fits)))
  where
    some : 0 < each
    some = pick (cases_lt 0 each)
      where
        pick : (0 < each) ⊎ (each ≤ 0) → 0 < each
        pick (inl h) = h
        pick (inr h) =
            let none : each ≡ 0 = omega (arith, h) in
            let nothing : w * each ≡ w * 0 = ap (λ (x : ℕ). w * x) none in
            absurd (omega (arith, nothing, whole, less))

    place : n / each * each + n % each ≡ n
    place = div-add-mod' n each

    q_fits : n % each < each
    q_fits = mod-lt n some

    r_fits : n / each < w
    r_fits = div_below n each w some (omega (arith, whole, less))

-- ---- one block more

-- the blocks so far, and what is behind them
abbrev pub BlocksDone : {W : Type 0} → ℕ → (ℕ → ℕ → ℕ → Type 0) → (W → ℕ) → List W → List W → ℕ → Type 0
BlocksDone size gives number old new blocks = IsDoneUpTo (blocks * size) gives number old new

-- the block after so many lies within the blocks
pub room_for_block : (size blocks number total : ℕ) → number < blocks → blocks * size ≤ total → number * size + size ≤ total
room_for_block size blocks number total less room =
    let most = mul-le (number + 1) size blocks size (omega (arith, less)) (omega arith) in
    let next = add-mul number 1 size in
    omega (arith, most, next, room)

pub one_more_block : {W : Type 0} (size : ℕ) (gives : ℕ → ℕ → ℕ → Type 0) (number : W → ℕ) (old now new : List W) (blocks start : ℕ)
    → start ≡ blocks * size → BlocksDone size gives number old now blocks
    → ((n : ℕ) → n < size → (d : W) → gives (start + n) (number (get_or now (start + n) d)) (number (get_or new (start + n) d)))
    → AreKept start size now new → BlocksDone size gives number old new (blocks + 1)
one_more_block {W} size gives number old now new blocks start is done changed kept = (kept.long ∙ done.0, before, behind)
  where
    next : (blocks + 1) * size ≡ start + size
    next = add-mul blocks 1 size ∙ omega (arith, is)

    before : (k : ℕ) → k < (blocks + 1) * size → (d : W) → gives k (number (get_or old k d)) (number (get_or new k d))
    before k less d = pick (cases_lt k start)
      where
        pick : (k < start) ⊎ (start ≤ k) → gives k (number (get_or old k d)) (number (get_or new k d))
        pick (inl h) =
            subst (λ (x : W). gives k (number (get_or old k d)) (number x)) (sym (kept.below k h d)) (done.1 k (omega (arith, h, is)) d)
        pick (inr h) =
            let place : start + (k - start) ≡ k = omega (arith, h) in
            subst (λ (x : W). gives k (number x) (number (get_or new k d))) (done.2 k (omega (arith, h, is)) d)
            (subst (λ (p : ℕ). gives p (number (get_or now p d)) (number (get_or new p d))) place
            (changed (k - start) (omega (arith, next, less, h)) d))

    behind : (k : ℕ) → (blocks + 1) * size ≤ k → (d : W) → get_or new k d ≡ get_or old k d
    behind k more d =
        let place : start + size + (k - (start + size)) ≡ k = omega (arith, next, more) in
        ap (λ (p : ℕ). get_or new p d) (sym place) ∙ kept.above (k - (start + size)) d ∙ ap (λ (p : ℕ). get_or now p d) place
        ∙ done.2 k (omega (arith, next, more, is)) d
