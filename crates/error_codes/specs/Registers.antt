-- Shift registers (E. R. Berlekamp, Algebraic coding theory, 1968; J. L. Massey, Shift-register synthesis and BCH
-- decoding, 1969): the step of their algorithm leads from a shortest register of l entries to one of l + 1.
use Rattle.std.specs.Prelude.{◌≡◌, ◌≢◌, ◌⊎◌, ℕ, suc, ◌+◌, ◌-◌, ◌<◌, ◌≤◌, List, length, Bool, true, bit_xor}
use Rattle.field_base.specs.Basis.{sum_below}
use Rattle.field_base.specs.Field.{IsField}
use Rattle.error_codes.specs.Checks.{AreScaled, IsSent, key_sum, syndrome}
use Rattle.error_codes.specs.Words.{at}

-- entry p and the L entries before it, times the coefficients of a register
abbrev pub register_sum : (ℕ → ℕ → ℕ) → (ℕ → ℕ) → ℕ → (ℕ → ℕ) → ℕ → ℕ
register_sum times entry L c p = sum_below (λ i. times (c i) (entry (p - i))) (suc L)

-- a register of length L gives the first l entries
pub record IsRegister (times : ℕ → ℕ → ℕ) (entry : ℕ → ℕ) (L l : ℕ) (c : ℕ → ℕ) : Type 0 where
  pub first : c 0 ≡ 1
  pub short : (i : ℕ) → L < i → c i ≡ 0
  pub sums : (p : ℕ) → L ≤ p → p < l → register_sum times entry L c p ≡ 0

-- and none is shorter
pub record IsShortest (times : ℕ → ℕ → ℕ) (entry : ℕ → ℕ) (L l : ℕ) (c : ℕ → ℕ) : Type 0 where
  pub register : IsRegister times entry L l c
  pub least : (M : ℕ) (d : ℕ → ℕ) → IsRegister times entry M l d → L ≤ M

-- Massey's bound: where a register fails at entry l, one that gives this entry too has at least the length l + 1 - L
abbrev pub RegistersAreLong : Type 0
RegistersAreLong =
    (width : ℕ) (times : ℕ → ℕ → ℕ) → 0 < width → IsField width times
    → (entry : ℕ → ℕ) (L M l : ℕ) (c d : ℕ → ℕ) → IsRegister times entry L l c → register_sum times entry L c l ≢ 0
    → IsRegister times entry M (suc l) d → l < L + M

-- where it does not fail it stays
abbrev pub RegistersStay : Type 0
RegistersStay =
    (times : ℕ → ℕ → ℕ) (entry : ℕ → ℕ) (L l : ℕ) (c : ℕ → ℕ) → IsShortest times entry L l c
    → register_sum times entry L c l ≡ 0
    → IsShortest times entry L (suc l) c

-- where all entries were 0, any register of length l + 1 is a shortest
abbrev pub RegistersStart : Type 0
RegistersStart =
    (width : ℕ) (times : ℕ → ℕ → ℕ) → 0 < width → IsField width times
    → (entry : ℕ → ℕ) (l : ℕ) (c d : ℕ → ℕ) → IsShortest times entry 0 l c → register_sum times entry 0 c l ≢ 0
    → d 0 ≡ 1 → ((i : ℕ) → suc l < i → d i ≡ 0) → IsShortest times entry (suc l) (suc l) d

-- Else a multiple of an older register b, which failed at entry g, is added so many places on that the failures meet.
-- With L + K = g + 1 the new length is L, or l + 1 - L if that is more.
abbrev pub RegistersLeadOn : Type 0
RegistersLeadOn =
    (width : ℕ) (times : ℕ → ℕ → ℕ) → 0 < width → IsField width times
    → (entry : ℕ → ℕ) (L l K g shift N a : ℕ) (b c d : ℕ → ℕ)
    → IsShortest times entry L l c → register_sum times entry L c l ≢ 0
    → IsRegister times entry K g b → L + K ≡ suc g → shift + g ≡ l → 0 < shift
    → times a (register_sum times entry K b g) ≡ register_sum times entry L c l
    → L ≤ N → suc l ≤ N + L → (N ≡ L) ⊎ (N + L ≡ suc l)
    → ((i : ℕ) → i < shift → d i ≡ c i) → ((i : ℕ) → d (shift + i) ≡ bit_xor (c (shift + i)) (times a (b i)))
    → IsShortest times entry N (suc l) d

-- A shortest register of the syndromes (with erasures, of the sums of gamma) is no longer than t where a word is meant:
-- so `RegistersSolve` serves.
abbrev pub RegistersAreShort : Type 0
RegistersAreShort =
    (width : ℕ) (times : ℕ → ℕ → ℕ) → 0 < width → IsField width times
    → (checks n e t : ℕ) (point scale word : ℕ → ℕ) (erased : ℕ → Bool) → AreScaled width n point scale
    → (gamma : List ℕ) → length gamma ≡ e + 1 → ((i : ℕ) → i < n → erased i ≡ true → at times gamma (point i) ≡ 0)
    → (c : ℕ → ℕ) → IsSent width times checks n t point scale word erased c
    → (L l : ℕ) (d : ℕ → ℕ) → l + e ≡ checks
    → IsShortest times (key_sum times gamma (syndrome times n point scale word)) L l d → L ≤ t
