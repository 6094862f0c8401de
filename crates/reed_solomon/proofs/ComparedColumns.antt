-- A column is a code word exactly where its parity has the values of the polynomial of its data.
use Rattle.std.proofs.Common.{◌≡◌, ℕ, ◌+◌, ◌^◌, ◌<◌, ◌≤◌, List, sym, ◌∙◌, arith}
use Rattle.std.proofs.lemmas.Bool.Decides.{nat_tests}
use Rattle.reed_solomon.specs.Codes.{AreOfData, IsCodedColumn, value_at}
use Rattle.reed_solomon.specs.Determined.{symbol_of}
use Rattle.reed_solomon.proofs.CodeWordPlaces.{shards_determine}

module _ (level n k m : ℕ) (symbol parity : ℕ → ℕ) where
  symbol-first : (i : ℕ) → i < k → symbol_of k symbol parity i ≡ symbol i
  symbol-first i below = grind (arith, nat_tests)

  symbol-behind : (t : ℕ) → symbol_of k symbol parity (k + t) ≡ parity t
  symbol-behind t = grind (arith, nat_tests)

-- the parity of a code word is that which the polynomial of its data gives
pub parity_is_computed : (level n k m : ℕ) (symbol parity computed : ℕ → ℕ) (coefficients : List ℕ)
    → level ≤ 7 → k ≤ 2 ^ n → 2 ^ n + m ≤ 2 ^ 2 ^ level
    → AreOfData level n k symbol coefficients
    → ((t : ℕ) → t < m → computed t ≡ value_at level n coefficients (2 ^ n + t))
    → IsCodedColumn level n k m symbol parity
    → (t : ℕ) → t < m → parity t ≡ computed t
parity_is_computed level n k m symbol parity computed coefficients low padded room of_data of_parity word t below =
    sym (symbol-behind level n k m symbol parity t)
    ∙ shards_determine level n k m symbol parity symbol computed (λ i. i) low padded room word
    (record { coefficients = coefficients; of_data = of_data; of_parity = of_parity })
    (record { below = λ i i_below. omega (arith, i_below); differ = λ i j i_below j_below same. same })
    (λ i i_below. symbol-first level n k m symbol parity i i_below ∙ sym (symbol-first level n k m symbol computed i i_below))
    (k + t) (omega (arith, below))
    ∙ symbol-behind level n k m symbol computed t
