-- Powers of a root, one after the other.
use Rattle.std.proofs.Common.{◌≡◌, ◌≢◌, ℕ, suc, ◌+◌, ◌<◌, ◌≤◌, inl, inr, sym, ◌∙◌, ap, ap₂, arith}
use Rattle.std.proofs.lemmas.Bool.{cases_lt}
use Rattle.std.specs.Prelude.{bit_xor}
use Rattle.field_base.specs.Field.{IsField}
use Rattle.field_base.specs.Powers.{power}
use Rattle.field_base.proofs.RingLemmas.{sum_times}
use Rattle.error_codes.specs.Correcting.{HasOrder, code_value}
use Rattle.error_codes.proofs.CodeValues.{horner-next, next-power}

-- the next root of a code
pub next-root : (times : ℕ → ℕ → ℕ) (root first m x next : ℕ) → x ≡ power 1 times root (first + m) → next ≡ times x root
    → next ≡ power 1 times root (first + (m + 1))
next-root times root first m x next is next_is =
    next-power times root (first + m) x next is next_is ∙ ap (power 1 times root) more
  where
    more : first + m + 1 ≡ first + (m + 1)
    more = omega arith

-- no power from the first to this one is 1
abbrev pub HasNoOne : (ℕ → ℕ → ℕ) → ℕ → ℕ → Type 0
HasNoOne times root d = (n : ℕ) → 0 < n → n ≤ d → power 1 times root n ≢ 1

pub no-one-more : (times : ℕ → ℕ → ℕ) (root d next : ℕ) → HasNoOne times root d → next ≡ power 1 times root (d + 1) → next ≢ 1
    → HasNoOne times root (d + 1)
no-one-more times root d next before is other n some below =
    elim (cases_lt d n) [
      | inl last ↦
          let here : d + 1 ≡ n = omega (arith, last, below) in
          λ one. other (is ∙ ap (power 1 times root) here ∙ one)
      | inr early ↦ before n some early
    ]

pub order-of-no-one : (times : ℕ → ℕ → ℕ) (root d count : ℕ) → HasNoOne times root d → count ≤ d + 1 → HasOrder times root count
order-of-no-one times root d count before most n some below = before n some (omega (arith, most, below))

-- Horner's rule where the value so far stands for one by its low bits
pub horner-loose : (width : ℕ) (times : ℕ → ℕ → ℕ) → 0 < width → IsField width times
    → (n : ℕ) (word : ℕ → ℕ) (x value product symbol : ℕ) → times value 1 ≡ code_value times n word x → product ≡ times value x
    → symbol ≡ word n → times (bit_xor product symbol) 1 ≡ code_value times (n + 1) word x
horner-loose width times wide field n word x value product symbol value_is product_is symbol_is =
    sum_times width 1 times field.ring product symbol 1
    ∙ ap₂ bit_xor
    (ap (λ (z : ℕ). times z 1) product_is ∙ field.ring.assoc value x 1 ∙ ap (times value) (field.ring.comm x 1)
    ∙ sym (field.ring.assoc value 1 x) ∙ ap (λ (z : ℕ). times z x) value_is)
    (ap (λ (z : ℕ). times z 1) symbol_is)
    ∙ sym (horner-next width times wide field n word x) ∙ ap (λ (k : ℕ). code_value times k word x) more
  where
    more : suc n ≡ n + 1
    more = omega arith
