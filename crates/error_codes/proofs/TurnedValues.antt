-- The values of a word at the roots, and what the difference to another word adds to them at each place.
use Rattle.std.proofs.Common.{◌≡◌, ℕ, ◌+◌, ◌<◌, sym, ◌∙◌, ap, ap₂}
use Rattle.std.specs.Prelude.{bit_xor}
use lib.Bits.{xor_assoc, xor_zero_r}
use Rattle.field_base.specs.Basis.{sum_below}
use Rattle.field_base.specs.Field.{IsField}
use Rattle.field_base.specs.Powers.{power}
use Rattle.field_base.proofs.RingLemmas.{times-zero, xor_cancel, zero-times}
use Rattle.error_codes.specs.Checks.{syndrome}
use Rattle.error_codes.specs.Correcting.{code_value}
use Rattle.error_codes.specs.Filling.{falling_point, falling_scale}
use Rattle.error_codes.proofs.Checks.{syndrome-sum}
use Rattle.error_codes.proofs.CodeValues.{syndrome-value}
use Rattle.error_codes.proofs.Moments.{sum-next}

module _ (width : ℕ) (times : ℕ → ℕ → ℕ) (wide : 0 < width) (field : IsField width times) (n root first : ℕ) (word other : ℕ → ℕ) where
  abbrev value : (ℕ → ℕ) → ℕ → ℕ
  value w m = code_value times n w (power 1 times root (first + m))

  abbrev term : ℕ → ℕ → ℕ
  term m i = times (times (falling_scale times root first n i) (bit_xor (word i) (other i))) (power 1 times (falling_point times root n i) m)

  -- value m, with what is added for the first i places
  abbrev pub turned : ℕ → ℕ → ℕ
  turned i m =
      bit_xor (code_value times n word (power 1 times root (first + m)))
      (sum_below (λ j. times (times (falling_scale times root first n j) (bit_xor (word j) (other j)))
      (power 1 times (falling_point times root n j) m)) i)

  pub turned-starts : (m v : ℕ) → v ≡ code_value times n word (power 1 times root (first + m)) → v ≡ turned 0 m
  unfolding sum_below
  turned-starts m v is = is ∙ sym (xor_zero_r (value word m))

  pub turned-more : (i m v next factor : ℕ) → v ≡ turned i m
      → factor ≡ times (falling_scale times root first n i) (bit_xor (word i) (other i))
      → next ≡ bit_xor v (times factor (power 1 times (falling_point times root n i) m)) → next ≡ turned (i + 1) m
  turned-more i m v next factor is factor_is next_is =
      next_is ∙ ap₂ (λ (a f : ℕ). bit_xor a (times f (power 1 times (falling_point times root n i) m))) is factor_is
      ∙ xor_assoc (value word m) (sum_below (term m) i) (term m i) ∙ ap (bit_xor (value word m)) (sum-next (term m) i)

  pub turned-same : (i m v : ℕ) → v ≡ turned i m → bit_xor (word i) (other i) ≡ 0 → v ≡ turned (i + 1) m
  turned-same i m v is none =
      is ∙ ap (bit_xor (value word m)) (sym (xor_zero_r (sum_below (term m) i)) ∙ ap (bit_xor (sum_below (term m) i)) (sym nothing)
      ∙ sum-next (term m) i)
    where
      nothing : term m i ≡ 0
      nothing =
          ap (λ (d : ℕ). times (times (falling_scale times root first n i) d) (power 1 times (falling_point times root n i) m)) none
          ∙ ap (λ (z : ℕ). times z (power 1 times (falling_point times root n i) m))
          (times-zero width 1 times field.ring (falling_scale times root first n i))
          ∙ zero-times width 1 times field.ring (power 1 times (falling_point times root n i) m)

  -- behind the last place it is the value of the other word
  pub turned-ends : (m v : ℕ) → v ≡ turned n m → v ≡ code_value times n other (power 1 times root (first + m))
  turned-ends m v is =
      is
      ∙ ap₂ bit_xor (sym (syndrome-value width times wide field n root first m word))
      (syndrome-sum width times wide field n (falling_point times root n) (falling_scale times root first n) word other m)
      ∙ xor_cancel (syndrome times n (falling_point times root n) (falling_scale times root first n) word m)
      (syndrome times n (falling_point times root n) (falling_scale times root first n) other m)
      ∙ syndrome-value width times wide field n root first m other
