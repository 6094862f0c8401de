-- Entries of a list at marked places, and the secret of shares.
use Rattle.std.proofs.Common.{◌≡◌, ℕ, zero, suc, ◌+◌, ◌<◌, List, [], ◌∷◌, ◌++◌, Bool, true, false, length, refl, sym, ◌∙◌, ap, ap₂, subst, arith}
use Rattle.std.specs.Prelude.{cond, slice_index}
use Rattle.std.proofs.lemmas.List.{append-nil}
use native.Mathlib.Numerals.{add-one}
use Rattle.field_base.specs.Powers.{value_of}
use Rattle.reed_solomon.specs.ByteFields.{byte_times}
use Rattle.error_codes.specs.Refusals.{AreShares}
use Rattle.error_codes.specs.Wrong.{AreNearPolynomials, is_wrong_share}
use Rattle.reed_solomon.specs.declared.byte_field.ByteField.{ByteField}
use Rattle.secret.specs.Combining.{IsSecretOf, entries_at}
use Rattle.secret.specs.Records.{IsNumber}

pub no-entries : (marked : ℕ → Bool) (entries : List ℕ) → [] ≡ entries_at marked entries 0
unfolding entries_at
no-entries marked entries = refl

-- one entry more
pub entry-taken : (marked : ℕ → Bool) (entries some more : List ℕ) (i entry : ℕ) → some ≡ entries_at marked entries i → marked i ≡ true
    → entry ≡ slice_index entries i → more ≡ some ++ entry ∷ [] → more ≡ entries_at marked entries (i + 1)
unfolding entries_at
entry-taken marked entries some more i entry so_far is entry_is more_is =
    more_is ∙ ap₂ (λ (front rest : List ℕ). front ++ rest) so_far
    (ap (λ (e : ℕ). e ∷ []) entry_is ∙ ap (λ (b : Bool). cond b (slice_index entries i ∷ []) []) (sym is))
    ∙ ap (entries_at marked entries) (sym (add-one i))

-- and none
pub entry-left : (marked : ℕ → Bool) (entries some more : List ℕ) (i : ℕ) → some ≡ entries_at marked entries i → marked i ≡ false
    → more ≡ some → more ≡ entries_at marked entries (i + 1)
unfolding entries_at
entry-left marked entries some more i so_far is more_is =
    more_is ∙ so_far ∙ sym (append-nil (entries_at marked entries i))
    ∙ ap (λ (rest : List ℕ). entries_at marked entries i ++ rest) (ap (λ (b : Bool). cond b (slice_index entries i ∷ []) []) (sym is))
    ∙ ap (entries_at marked entries) (sym (add-one i))

-- equal marks take equal entries
pub entries-same : (a b : ℕ → Bool) (entries : List ℕ) (n : ℕ) → ((i : ℕ) → i < n → a i ≡ b i)
    → entries_at a entries n ≡ entries_at b entries n
unfolding entries_at
entries-same a b entries zero same = refl
entries-same a b entries (suc n) same =
    ap₂ (λ (front rest : List ℕ). front ++ rest) (entries-same a b entries n (λ i below. same i (omega (arith, below))))
    (ap (λ (c : Bool). cond c (slice_index entries n ∷ []) []) (same n (omega arith)))

-- ---- a secret of shares

-- what is combined is it
pub is-secret : (field : ByteField) (first indexes shares secret : List ℕ) (size : ℕ) (marked : ℕ → Bool)
    → IsNumber field (slice_index first 0) → length secret ≡ size → AreShares (slice_index first 1) indexes size (length shares)
    → (polynomials : ℕ → List ℕ) → AreNearPolynomials field (slice_index first 1) indexes size shares polynomials
    → ((j : ℕ) → j < size → slice_index secret j ≡ value_of 1 (byte_times field) (λ c. c) (polynomials j) 0)
    → ((i : ℕ) → i < length indexes → marked i ≡ is_wrong_share field indexes size shares polynomials i)
    → IsSecretOf first indexes shares secret (entries_at marked indexes (length indexes))
is-secret field first indexes shares secret size marked number long are polynomials near at_zero named = record {
  field = field;
  number = number;
  shares_are = subst (λ (n : ℕ). AreShares (slice_index first 1) indexes n (length shares)) (sym long) are;
  polynomials = polynomials;
  near = subst (λ (n : ℕ). AreNearPolynomials field (slice_index first 1) indexes n shares polynomials) (sym long) near;
  at_zero = λ j inside. at_zero j (omega (arith, inside, long));
  named =
      entries-same marked (is_wrong_share field indexes (length secret) shares polynomials) indexes (length indexes)
      (λ i below. named i below ∙ ap (λ (n : ℕ). is_wrong_share field indexes n shares polynomials i) (sym long));
}
