-- How calls that restore a secret end, once it is known.
use Rattle.std.proofs.Common.{◌≡◌, ◌≢◌, ℕ, ◌<◌, List, arith, length, refl, sym, subst, ◌∙◌}
use Rattle.std.specs.Prelude.{cond, slice_index}
use Rattle.field_base.specs.Powers.{value_of}
use Rattle.reed_solomon.specs.ByteFields.{byte_modulus, byte_times}
use Rattle.error_codes.specs.Refusals.{AreShares}
use Rattle.error_codes.specs.Sharing.{IsCombined, LieOnPolynomials}
use Rattle.error_codes.specs.Wrong.{AreNearPolynomials, is_wrong_share}
use Rattle.reed_solomon.specs.declared.byte_field.ByteField.{ByteField}
use Rattle.reed_solomon.specs.declared.byte_field.ByteField.TheVariants.{Ccsds}
use Rattle.c_calls.proofs.BinaryCalls.{one-field}
use Rattle.c_calls.specs.Secrets.{AreNear, CombinesShares, CorrectsShares, IsRightSecret}
use Rattle.c_calls.specs.declared.status.TheConstants.{OK, UNSOLVABLE}

module _ (field : ByteField) (modulus k : ℕ) (indexes shares old new : List ℕ) (known : byte_modulus field ≡ modulus)
    (shared : field ≢ Ccsds)
    (whole : AreShares k indexes (length old) (length shares)) where
  -- the shares agree, and the secret is restored
  pub call_combined : LieOnPolynomials field k indexes (length old) shares → IsCombined field k indexes shares new
      → length new ≡ length old → CombinesShares modulus k indexes shares old new OK
  call_combined lie made long =
      record {
        code = λ none. absurd (none ((field, known, shared), whole.two));
        few = λ _ _ few. absurd (omega (arith, few, whole.enough));
        wrong_indexes = λ _ _ _ none. absurd (none (whole.few, whole.nonzero, whole.distinct));
        wrong_lengths = λ _ _ _ _ none. absurd (none (whole.some, whole.room));
        wrong_shares = λ _ _ _ _ _ _ none. absurd
            (none (λ other same. subst (λ (f : ByteField). LieOnPolynomials f k indexes (length old) shares) (one-field field other (known ∙ sym same)) lie));
        ok = λ _ _ _ _ _ _ _. (
          refl,
          (λ other same. subst (λ (f : ByteField). IsCombined f k indexes shares new) (one-field field other (known ∙ sym same)) made),
          long,
        );
        kept = λ other. absurd (other refl);
      }

  -- no secret has these shares
  pub call_disagreed : (LieOnPolynomials field k indexes (length old) shares → ⊥) → new ≡ old
      → CombinesShares modulus k indexes shares old new UNSOLVABLE
  call_disagreed none stays =
      record {
        code = λ unknown. absurd (unknown ((field, known, shared), whole.two));
        few = λ _ _ few. absurd (omega (arith, few, whole.enough));
        wrong_indexes = λ _ _ _ misfit. absurd (misfit (whole.few, whole.nonzero, whole.distinct));
        wrong_lengths = λ _ _ _ _ misfit. absurd (misfit (whole.some, whole.room));
        wrong_shares = λ _ _ _ _ _ _ _. refl;
        ok = λ _ _ _ _ _ _ agree. absurd (none (agree field known));
        kept = λ _. stays;
      }

  module _ (old_wrong new_wrong : List ℕ) (answers : length old_wrong ≡ length indexes) where
    -- few shares are wrong, and the secret is restored
    pub call_corrected : AreNear modulus k indexes (length old) shares
        → ((polynomials : ℕ → List ℕ) → AreNearPolynomials field k indexes (length old) shares polynomials
        → (j : ℕ) → j < length old → slice_index new j ≡ value_of 1 (byte_times field) (λ c. c) (polynomials j) 0)
        → ((polynomials : ℕ → List ℕ) → AreNearPolynomials field k indexes (length old) shares polynomials
        → (i : ℕ) → i < length indexes
        → slice_index new_wrong i ≡ cond (is_wrong_share field indexes (length old) shares polynomials i) 1 0)
        → length new ≡ length old → length new_wrong ≡ length old_wrong
        → CorrectsShares modulus k indexes shares old old_wrong new new_wrong OK
    call_corrected near made told long wrong_long =
        record {
          code = λ none. absurd (none (field, known, shared));
          answers = λ _ other. absurd (other answers);
          needed = λ _ _ few. absurd (omega (arith, few, whole.two));
          few = λ _ _ _ few. absurd (omega (arith, few, whole.enough));
          wrong_indexes = λ _ _ _ _ none. absurd (none (whole.few, whole.nonzero, whole.distinct));
          wrong_lengths = λ _ _ _ _ _ none. absurd (none (whole.some, whole.room));
          far = λ _ _ _ none. absurd (none near);
          ok = λ _ _ _ _. (
            refl,
            long,
            wrong_long,
            λ other polynomials same lie.
                let as_known : AreNearPolynomials field k indexes (length old) shares polynomials =
                subst (λ (f : ByteField). AreNearPolynomials f k indexes (length old) shares polynomials) (one-field other field (same ∙ sym known)) lie in
                subst (λ (f : ByteField). IsRightSecret f indexes shares polynomials new new_wrong) (one-field field other (known ∙ sym same))
                (record {
                  bytes = λ j below. made polynomials as_known j (omega (arith, below, long));
                  named = λ i below.
                      subst (λ (size : ℕ). slice_index new_wrong i ≡ cond (is_wrong_share field indexes size shares polynomials i) 1 0) (sym long)
                      (told polynomials as_known i below);
                }),
          );
          kept = λ other. absurd (other refl);
        }

    -- more are wrong
    pub call_lost : ((polynomials : ℕ → List ℕ) → AreNearPolynomials field k indexes (length old) shares polynomials → ⊥) → new ≡ old
        → new_wrong ≡ old_wrong
        → CorrectsShares modulus k indexes shares old old_wrong new new_wrong UNSOLVABLE
    call_lost none stays wrong_stays =
        record {
          code = λ unknown. absurd (unknown (field, known, shared));
          answers = λ _ other. absurd (other answers);
          needed = λ _ _ few. absurd (omega (arith, few, whole.two));
          few = λ _ _ _ few. absurd (omega (arith, few, whole.enough));
          wrong_indexes = λ _ _ _ _ misfit. absurd (misfit (whole.few, whole.nonzero, whole.distinct));
          wrong_lengths = λ _ _ _ _ _ misfit. absurd (misfit (whole.some, whole.room));
          far = λ _ _ _ _. refl;
          ok = λ _ _ _ near.
              absurd (none near.2
              (subst (λ (f : ByteField). AreNearPolynomials f k indexes (length old) shares near.2) (one-field near.0 field (near.1 ∙ sym known))
              near.3));
          kept = λ _. (stays, wrong_stays);
        }
