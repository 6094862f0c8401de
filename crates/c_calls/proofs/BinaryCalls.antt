-- Calls of binary codes, once the code was made.
use Rattle.std.proofs.Common.{◌≡◌, ◌≢◌, ℕ, ◌-◌, ◌*◌, ◌<◌, arith, refl, subst}
use Rattle.error_codes.specs.BinaryBch.{AreConjugates}
use Rattle.reed_solomon.specs.ByteFields.{byte_modulus, byte_times}
use Rattle.reed_solomon.specs.declared.byte_field.ByteField.{ByteField}
use Rattle.reed_solomon.specs.declared.byte_field.ByteField.TheVariants.{Ccsds, Qr, Rijndael}
use Rattle.c_calls.specs.BinaryCodes.{HasBinaryCode, HasData, IsBinaryCode, OverBinaryCode}
use Rattle.c_calls.specs.ChosenCodes.{OfCode}
use Rattle.c_calls.specs.Codes.{code_root}
use Rattle.c_calls.specs.declared.status.TheConstants.{CODE, OK}

-- a modulus tells its field
pub one-field : (a b : ByteField) → byte_modulus a ≡ byte_modulus b → a ≡ b
one-field Qr Qr same = refl
one-field Ccsds Ccsds same = refl
one-field Rijndael Rijndael same = refl
one-field Qr Ccsds same = absurd (omega (arith, same))
one-field Qr Rijndael same = absurd (omega (arith, same))
one-field Ccsds Qr same = absurd (omega (arith, same))
one-field Ccsds Rijndael same = absurd (omega (arith, same))
one-field Rijndael Qr same = absurd (omega (arith, same))
one-field Rijndael Ccsds same = absurd (omega (arith, same))

module _ (modulus n t step : ℕ) where
  -- a call of a code whose field, root, bits and checks are these
  pub over-binary : {T : Type 0} {old new : T} {status : ℕ} (field : ByteField) (own_root own_n own_checks : ℕ)
      (call : (ℕ → ℕ → ℕ) → ℕ → ℕ → ℕ → Type 0)
      → IsBinaryCode modulus n t step field × (own_n ≡ n) × (own_checks ≡ 2 * t) × (own_root ≡ code_root field step)
      → call (byte_times field) own_root own_n own_checks → (status ≢ OK → new ≡ old) → OverBinaryCode modulus n t step call old new status
  over-binary field own_root own_n own_checks call known made kept =
      record {
        code = λ _. (
          field,
          known.0.modulus_is,
          subst (λ (z : ℕ). call (byte_times field) (code_root field step) n z) known.2
              (subst (λ (z : ℕ). call (byte_times field) (code_root field step) z own_checks) known.1
              (subst (λ (z : ℕ). call (byte_times field) z own_n own_checks) known.3 made)),
        );
        none = λ no. absurd (no (field, known.0));
        kept = kept;
      }

  -- no code
  pub over-no-binary : {T fact : Type 0} {old : T} → (HasBinaryCode modulus n t step → ⊥)
      → OfCode (HasBinaryCode modulus n t step) fact old old CODE
  over-no-binary none = record { code = λ has. absurd (none has); none = λ _. refl; kept = λ _. refl }

-- so many bits are data
pub data-counted : (times : ℕ → ℕ → ℕ) (root n checks conjugates k : ℕ) → conjugates < n → k ≡ n - conjugates
    → AreConjugates times root checks conjugates → HasData times root n checks k
data-counted times root n checks conjugates k some is counted =
    let left : conjugates ≡ n - k = omega (arith, some, is) in
    record {
      some = omega (arith, some, is);
      most = omega (arith, some, is);
      others = subst (λ (z : ℕ). AreConjugates times root checks z) left counted;
    }
