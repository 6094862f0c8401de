-- Lines of shares one after the other, and the record of a line.
use Rattle.std.proofs.Common.{◌≡◌, ◌≢◌, ◌⊎◌, ℕ, ◌+◌, ◌-◌, ◌<◌, ◌≤◌, inl, inr, List, [], ◌∷◌, ◌++◌, drop, length, take, sym, ◌∙◌, ap, ap₂, arith, length-append, length-take}
use Rattle.std.specs.Prelude.{codes, Err, IfErr, Ok, Result}
use Rattle.std.proofs.lemmas.List.{take-append-drop}
use native.Mathlib.Numerals.{add-one}
use lib.Seq.{drop-append_seam, take-append_seam}
use Rattle.hex.specs.Hex.{decode_of}
use Rattle.hex.specs.declared.error.FromHexError.{FromHexError}
use Rattle.hex.specs.declared.error.FromHexError.TheVariants.{OutOfMemory}
use Rattle.sha2.proofs.Facts256.{length-sha256}
use Rattle.sha2.specs.Sha256.{sha256}
use Rattle.secret.specs.Records.{IsEnd, check_sum, line_of, lines_of, record_of, row_of, SaysRecord}
use Rattle.secret.specs.declared.lines.LineFault.{LineFault}
use Rattle.secret.specs.declared.lines.LineFault.TheVariants.{Memory}
use Rattle.reed_solomon.specs.declared.byte_field.ByteField.{ByteField}

pub no_lines : (field : ByteField) (needed : ℕ) (identity : List ℕ) (size : ℕ) (shares text : List ℕ) → text ≡ []
    → text ≡ lines_of field needed identity size shares 0
unfolding lines_of
no_lines field needed identity size shares text none = none

-- one line more
pub more_lines : (field : ByteField) (needed : ℕ) (identity : List ℕ) (size : ℕ) (shares : List ℕ) (i : ℕ)
    (text next bytes entry share : List ℕ) → text ≡ lines_of field needed identity size shares i
    → next ≡ text ++ (line_of bytes ++ 10 ∷ []) → bytes ≡ entry → entry ≡ record_of field needed (i + 1) identity share
    → share ≡ row_of size shares i → next ≡ lines_of field needed identity size shares (i + 1)
unfolding lines_of
more_lines field needed identity size shares i text next bytes entry share so_far put same is share_is =
    put
    ∙ ap₂ (λ (front : List ℕ) (line : List ℕ). front ++ (line_of line ++ 10 ∷ [])) so_far
    (same ∙ is ∙ ap₂ (λ (n : ℕ) (row : List ℕ). record_of field needed n identity row) (add-one i) share_is)
    ∙ ap (lines_of field needed identity size shares) (sym (add-one i))

-- a sum has 8 bytes
pub sum-length : (entry : List ℕ) → length (check_sum entry) ≡ 8
sum-length entry =
    let all = length-sha256 entry in let some = length-take 8 (sha256 entry) in omega (arith, all, some)

-- the sum stands where it was looked for
pub is_end : (bytes body sum : List ℕ) (end : ℕ) → 19 < length bytes → end ≡ length bytes - 8 → body ≡ take end bytes → sum ≡ drop end bytes
    → sum ≡ check_sum body → IsEnd bytes end
is_end bytes body sum end long end_is body_is sum_is same = record {
  some = omega (arith, long, end_is);
  whole = omega (arith, long, end_is);
  sum = sym sum_is ∙ same ∙ ap check_sum body_is;
}

-- too few bytes have no end
pub few_end : (bytes : List ℕ) → length bytes ≤ 19 → (end : ℕ) → IsEnd bytes end → ⊥
few_end bytes few end is = let some = is.some in let whole = is.whole in absurd (omega (arith, some, whole, few))

-- and others have none where it is not the sum that stands there
pub no_end : (bytes body sum : List ℕ) (place : ℕ) → place ≡ length bytes - 8 → body ≡ take place bytes → sum ≡ drop place bytes
    → (sum ≡ check_sum body → ⊥) → (end : ℕ) → IsEnd bytes end → ⊥
no_end bytes body sum place place_is body_is sum_is differs end is =
    differs (sum_is ∙ ap (λ (n : ℕ). drop n bytes) here ∙ is.sum ∙ ap (λ (n : ℕ). check_sum (take n bytes)) (sym here) ∙ ap check_sum (sym body_is))
  where
    here : place ≡ end
    here = let whole = is.whole in omega (arith, place_is, whole)

-- what a line says
pub says : (line digits bytes : List ℕ) (end : ℕ) → take 8 line ≡ codes "share-1-" → digits ≡ drop 8 line → decode_of digits ≡ Ok bytes
    → IsEnd bytes end → SaysRecord line (take end bytes)
says line digits bytes end named digits_are decoded is = record {
  named = named;
  said = ap decode_of (sym digits_are) ∙ decoded
      ∙ ap Ok (sym (take-append-drop end bytes) ∙ ap (λ (rest : List ℕ). take end bytes ++ rest) is.sum);
  some =
      let long = length-take end bytes in let some = is.some in let whole = is.whole in omega (arith, long, some, whole);
}

same-bytes : (x : Result (List ℕ) FromHexError) (a b : List ℕ) → x ≡ Ok a → x ≡ Ok b → a ≡ b
same-bytes x a b is also = cc

never : (x : Result (List ℕ) FromHexError) (a : List ℕ) (e : FromHexError) → x ≡ Ok a → x ≡ Err e → ⊥
never x a e is failed = cc

-- a line that is not decoded says no record, unless memory was refused
pub undecoded : (line digits : List ℕ) (e : FromHexError) (fault : LineFault) → digits ≡ drop 8 line → (e ≡ OutOfMemory → fault ≡ Memory)
    → (e ≡ OutOfMemory) ⊎ (decode_of digits ≡ Err e) → fault ≢ Memory → (entry : List ℕ) → SaysRecord line entry → ⊥
undecoded line digits e fault digits_are is_memory (inl memory) other = absurd (other (is_memory memory))
undecoded line digits e fault digits_are is_memory (inr failed) other =
    λ entry says. never (decode_of digits) (entry ++ check_sum entry) e (ap decode_of digits_are ∙ says.said) failed

-- nor does one whose bytes have no end
pub unended : (line digits bytes : List ℕ) → digits ≡ drop 8 line → decode_of digits ≡ Ok bytes → ((end : ℕ) → IsEnd bytes end → ⊥)
    → (entry : List ℕ) → SaysRecord line entry → ⊥
unended line digits bytes digits_are decoded none entry says = none (length entry) end
  where
    is : bytes ≡ entry ++ check_sum entry
    is = same-bytes (decode_of digits) bytes (entry ++ check_sum entry) decoded (ap decode_of digits_are ∙ says.said)

    end : IsEnd bytes (length entry)
    end = record {
      some = says.some;
      whole = let long = ap length is in let parts = length-append entry (check_sum entry) in omega (arith, long, parts, sum-length entry);
      sum = ap (drop (length entry)) is ∙ drop-append_seam entry (check_sum entry)
          ∙ ap check_sum (sym (ap (take (length entry)) is ∙ take-append_seam entry (check_sum entry)));
    }

-- what holds of every fault holds of the one that there is
pub any_err : {T : Type 0} (P : LineFault → Type 0) (result : Result T LineFault) → ((fault : LineFault) → P fault) → IfErr result P
any_err P (Ok x) each = tt
any_err P (Err fault) each = each fault

-- a row is cut where it begins
pub row_cut : (start size : ℕ) (shares : List ℕ) → take (start + size - start) (drop start shares) ≡ take size (drop start shares)
row_cut start size shares = ap (λ (n : ℕ). take n (drop start shares)) (omega arith)
