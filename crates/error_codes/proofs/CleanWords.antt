-- A code word of which few symbols are erased is the word that is meant as it stands.
use Rattle.std.proofs.Common.{◌≡◌, inl, inr, ℕ, ◌-◌, ◌/◌, ◌<◌, ◌≤◌, List, length, Bool, true, false, refl, sym, ◌∙◌, arith}
use Rattle.std.proofs.Common.{ap, lit<, subst}
use mir.Val.{bool_byte}
use Rattle.std.specs.Prelude.{nat_eq, not, slice_index, ◌&&◌}
use Rattle.std.proofs.lemmas.Bool.{cases_Bool}
use Rattle.std.proofs.lemmas.List.{ext_get_or}
use Rattle.field_base.specs.Field.{IsField}
use Rattle.field_slices.specs.Marks.{marked_below}
use Rattle.field_slices.proofs.Counting.{total-zero}
use Rattle.error_codes.specs.Checks.{AreScaled}
use Rattle.error_codes.specs.Correcting.{HasRoots, IsMeant, is_listed}
use Rattle.error_codes.specs.Filling.{falling_point, falling_scale}
use Rattle.error_codes.specs.Generators.{power_point, power_scale}
use Rattle.error_codes.specs.Interleaved.{IsSettled}
use Rattle.error_codes.specs.Words.{is_wrong}
use Rattle.error_codes.proofs.Checks.{sent_is_unique}
use Rattle.error_codes.proofs.CodeValues.{falling-scaled}
use Rattle.error_codes.proofs.Marks.{wrong-is}
use Rattle.error_codes.proofs.Meanings.{marks-same, meant-sent}

-- a symbol is not wrong where it is what it was
right-itself : (erased : Bool) (v : ℕ) → (not erased && not (nat_eq v v)) ≡ false
right-itself erased v =
    elim (cases_Bool (not erased && not (nat_eq v v))) [
      | inl wrong ↦ absurd ((wrong-is erased v v wrong).1 refl)
      | inr right ↦ right
    ]

module _ (times : ℕ → ℕ → ℕ) (field : IsField 8 times) (root first n checks : ℕ) (received erasures : List ℕ)
    (scaled : AreScaled 8 n (power_point times root) (power_scale times root first)) (count : length received ≡ n)
    (fits : (i : ℕ) → i < n → slice_index received i < 256) (roots : HasRoots times root first checks received)
    (few : marked_below (is_listed erasures) n ≤ checks) where
  itself : IsMeant times root first n checks received erasures received
  itself = record {
    count = count;
    symbols = fits;
    roots = roots;
    near = omega (arith, few, none);
  }
    where
      none : marked_below (is_wrong (λ i. i) (slice_index received) (is_listed erasures) (slice_index received)) n ≡ 0
      none =
          marks-same (is_wrong (λ i. i) (slice_index received) (is_listed erasures) (slice_index received)) (λ i. false) n
          (λ i below. right-itself (is_listed erasures i) (slice_index received i))
          ∙ total-zero n

  only : (sent : List ℕ) → IsMeant times root first n checks received erasures sent → received ≡ sent
  only sent meant =
      let long = meant.count in
      ext_get_or 0 received sent (count ∙ sym long)
      (λ i below.
      sent_is_unique 8 times (lit< tt) field checks n erased most (falling_point times root n) (falling_scale times root first n)
      (slice_index received) (is_listed erasures) (falling-scaled 8 times (lit< tt) field n root first scaled) (omega arith)
      (omega (arith, few)) (slice_index received) (slice_index sent)
      (meant-sent 8 times (lit< tt) field root first n checks received erasures (is_listed erasures) (λ j inside. refl) most refl received itself)
      (meant-sent 8 times (lit< tt) field root first n checks received erasures (is_listed erasures) (λ j inside. refl) most refl sent meant)
      i (omega (arith, below, count)))
    where
      erased : ℕ
      erased = marked_below (is_listed erasures) n

      most : ℕ
      most = (checks - erased) / 2

  pub clean-settled : IsSettled times root first n checks received erasures true received
  clean-settled = record {
    found = λ sent meant. (refl, only sent meant);
    right = λ said. itself;
    kept = λ said. let none : true ≡ false = said in absurd (cc);
  }

-- ---- the flag of a word

byte-told : (b : Bool) → nat_eq (bool_byte b) 1 ≡ b
byte-told true = refl
byte-told false = refl

byte-small : (b : Bool) → bool_byte b < 2
byte-small true = omega arith
byte-small false = omega arith

pub flag-told : (b : Bool) (byte : ℕ) → byte ≡ bool_byte b → nat_eq byte 1 ≡ b
flag-told b byte is = ap (λ (v : ℕ). nat_eq v 1) is ∙ byte-told b

pub flag-small : (b : Bool) (byte : ℕ) → byte ≡ bool_byte b → byte < 2
flag-small b byte is = subst (λ (v : ℕ). v < 2) (sym is) (byte-small b)
