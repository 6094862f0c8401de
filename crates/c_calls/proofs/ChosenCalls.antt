-- Calls over a field by its words, once these were read.
use Rattle.std.proofs.Common.{◌≡◌, ◌≢◌, ℕ, ◌%◌, ◌^◌, ◌<◌, List, get_or, length, map, ap, arith, refl, sym, ◌∙◌, subst}
use Rattle.std.specs.Prelude.{slice_index}
use Rattle.std.specs.Simd.Lanes.{zip2}
use Rattle.std.proofs.lemmas.List.{get_or_default}
use Rattle.std.proofs.lemmas.Nat.{pow_pos}
use native.Mathlib.Nat.{mod-lt}
use Rattle.field_base.specs.Orders.{HasFullOrder}
use Rattle.field_base.proofs.Places.{number-at}
use Rattle.field_base.proofs.Written.{both-at}
use Rattle.any_field.specs.Contexts.{field_product, with_top}
use Rattle.any_field.specs.Orders.{TableIsPrime}
use Rattle.any_field.specs.Values.{IsEmbeddingOf, binary_value}
use Rattle.many_words.specs.Fields.{WordField}
use Rattle.c_calls.specs.Calls.{CallOnEach}
use Rattle.c_calls.specs.ChosenFields.{Embeds, FindsARoot, NamesAField, OverField, TakesPrimitive, residue_field}
use Rattle.c_calls.specs.Fields.{wide_number}
use Rattle.c_calls.specs.declared.field_words.ChosenField.{ChosenField}
use Rattle.c_calls.specs.declared.status.TheConstants.{OK, REDUCIBLE, UNSOLVABLE}
use Rattle.c_calls.specs.declared.wide.Wide.{Wide}

-- words that name a field, and words that name none
pub over_named : {T call : Type 0} {words : ChosenField} {old new : T} {status : ℕ} → NamesAField words → call → (status ≢ OK → new ≡ old)
    → OverField words call old new status
over_named named made kept = record { named = λ _. made; reducible = λ none. absurd (none named); kept = kept }

pub over_none : {T call : Type 0} {words : ChosenField} {old : T} → (NamesAField words → ⊥) → OverField words call old old REDUCIBLE
over_none none = record { named = λ is. absurd (none is); reducible = λ _. refl; kept = λ _. refl }

-- an operation whose result is known where something holds, once that does
pub each-given : {W given : Type 0} (field : WordField W) (xs : List W) {old new : List W} {status : ℕ} (relates : ℕ → ℕ → Type 0) → given
    → CallOnEach field (λ x y. given → relates x y) xs old new status → CallOnEach field relates xs old new status
each-given field xs relates is call =
    record {
      length = call.length;
      element = call.element;
      ok = λ fit all. let done = call.ok fit all in (done.0, λ k within d. done.1 k within d is);
      kept = call.kept;
    }

-- ---- roots, and images by them

-- what is known of a number that is no root, and of one that is
abbrev Value : ℕ → ℕ → ℕ → ℕ → ℕ → ℕ
Value source_degree source_tail degree tail number = binary_value (field_product degree tail) number (with_top source_degree source_tail)

pub embeds-none : (source_degree source_tail degree tail : ℕ) (root : Wide) (number : ℕ) {xs old : List Wide} → number ≡ wide_number root
    → Value source_degree source_tail degree tail number ≢ 0 → Embeds source_degree source_tail degree tail root xs old old UNSOLVABLE
embeds-none source_degree source_tail degree tail root number is none =
    record {
      images = λ root_is. absurd (none (ap (Value source_degree source_tail degree tail) is ∙ root_is));
      embedding = λ root_is. absurd (none (ap (Value source_degree source_tail degree tail) is ∙ root_is));
      other = λ _. refl;
      kept = λ _. refl;
    }

-- a root by other names
root-named : (sd st d t n source_degree source_tail degree tail number : ℕ) → sd ≡ source_degree → st ≡ source_tail → d ≡ degree → t ≡ tail
    → n ≡ number → Value sd st d t n ≡ 0 → Value source_degree source_tail degree tail number ≡ 0
root-named sd st d t n source_degree source_tail degree tail number same_sd same_st same_d same_t same_n root_is =
    subst (λ (z : ℕ). Value source_degree source_tail degree tail z ≡ 0) same_n
    (subst (λ (z : ℕ). Value source_degree source_tail degree z n ≡ 0) same_t
    (subst (λ (z : ℕ). Value source_degree source_tail z t n ≡ 0) same_d
    (subst (λ (z : ℕ). Value source_degree z d t n ≡ 0) same_st (subst (λ (z : ℕ). Value z st d t n ≡ 0) same_sd root_is))))

-- a map whose fields and root are these
pub embeds-by : (source_degree source_tail degree tail : ℕ) (root : Wide) (number : ℕ) {xs old new : List Wide} {status : ℕ}
    → number ≡ wide_number root → (sd st d t n : ℕ) → sd ≡ source_degree → st ≡ source_tail → d ≡ degree → t ≡ tail → n ≡ number
    → Value sd st d t n ≡ 0 → IsEmbeddingOf sd d (field_product sd st) (field_product d t) (binary_value (field_product d t) n)
    → CallOnEach (residue_field source_degree source_tail) (λ x y. y ≡ binary_value (field_product d t) n x) xs old new status
    → Embeds source_degree source_tail degree tail root xs old new status
embeds-by source_degree source_tail degree tail root number {xs} {old} {new} {status} is sd st d t n same_sd same_st same_d same_t same_n
    root_is maps call =
    record {
      images = λ _.
          subst (λ (z : ℕ). CallOnEach field (λ x y. y ≡ binary_value (field_product degree tail) z x) xs old new status) point
          (subst (λ (z : ℕ). CallOnEach field (λ x y. y ≡ binary_value (field_product degree z) n x) xs old new status) same_t
          (subst (λ (z : ℕ). CallOnEach field (λ x y. y ≡ binary_value (field_product z t) n x) xs old new status) same_d call));
      embedding = λ _.
          subst (λ (z : ℕ). IsEmbeddingOf source_degree degree (field_product source_degree source_tail) (field_product degree tail)
          (binary_value (field_product degree tail) z)) point
          (subst (λ (z : ℕ). IsEmbeddingOf source_degree degree (field_product source_degree source_tail) (field_product degree z)
          (binary_value (field_product degree z) n)) same_t
          (subst (λ (z : ℕ). IsEmbeddingOf source_degree z (field_product source_degree source_tail) (field_product z t)
          (binary_value (field_product z t) n)) same_d
          (subst (λ (z : ℕ). IsEmbeddingOf source_degree d (field_product source_degree z) (field_product d t)
          (binary_value (field_product d t) n)) same_st
          (subst (λ (z : ℕ). IsEmbeddingOf z d (field_product z st) (field_product d t) (binary_value (field_product d t) n)) same_sd maps))));
      other = λ none. absurd (none (root-named sd st d t n source_degree source_tail degree tail (wide_number root) same_sd same_st same_d same_t point root_is));
      kept = call.kept;
    }
  where
    field : WordField Wide
    field = residue_field source_degree source_tail

    point : n ≡ wide_number root
    point = same_n ∙ is

-- a root that is found, and none
pub root-found : (source_degree source_tail degree tail number sd st d t r : ℕ) → sd ≡ source_degree → st ≡ source_tail → d ≡ degree → t ≡ tail
    → degree % source_degree ≡ 0 → number ≡ r % 2 ^ d → Value sd st d t number ≡ 0 → {old : Wide} (new : Wide) → wide_number new ≡ number
    → FindsARoot source_degree source_tail degree tail old new OK
root-found source_degree source_tail degree tail number sd st d t r same_sd same_st same_d same_t divides low root_is new is =
    record {
      found = λ _. (
        refl,
        root-named sd st d t number source_degree source_tail degree tail (wide_number new) same_sd same_st same_d same_t (sym is) root_is,
        subst (λ (z : ℕ). z < 2 ^ degree) (sym is)
            (subst (λ (z : ℕ). number < 2 ^ z) same_d (subst (λ (z : ℕ). z < 2 ^ d) (sym low) (mod-lt r (pow_pos d)))),
      );
      none = λ other. absurd (other divides);
      kept = λ other. absurd (other refl);
    }

pub root-none : (source_degree source_tail degree tail : ℕ) {old : Wide} → degree % source_degree ≢ 0
    → FindsARoot source_degree source_tail degree tail old old UNSOLVABLE
root-none source_degree source_tail degree tail other =
    record { found = λ divides. absurd (other divides); none = λ _. refl; kept = λ _. refl }

-- ---- primitive elements

pub primitive-none : (degree tail : ℕ) {old : Wide} → ((y : ℕ) → y < 65536 → HasFullOrder degree (field_product degree tail) y → ⊥)
    → TakesPrimitive (residue_field degree tail) old old UNSOLVABLE
primitive-none degree tail none =
    record {
      primitive = λ e. absurd (unlike UNSOLVABLE OK refl refl e);
      least = λ e. absurd (unlike UNSOLVABLE OK refl refl e);
      none = λ _. (refl, none);
      kept = λ _. refl;
    }
  where
    unlike : (a b : ℕ) → a ≡ 6 → b ≡ 0 → a ≡ b → ⊥
    unlike a b six zero e = absurd (omega (arith, six, zero, e))

pub primitive-found : (degree tail found : ℕ) {old : Wide} (new : Wide) → wide_number new ≡ found
    → (TableIsPrime → HasFullOrder degree (field_product degree tail) found)
    → ((y : ℕ) → y < found → HasFullOrder degree (field_product degree tail) y → ⊥) → TakesPrimitive (residue_field degree tail) old new OK
primitive-found degree tail found new is full least =
    record {
      primitive = λ _ prime. subst (λ (z : ℕ). HasFullOrder degree (field_product degree tail) z) (sym is) (full prime);
      least = λ _ y less. least y (subst (λ (z : ℕ). y < z) is less);
      none = λ other. absurd (other refl);
      kept = λ other. absurd (other refl);
    }

-- ---- products

-- products of lists are those at each place
pub products-at : (times : ℕ → ℕ → ℕ) (xs ys new : List Wide) → length xs ≡ length new → length ys ≡ length new
    → map wide_number new ≡ zip2 times (map wide_number xs) (map wide_number ys)
    → (k : ℕ) → k < length new → (d : Wide) → wide_number (get_or new k d) ≡ times (wide_number (get_or xs k d)) (wide_number (get_or ys k d))
products-at times xs ys new long also are k within d =
    let left : k < length xs = omega (arith, long, within) in
    let right : k < length ys = omega (arith, also, within) in
    let x = get_or xs k d in
    let y = get_or ys k d in
    let z = get_or new k d in
    sym (number-at wide_number new k z within (get_or_default new k d z within))
    ∙ ap (λ (zs : List ℕ). slice_index zs k) are
    ∙ sym (both-at wide_number wide_number times xs ys k (wide_number x) y left right
    (sym (number-at wide_number xs k x left (get_or_default xs k d x left))) (get_or_default ys k d y right))
