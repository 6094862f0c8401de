use Rattle.std.proofs.Common.{◌≡◌, ◌⊎◌, ◌<◌, ◌++◌, ℕ, List, inl, inr, [], ◌∷◌, drop, length, slice_index, refl, ap, subst, sym, ◌∙◌, arith}
use Rattle.std.proofs.lemmas.Bool.{eqb-false, eqb-true, true≢false}
use Rattle.std.proofs.lemmas.List.{nil_from_length, take_rest}
use Rattle.secret.specs.Texts.{AreOfSet}
use Rattle.secret.proofs.TextRecords.{gathered-more, not-of_field, not-of_set}
use Rattle.secret.proofs.sharing.put_record.Goals as goal
use Rattle.secret.proofs.sharing.put_record.Goals.{then-is_empty+in_ok-extend_from_slice, else-is_empty}

pub returns-clause-put : goal.returns-clause-put
returns-clause-put c = λ entries are.
    let old = c.args.shares.now in
    let entry = c.args.entry.now in
    let shares = c.if-is_empty.shares in
    let which : ((old.first.items ≡ []) × (shares.first.items ≡ entry)) ⊎ ((0 < length old.first.items) × (shares.first.items ≡ old.first.items)) =
    elim c.if-is_empty.branch [
      | then-is_empty+in_ok-extend_from_slice w ↦
          let none = nil_from_length old.first.items (let zero = eqb-true _ 0 (sym c.is_empty.ensures ∙ w.if-is_empty.true) in omega (arith, zero)) in
          inl (none, ap (λ s. s.first.items) w.shares-is ∙ w.in_ok-extend_from_slice.ensures.items ∙ ap (λ (l : List ℕ). l ++ entry) none)
      | else-is_empty w ↦ inr (let some = eqb-false _ 0 (sym c.is_empty.ensures ∙ w.if-is_empty.false) in omega (arith, some), ap (λ s. s.first.items) w.shares-is)
    ] in
    let indexes : shares.indexes.items ≡ old.indexes.items =
    elim c.if-is_empty.branch [
      | then-is_empty+in_ok-extend_from_slice w ↦ ap (λ s. s.indexes.items) w.shares-is
      | else-is_empty w ↦ ap (λ s. s.indexes.items) w.shares-is
    ] in
    let bytes : shares.bytes.items ≡ old.bytes.items =
    elim c.if-is_empty.branch [
      | then-is_empty+in_ok-extend_from_slice w ↦ ap (λ s. s.bytes.items) w.shares-is
      | else-is_empty w ↦ ap (λ s. s.bytes.items) w.shares-is
    ] in
    gathered-more entries entry old.first.items old.indexes.items old.bytes.items shares.first.items _ _ are which
    (subst (λ (f : List ℕ). AreOfSet f entry) c.as_slice.ensures.value (c.if-not-is_of_set.ensures.0 refl))
    (c.in_ok-push.ensures.items ∙ ap (λ (l : List ℕ). l ++ slice_index entry 2 ∷ []) indexes)
    (c.in_ok-extend_from_slice-2.ensures.items ∙ ap (λ (l : List ℕ). shares.bytes.items ++ l) (take_rest entry 11)
    ∙ ap (λ (l : List ℕ). l ++ drop 11 entry) bytes)

pub returns-then-not-is_of_field-clause-refused : goal.returns-then-not-is_of_field-clause-refused
returns-then-not-is_of_field-clause-refused c = λ other entries more are.
    not-of_field entries c.args.entry.now more (λ both. true≢false (sym (c.is_of_field.ensures.1 both) ∙ c.if-not-is_of_field.true))

pub returns-then-not-is_of_set-clause-refused : goal.returns-then-not-is_of_set-clause-refused
returns-then-not-is_of_set-clause-refused c = λ other entries more are.
    let old = c.args.shares.now.first.items in
    let entry = c.args.entry.now in
    let next = c.if-is_empty.shares.first.items in
    let which : ((old ≡ []) × (next ≡ entry)) ⊎ ((0 < length old) × (next ≡ old)) =
    elim c.if-is_empty.branch [
      | then-is_empty+in_ok-extend_from_slice w ↦
          let none = nil_from_length old (let zero = eqb-true _ 0 (sym c.is_empty.ensures ∙ w.if-is_empty.true) in omega (arith, zero)) in
          inl (none, ap (λ s. s.first.items) w.shares-is ∙ w.in_ok-extend_from_slice.ensures.items ∙ ap (λ (l : List ℕ). l ++ entry) none)
      | else-is_empty w ↦ inr (let some = eqb-false _ 0 (sym c.is_empty.ensures ∙ w.if-is_empty.false) in omega (arith, some), ap (λ s. s.first.items) w.shares-is)
    ] in
    not-of_set entries entry more old c.args.shares.now.indexes.items c.args.shares.now.bytes.items next are which
    (λ of.
    true≢false
    (sym (c.is_of_set.ensures.1 (subst (λ (f : List ℕ). AreOfSet f entry) (sym c.as_slice.ensures.value) of)) ∙ c.if-not-is_of_set.true))
