use Rattle.std.proofs.Common.{◌≡◌, ◌∙◌, ℕ, false, length, refl, slice_index, subst, arith}
use Rattle.field_slices.specs.Marks.{marked_below}
use Rattle.error_codes.specs.Filling.{is_marked}
use Rattle.error_codes.proofs.Meanings.{marks-same}
use Rattle.error_codes.specs.Sharing.{IsThrough, share_at}
use Rattle.error_codes.proofs.Located.{nothing-marked}
use Rattle.error_codes.proofs.combining.combine.Goals as goal

pub combine_unmarked-requires-clause-enough : goal.combine_unmarked-requires-clause-enough
combine_unmarked-requires-clause-enough c =
    let n : ℕ = length c.args.indexes.now in
    let nothing : marked_below (is_marked c.no_marks.result) n ≡ 0 =
    (marks-same (is_marked c.no_marks.result) (λ i. false) n (λ i below. c.no_marks.ensures i) ∙ nothing-marked n) in
    let checked = c.in_ok-check_shares.ensures.accepted.0 refl in
    omega (arith, nothing, checked.enough)

pub returns-then-not-combine_unmarked-clause-accepted : goal.returns-then-not-combine_unmarked-clause-accepted
returns-then-not-combine_unmarked-clause-accepted c = (
  λ e. absurd (cc),
  λ both.
      c.if-not-combine_unmarked.ensures.agreed.1
      (λ j inside.
      let found = both.1 j inside in
      (found.0, record { coefficient_count = found.1.coefficient_count; at_points = λ i below free. found.1.at_points i below })),
)

pub returns-then-not-combine_unmarked-clause-refused : goal.returns-then-not-combine_unmarked-clause-refused
returns-then-not-combine_unmarked-clause-refused c = (
  c.in_ok-check_shares.ensures.accepted.0 refl,
  λ lie.
      let agreed = c.if-not-combine_unmarked.ensures.agreed.1
      (λ j inside.
      let found = lie j inside in
      (found.0, record { coefficient_count = found.1.coefficient_count; at_points = λ i below free. found.1.at_points i below })) in
      absurd (cc),
)

pub returns-clause-accepted : goal.returns-clause-accepted
returns-clause-accepted c = (
  λ done. (
    c.in_ok-check_shares.ensures.accepted.0 refl,
    λ j inside.
        let found = c.if-not-combine_unmarked.ensures.agreed.0 refl j inside in
        (found.0, record { coefficient_count = found.1.coefficient_count; at_points = λ i below. found.1.at_points i below (c.no_marks.ensures i) }),
  ),
  λ both. refl,
)

pub returns-clause-combined : goal.returns-clause-combined
returns-clause-combined c = λ done j cs inside through.
    let combined = c.if-not-combine_unmarked.ensures in
    let through_old = subst
    (λ (n : ℕ). IsThrough c.args.field c.args.needed (length c.args.indexes.now) (slice_index c.args.indexes.now) (share_at n c.args.shares.now j) cs)
    combined.long through in
    combined.combined refl j cs (let long = combined.long in omega (arith, long, inside))
    (record { coefficient_count = through_old.coefficient_count; at_points = λ i below free. through_old.at_points i below })
