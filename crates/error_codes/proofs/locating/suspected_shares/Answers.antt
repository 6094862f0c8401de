use Rattle.std.proofs.Common.{◌≡◌, ◌+◌, ◌*◌, ◌∙◌, ℕ, Bool, length, slice_index, sym, ap, ap₂, arith}
use Rattle.std.specs.Prelude.{nat_eq, not, ◌||◌}
use Rattle.field_slices.specs.Marks.{marked_below}
use Rattle.error_codes.specs.Filling.{is_marked}
use Rattle.error_codes.proofs.Marking.{count-none}
use Rattle.error_codes.proofs.Meanings.{marks-same}
use Rattle.reed_solomon.specs.ByteFields.{byte_times}
use Rattle.reed_solomon.proofs.ByteFields.{bytes_are_fields}
use Rattle.error_codes.specs.Sharing.{share_at}
use Rattle.error_codes.specs.Wrong.{is_wrong_byte, is_wrong_share}
use Rattle.error_codes.proofs.Located.{register-counts, roots-wrong, some-more}
use Rattle.error_codes.proofs.NearShares.{few-wrong}
use Rattle.error_codes.proofs.locating.suspected_shares.Goals as goal

pub loop-j-init : goal.loop-j-init
loop-j-init c = (
  λ polynomials near i below.
      c.no_marks-wrong.ensures i
      ∙ sym (ap (λ (m : ℕ). not (nat_eq m 0))
      (count-none (is_wrong_byte c.args.field c.args.indexes.now c.args.size c.args.shares.now polynomials i))),
  λ i above. c.no_marks-wrong.ensures i,
)

pub returns-then-register-checks-clause-found : goal.returns-then-register-checks-clause-found
returns-then-register-checks-clause-found c = λ polynomials near.
    let field = c.args.field in
    let n : ℕ = length c.args.indexes.now in
    let j : ℕ = c.loop-j.j in
    let checked = c.requires.checked in
    let register = c.shortest_register-register in
    let few = few-wrong field c.args.needed c.args.indexes.now c.args.size c.args.shares.now polynomials near j c.loop-j-test.true in
    let counts =
    register-counts (byte_times field) (bytes_are_fields c.args.field) c.args.needed n (slice_index c.args.indexes.now)
    (share_at c.args.size c.args.shares.now j) (slice_index c.scales_of-scales.result) (polynomials j)
    (near.coefficient_count j c.loop-j-test.true) (omega (arith, checked.two)) checked.enough checked.distinct
    (λ i. (c.type_inv.shares (i * c.args.size + j)).fits) c.scales_of-scales.ensures few (slice_index c.syndromes_of-sums.result)
    c.syndromes_of-sums.ensures register.result.size (slice_index register.result.coefficients)
    register.ensures in
    absurd (omega (arith, counts, few, c.if-register-checks.true, checked.enough))

pub loop-j-preserved : goal.loop-j-preserved
loop-j-preserved c =
    let field = c.args.field in
    let n : ℕ = length c.args.indexes.now in
    let j : ℕ = c.loop-j.j in
    let checked = c.requires.checked in
    let register = c.shortest_register-register in (
      λ polynomials near i below.
          let wrong = is_wrong_byte field c.args.indexes.now c.args.size c.args.shares.now polynomials i in
          c.mark_roots.ensures.marked i below
          ∙ ap₂ (λ (a b : Bool). a || b) (c.loop-j.invariant.0 polynomials near i below)
          (sym
          (roots-wrong (byte_times field) (bytes_are_fields c.args.field) c.args.needed n (slice_index c.args.indexes.now)
          (share_at c.args.size c.args.shares.now j) (slice_index c.scales_of-scales.result) (polynomials j)
          (near.coefficient_count j c.loop-j-test.true) (omega (arith, checked.two)) checked.enough checked.distinct
          (λ i. (c.type_inv.shares (i * c.args.size + j)).fits) c.scales_of-scales.ensures
          (few-wrong field c.args.needed c.args.indexes.now c.args.size c.args.shares.now polynomials near j c.loop-j-test.true)
          (slice_index c.syndromes_of-sums.result) c.syndromes_of-sums.ensures register.result.size
          (slice_index register.result.coefficients)
          register.ensures i below))
          ∙ sym (some-more wrong j),
      λ i above. c.mark_roots.ensures.behind i above ∙ c.loop-j.invariant.1 i above,
    )

pub returns-then-unmarked_of-indexes-clause-found : goal.returns-then-unmarked_of-indexes-clause-found
returns-then-unmarked_of-indexes-clause-found c = λ polynomials near.
    let n : ℕ = length c.args.indexes.now in
    let end : c.loop-j.j ≡ c.args.size = omega arith in
    let wrong = is_wrong_share c.args.field c.args.indexes.now c.args.size c.args.shares.now polynomials in
    let same = marks-same (is_marked c.loop-j.wrong) wrong n
    (λ i below.
    c.loop-j.invariant.0 polynomials near i below
    ∙ ap (λ (m : ℕ). not (nat_eq
    (marked_below (is_wrong_byte c.args.field c.args.indexes.now c.args.size c.args.shares.now polynomials i) m) 0)) end) in
    let all = c.unmarked_of.ensures.places.all in
    let few = near.few_wrong in
    let checked = c.requires.checked in
    absurd (omega (arith, same, all, few, c.if-unmarked_of-indexes.true, checked.enough))
