use Rattle.std.proofs.Common.{◌≡◌, ◌<◌, ◌∙◌, append_assoc, ℕ, List, [], ◌∷◌, ◌++◌, length, refl, sym, subst, arith}
use Rattle.std.proofs.lemmas.Bool.{eqb-false, eqb-true}
use Rattle.std.proofs.lemmas.List.{nil_from_length}
use Rattle.std.proofs.lemmas.Result.{err_from_is_err_and}
use Rattle.secret.specs.Records.{SaysRecord}
use Rattle.secret.specs.Texts.{AreOneSet}
use Rattle.secret.proofs.OneReading.{SaysFirst, begins-more, past-empty, past-line, says-once}
use Rattle.secret.proofs.TextRecords.{nothing-gathered, says-all, says-cut, says-empty, says-more}
use Rattle.secret.proofs.sharing.gather.Goals as goal

pub lines-init : goal.lines-init
lines-init c = (
  omega arith,
  [],
  nothing-gathered c.args.shares.now.first.items c.args.shares.now.indexes.items c.args.shares.now.bytes.items c.requires.first
      c.requires.indexes c.requires.bytes,
  λ more says. says,
  λ all says. (all, refl, says),
)

pub lines-preserved-then-not-is_empty : goal.lines-preserved-then-not-is_empty
lines-preserved-then-not-is_empty c =
    let before = c.lines.invariant in
    let rest = c.lines.rest.now in
    let line = c.cut_line-parts.result.0.now in
    let next = c.cut_line-parts.result.1.now in
    let entry = c.as_slice.result.now in
    let said : SaysRecord line entry = subst (λ (e : List ℕ). SaysRecord line e) (sym c.as_slice.ensures.value) c.in-Ok.ensures.said in (
      (let some = eqb-false (length c.lines.rest.now) 0 (sym c.lines-test.ensures) in
          let shorter = c.cut_line-parts.ensures.shorter (omega (arith, some)) in
          omega (arith, before.0, shorter)),
      before.1 ++ entry ∷ [],
      c.in_ok-put.ensures.put before.1 before.2,
      says-more c.args.text.now rest next before.1 entry before.3
          (λ more says. says-cut rest line next c.cut_line-parts.ensures.cut entry more said says),
      λ all says. begins-more line rest next entry before.1 all c.cut_line-parts.ensures.cut said (before.4 all says),
    )

pub lines-preserved : goal.lines-preserved
lines-preserved c =
    let before = c.lines.invariant in
    let rest = c.lines.rest.now in
    let line = c.cut_line-parts.result.0.now in
    let next = c.cut_line-parts.result.1.now in
    let empty : line ≡ [] = nil_from_length line (eqb-true _ 0 (sym c.if-not-is_empty.ensures)) in (
      (let some = eqb-false (length c.lines.rest.now) 0 (sym c.lines-test.ensures) in
          let shorter = c.cut_line-parts.ensures.shorter (omega (arith, some)) in
          omega (arith, before.0, shorter)),
      before.1,
      before.2,
      λ more says. before.3 more (says-empty rest line next c.cut_line-parts.ensures.cut empty more says),
      λ all says.
          let so_far = before.4 all says in
          (so_far.0, so_far.1, past-empty rest line next c.cut_line-parts.ensures.cut empty so_far.0 so_far.2),
    )

pub returns-in-Err-clause-refused : goal.returns-in-Err-clause-refused
returns-in-Err-clause-refused c = λ other entries says one.
    let so_far = c.lines.invariant.4 entries says in
    let line = c.cut_line-parts.result.0.now in
    let some : 0 < length line = let differs = eqb-false _ 0 (sym c.if-not-is_empty.ensures) in omega (arith, differs) in
    let first : SaysFirst line c.cut_line-parts.result.1.now so_far.0 =
    past-line c.lines.rest.now line c.cut_line-parts.result.1.now c.cut_line-parts.ensures.cut so_far.0 some so_far.2 in
    c.in-Err.ensures.refused (λ memory. other (c.fault_in.ensures.memory memory)) first.0 first.3

pub returns-in_err-put-clause-refused : goal.returns-in_err-put-clause-refused
returns-in_err-put-clause-refused c =
    let failed = err_from_is_err_and c.from_residual.result c.from_residual.ensures.1 in
    let before = c.lines.invariant in
    let line = c.cut_line-parts.result.0.now in
    let entry = c.as_slice.result.now in
    let said : SaysRecord line entry = subst (λ (e : List ℕ). SaysRecord line e) (sym c.as_slice.ensures.value) c.in-Ok.ensures.said in
    rw (failed.1, failed.2)
    (λ other entries says one.
    let next = begins-more line c.lines.rest.now c.cut_line-parts.result.1.now entry before.1 entries c.cut_line-parts.ensures.cut said (before.4 entries says) in
    c.in_err-put.ensures.refused other before.1 next.0 before.2
    (subst AreOneSet (next.1 ∙ append_assoc before.1 (entry ∷ []) next.0) one))

pub returns-clause-gathered : goal.returns-clause-gathered
returns-clause-gathered c =
    let before = c.lines.invariant in
    let none : c.lines.rest.now ≡ [] = nil_from_length c.lines.rest.now (eqb-true _ 0 (sym c.lines-test.ensures)) in (
      before.1,
      says-all c.args.text.now c.lines.rest.now before.1 none before.3,
      before.2,
      says-once c.args.text.now c.lines.rest.now before.1 none before.4,
    )
