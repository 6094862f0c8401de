use Rattle.std.proofs.Common.{◌≡◌, ◌+◌, ◌*◌, ◌/◌, ◌%◌, ◌<◌, ℕ, List, length, slice_index, refl, ◌∙◌, ap, arith}
use Rattle.std.proofs.lemmas.List.{length-set}
use Rattle.error_codes.specs.Correcting.{code_value}
use Rattle.error_codes.proofs.CodeValues.{entry-over}
use Rattle.error_codes.proofs.field_code.values.evaluate.Goals.{then-m-eq0, else-m-eq0}
use Rattle.error_codes.proofs.field_code.values.evaluate.Goals as goal

pub loop-m-init : goal.loop-m-init
loop-m-init g c = (
  refl,
  λ n below. absurd (omega (arith, below)),
  λ n above. refl,
  λ k below started. absurd (started refl),
)

pub loop-m-preserved : goal.loop-m-preserved
loop-m-preserved g c =
    let times = g.F.SymbolField.product c.args.field in
    let word = c.args.word.now in
    let old = c.args.points.now in
    let m = c.loop-m.m in
    let found = c.if-m-eq0.found in
    let value_at = λ (x : ℕ). code_value times (length word) (slice_index word) x in
    let at_place = λ (p : ℕ). value_at (slice_index old p) in
    let inside : m < length old = omega (arith, c.loop-m-test.true, c.loop-m.invariant.0) in
    let all : (k : ℕ) → k < 8 → m / 8 * 8 + k < length old → times (slice_index found k) 1 ≡ at_place (m / 8 * 8 + k) =
    λ k below within.
    elim c.if-m-eq0.branch [
      | then-m-eq0 w ↦
          let place : m + k ≡ m / 8 * 8 + k = let starts = w.if-m-eq0.true in omega (arith, starts) in
          ap (λ (l : List ℕ). times (slice_index l k) 1) w.found-is ∙ w.values_at_eight-found.ensures k below
          ∙ ap value_at (w.read_eight.ensures k below (omega (arith, place, within, c.loop-m.invariant.0))
          ∙ c.loop-m.invariant.2 (m + k) (omega arith) ∙ ap (slice_index old) place)
      | else-m-eq0 w ↦ ap (λ (l : List ℕ). times (slice_index l k) 1) w.found-is ∙ c.loop-m.invariant.3 k below w.if-m-eq0.false within
    ] in
    let own : m / 8 * 8 + m % 8 ≡ m = omega arith in
    let entries = entry-over m c.multiply.result at_place c.loop-m.points old (omega (arith, inside, c.loop-m.invariant.0))
    (c.multiply.ensures ∙ all (m % 8) (omega arith) (omega (arith, own, inside)) ∙ ap at_place own)
    (c.loop-m.invariant.1, c.loop-m.invariant.2) in (
      length-set c.loop-m.points m c.multiply.result ∙ c.loop-m.invariant.0,
      entries.0,
      entries.1,
      λ k below some within.
          let same : m / 8 * 8 + k ≡ (m + 1) / 8 * 8 + k = omega (arith, some) in
          all k below (omega (arith, same, within)) ∙ ap at_place same,
    )
