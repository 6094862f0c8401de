use Rattle.std.proofs.Common.{◌≡◌, ℕ, ◌+◌, ◌/◌, ◌%◌, ◌≤◌, length, map, sym, ◌∙◌, ap, arith}
use Rattle.std.proofs.lemmas.List.{length-map}
use Rattle.ghash_slices.proofs.LowRuns.{forward_ends, forward_step, ReadyFor, ready_after, ready_at_first, ready_same, values_at_points}
use Rattle.ghash_slices.proofs.low_stages.run_low_stages.Goals as goal
use Rattle.ghash_slices.proofs.low_stages.run_low_stages.Goals.{then-run-gt0, else-run-gt0}

pub loop-run-preserved : goal.loop-run-preserved
loop-run-preserved g c =
    let value = g.W.Reads.number in
    let run = c.loop-run in
    let stepped = c.if-run-gt0 in
    let ready : ReadyFor c.args.shifts.now c.args.basis.now c.args.first_run run.run stepped.number stepped.twiddles =
    elim c.if-run-gt0.branch [
      | then-run-gt0 w ↦
          ready_same c.args.shifts.now c.args.basis.now c.args.first_run run.run stepped.number (run.number + 1) stepped.twiddles
          w.with_images-twiddles-then-run-gt0.result w.number-is w.twiddles-is
          (ready_after c.args.shifts.now c.args.basis.now c.args.first_run run.run run.number run.twiddles
          w.with_images-twiddles-then-run-gt0.result (map value c.args.values.now) (map value run.values) w.if-run-gt0.true run.invariant.1
          w.with_images-twiddles-then-run-gt0.ensures)
      | else-run-gt0 w ↦
          ready_same c.args.shifts.now c.args.basis.now c.args.first_run run.run stepped.number run.number stepped.twiddles run.twiddles
          w.number-is w.twiddles-is
          (ready_at_first c.args.shifts.now c.args.basis.now c.args.first_run run.run run.number run.twiddles (map value c.args.values.now) (map value run.values)
          w.if-run-gt0.false run.invariant.1)
    ] in (
      c.transform_run.ensures.length ∙ run.invariant.0,
      forward_step c.args.shifts.now c.args.basis.now c.args.first_run run.run run.number stepped.number run.twiddles stepped.twiddles
          c.sums_of_three-low.result (map value c.args.values.now) (map value run.values) (map value c.transform_run.new.values)
          c.sums_of_three-low.ensures
          run.invariant.1 ready
          (length-map c.transform_run.new.values value ∙ c.transform_run.ensures.length ∙ sym (length-map run.values value))
          c.transform_run.ensures.run c.transform_run.ensures.before c.transform_run.ensures.behind,
    )

pub returns-clause-values : goal.returns-clause-values
returns-clause-values g c =
    let value = g.W.Reads.number in
    let run = c.loop-run in
    let old = map value c.args.values.now in
    let long = length-map c.args.values.now value in
    let whole : length old % 16 ≡ 0 = ap (λ (n : ℕ). n % 16) long ∙ c.requires.whole in
    let all : length old / 16 ≤ run.run = omega (arith, long) in
    values_at_points c.args.shifts.now c.args.basis.now c.args.first_run old (map value run.values) c.requires.basis whole
    (λ some. let bound = c.requires.numbered (λ none. some (ap (map value) none)) in omega (arith, bound, long))
    (forward_ends c.args.shifts.now c.args.basis.now c.args.first_run run.run run.number run.twiddles old (map value run.values) all whole
    run.invariant.1)
