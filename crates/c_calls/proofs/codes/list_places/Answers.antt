use Rattle.std.proofs.Common.{◌+◌, ℕ, List, take, sym, subst, ap₂, arith}
use Rattle.c_calls.proofs.FlaggedPlaces.{AreListed, listed-added, listed-left}
use Rattle.c_calls.proofs.codes.list_places.Goals as goal
use Rattle.c_calls.proofs.codes.list_places.Goals.{then-flags-i-ne0, else-flags-i-ne0}

pub loop-i-preserved : goal.loop-i-preserved
loop-i-preserved c =
    elim c.if-flags-i-ne0.branch [
      | then-flags-i-ne0 w ↦
          let long = c.loop-i.invariant.1 in (
            omega (arith, w.count-is, c.loop-i.invariant.0),
            omega (arith, c.loop-i.invariant.1),
            subst (λ (ps : List ℕ). AreListed flags ps (c.loop-i.i + 1)) (sym (ap₂ (λ (k : ℕ) (ps : List ℕ). take k ps) w.count-is w.places-is))
                (listed-added flags c.loop-i.places c.loop-i.count c.loop-i.i
                (omega (arith, long, c.loop-i.invariant.0, c.loop-i-test.true, c.requires)) w.if-flags-i-ne0.true c.loop-i.invariant.2),
          )
      | else-flags-i-ne0 w ↦ (
        omega (arith, w.count-is, c.loop-i.invariant.0),
        omega (arith, c.loop-i.invariant.1),
        subst (λ (ps : List ℕ). AreListed flags ps (c.loop-i.i + 1)) (sym (ap₂ (λ (k : ℕ) (ps : List ℕ). take k ps) w.count-is w.places-is))
            (listed-left flags c.loop-i.places c.loop-i.count c.loop-i.i w.if-flags-i-ne0.false c.loop-i.invariant.2),
      )
    ]
  where
    flags : List ℕ
    flags = c.args.flags.now
