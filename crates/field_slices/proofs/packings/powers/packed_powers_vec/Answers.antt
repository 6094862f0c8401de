use Rattle.std.proofs.Common.{◌≡◌, ℕ, ◌+◌, ◌*◌, List, [], ◌∷◌, length, map, length-append, sym, ◌∙◌, ap, arith}
use Rattle.std.specs.List.{flat_map, range_with_len}
use native.Mathlib.Nat.{zero-mul}
use Rattle.packed_lanes.specs.Packed.{lanes_of}
use Rattle.field_slices.proofs.PackedPowers.{first_powers, next_powers, pushed_powers, shifted_power}
use Rattle.field_slices.proofs.packings.powers.packed_powers_vec.Goals as goal

pub loop-init : goal.loop-init
loop-init g c =
    let ring = g.F.Represented in
    let base = ring.repr c.args.base in
    let first = ring.repr c.args.first in (
      ap (λ (ps : List _). length ps) c.in_ok-packings.ensures.items,
      ap (λ (ps : List _). map ring.repr (flat_map lanes_of ps)) c.in_ok-packings.ensures.items
          ∙ ap (λ (k : ℕ). map (shifted_power ring.unit ring.product base first) (range_with_len 0 k)) (sym (zero-mul g.row.N)),
      first_powers ring.repr ring.width ring.unit ring.product ring.ring_law ring.unit_fits base first c.packed_powers-current.result
          c.packed_powers-current.ensures,
    )

pub loop-preserved : goal.loop-preserved
loop-preserved g c =
    let ring = g.F.Represented in
    let base = ring.repr c.args.base in
    let first = ring.repr c.args.first in
    let packings = c.loop.packings.items in
    let current = c.loop.current in
    let count = c.loop.counter in (
      ap (λ (ps : List _). length ps) c.in_ok-push.ensures.items
          ∙ length-append packings (current ∷ [])
          ∙ ap (λ (n : ℕ). n + 1) c.loop.invariant.0,
      ap (λ (ps : List _). map ring.repr (flat_map lanes_of ps)) c.in_ok-push.ensures.items
          ∙ pushed_powers ring.repr ring.width ring.unit ring.product ring.ring_law ring.unit_fits base first packings current count
          c.loop.invariant.1 c.loop.invariant.2,
      next_powers ring.repr ring.width ring.unit ring.product ring.ring_law ring.unit_fits base first current c.mul-current.result
          c.exp_u64-step.result count c.exp_u64-step.ensures c.loop.invariant.2 c.mul-current.ensures,
    )

pub returns-clause-powers : goal.returns-clause-powers
returns-clause-powers g c =
    let ring = g.F.Represented in
    let base = ring.repr c.args.base in
    let first = ring.repr c.args.first in
    let all : c.loop.counter ≡ c.args.count = omega (arith, c.loop.auto.counter-end, c.loop-test.false) in
    c.loop.invariant.1
    ∙ ap (λ (n : ℕ). map (shifted_power ring.unit ring.product base first) (range_with_len 0 (n * g.row.N))) all
