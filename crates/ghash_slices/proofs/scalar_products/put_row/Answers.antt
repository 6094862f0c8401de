use Rattle.std.proofs.Common.{◌≡◌, ◌+◌, ◌-◌, ap, subst, arith, ℕ}
use Rattle.std.specs.Prelude.{slice_index}
use Rattle.std.proofs.Math.ListN.{set}
use Rattle.ghash_slices.specs.Blocks.{HoldsPlaces}
use Rattle.ghash_slices.proofs.SliceBlocks.{none_held, one_more}
use Rattle.ghash_slices.proofs.scalar_products.put_row.Goals as goal

pub loop-place-init : goal.loop-place-init
loop-place-init c =
    let f = λ (p : ℕ). slice_index c.args.row.now (p - c.args.start) in
    let at : c.args.start ≡ c.args.start + 0 = omega arith in
    subst (λ (n : ℕ). HoldsPlaces f c.args.start n c.args.numbers.now c.args.numbers.now) at (none_held f c.args.start c.args.numbers.now)

pub loop-place-preserved : goal.loop-place-preserved
loop-place-preserved c =
    let f = λ (p : ℕ). slice_index c.args.row.now (p - c.args.start) in
    let place = c.loop-place.place in
    let at : place ≡ c.args.start + place - c.args.start = omega arith in
    let next : c.args.start + place + 1 ≡ c.args.start + (place + 1) = omega arith in
    let same = c.loop-place.invariant.same_length in
    let value : ℕ = slice_index c.args.row.now place in
    subst (λ (n : ℕ). HoldsPlaces f c.args.start n c.args.numbers.now (set c.loop-place.numbers (c.args.start + place) value)) next
    (one_more f c.args.start (c.args.start + place) c.args.numbers.now c.loop-place.numbers value (omega arith) (omega (arith, same, c.requires))
    (ap (slice_index c.args.row.now) at) c.loop-place.invariant)

pub returns : goal.returns
returns c =
    let f = λ (p : ℕ). slice_index c.args.row.now (p - c.args.start) in
    let all : c.args.start + c.loop-place.place ≡ c.args.start + 16 = omega arith in
    subst (λ (n : ℕ). HoldsPlaces f c.args.start n c.args.numbers.now c.loop-place.numbers) all c.loop-place.invariant
