use Rattle.std.proofs.Common.{◌≡◌, ℕ, ◌+◌, ◌-◌, ◌<◌, ◌≤◌, map, refl, ◌∙◌, ap, ap₂, subst, arith}
use Rattle.std.proofs.lemmas.List.{length-map}
use Rattle.std.specs.Prelude.{bit_xor, slice_index}
use Rattle.ghash_slices.specs.Blocks.{HoldsPlaces}
use Rattle.ghash_slices.proofs.SliceBlocks.{block_held, none_held, place_written}
use Rattle.ghash_slices.proofs.slices.add_bytes.Goals as goal

pub loop-place-init : goal.loop-place-init
loop-place-init g c =
    let old = map g.W.Reads.number c.args.values.now in
    let start = c.args.start in
    let at : start ≡ start + 0 = omega arith in (
      refl,
      λ added held.
          subst (λ (n : ℕ). HoldsPlaces (λ p. bit_xor (slice_index old p) (added (p - start))) start n old old) at
          (none_held (λ p. bit_xor (slice_index old p) (added (p - start))) start old),
    )

pub loop-place-preserved : goal.loop-place-preserved
loop-place-preserved g c =
    let value = g.W.Reads.number in
    let old = map value c.args.values.now in
    let start = c.args.start in
    let place = c.loop-place.place in
    let now = map value c.loop-place.values in
    let within = c.count_from-place-end.ensures.inside in
    let long = length-map c.loop-place.values value in
    let here : start + place ≤ start + place = omega arith in
    let at : place ≡ start + place - start = omega arith in
    let next : start + place + 1 ≡ start + (place + 1) = omega arith in (
      c.add_number.auto.values ∙ c.loop-place.invariant.0,
      λ added held.
          subst (λ (n : ℕ). HoldsPlaces (λ p. bit_xor (slice_index old p) (added (p - start))) start n old (map value c.add_number.new.values)) next
          (place_written (λ p. bit_xor (slice_index old p) (added (p - start))) start (start + place) old now
          (map value c.add_number.new.values) _ (omega arith) (omega (arith, within, long, c.loop-place.invariant.0)) c.add_number.ensures
          (ap₂ bit_xor ((c.loop-place.invariant.1 added held).behind (start + place) here) (c.value_at.ensures added held ∙ ap added at))
          (c.loop-place.invariant.1 added held)),
    )

pub returns : goal.returns
returns g c added held =
    let value = g.W.Reads.number in
    let old = map value c.args.values.now in
    let place = c.loop-place.place in
    let count = c.count_from-place-end in
    let most = count.ensures.few in
    block_held (λ p. bit_xor (slice_index old p) (added (p - c.args.start))) c.args.start place old (map value c.loop-place.values) (omega arith)
    (λ short. let less : count.result < 16 = omega arith in
    let end = count.ensures.all less in omega (arith, end, length-map c.args.values.now value))
    (c.loop-place.invariant.1 added held)
