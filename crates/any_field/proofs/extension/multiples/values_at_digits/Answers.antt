use Rattle.std.proofs.Common.{◌≡◌, ℕ, ◌+◌, ◌-◌, ◌*◌, ◌/◌, ◌%◌, ◌<◌, ◌≤◌, length, take, drop, ◌∙◌, ap, arith, lit<, rules}
use native.Mathlib.Nat.{mod-lt}
use Rattle.field_base.specs.LinearMaps.{linear_image}
use Rattle.word_tables.proofs.TabledMaps.{digit_value, entry_set, value_at_digit}
use Rattle.any_field.proofs.extension.multiples.values_at_digits.Goals as goal

pub loop-place-preserved : goal.loop-place-preserved
loop-place-preserved c =
    let images = c.args.images.now in
    let place = c.loop-place.place in
    let first : ℕ = 4 * (place / 16) in
    let within : place < length c.loop-place.values = omega (arith, c.loop-place.invariant.0) in
    let four : first + 4 - first ≡ 4 = omega arith in
    let enough : first + 4 ≤ length images = omega (arith, c.told-images) in (
      search (rules, c.loop-place.invariant.0),
      entry_set (digit_value images) c.loop-place.values place c.sum_of_images.result within
          (c.sum_of_images.ensures ∙ ap (λ (n : ℕ). linear_image (take n (drop first images)) (place % 16)) four
          ∙ value_at_digit images first (place % 16) (mod-lt place (lit< tt)) enough)
          c.loop-place.invariant.1,
    )
