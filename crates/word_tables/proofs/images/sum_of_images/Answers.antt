use Rattle.std.proofs.Common.{◌∙◌, sym, ap, ℕ, ◌+◌, ◌/◌, ◌<◌, ◌≤◌, length, drop, arith}
use Rattle.std.specs.Prelude.{bit_xor}
use Rattle.field_base.specs.LinearMaps.{linear_image}
use Rattle.field_base.proofs.LinearMapLemmas.{image_enters, image_stays, images_end}
use Rattle.word_tables.proofs.images.sum_of_images.Goals as goal
use Rattle.word_tables.proofs.images.sum_of_images.Goals.{then-rest-eq1, else-rest-eq1}

pub loop-image-preserved : goal.loop-image-preserved
loop-image-preserved c =
    let place = c.loop-image.image-index in
    let within : place < length c.args.images.now = omega arith in
    let after : ℕ = linear_image (drop (place + 1) c.args.images.now) (c.loop-image.rest / 2) in
    elim c.if-rest-eq1.branch [
      | then-rest-eq1 w ↦
          ap (λ (sum : ℕ). bit_xor sum after) w.sum-is
          ∙ image_enters c.args.images.now place c.loop-image.sum c.loop-image.rest within w.if-rest-eq1.true
          ∙ c.loop-image.invariant
      | else-rest-eq1 w ↦
          ap (λ (sum : ℕ). bit_xor sum after) w.sum-is
          ∙ image_stays c.args.images.now place c.loop-image.sum c.loop-image.rest within w.if-rest-eq1.false
          ∙ c.loop-image.invariant
    ]

pub returns : goal.returns
returns c =
    let past : length c.args.images.now ≤ c.loop-image.image-index = omega arith in
    sym (images_end c.args.images.now c.loop-image.image-index c.loop-image.sum c.loop-image.rest past) ∙ c.loop-image.invariant
