use Rattle.std.proofs.lemmas.List.{get_or_default}
use Rattle.std.proofs.Common.{◌≡◌, ◌%◌, ◌^◌, ℕ, below_none, map, sym, ◌∙◌, ap, arith}
use Rattle.std.specs.Prelude.{slice_index}
use Rattle.std.proofs.lemmas.Nat.{pow_below}
use native.Mathlib.Nat.{mod-eq_of_lt}
use Rattle.field_base.proofs.Places.{numbers-lt}
use Rattle.field_slices.proofs.BatchInversion.{product-none, products-nonzero, products-zero, products-more, products-step}
use Rattle.field_slices.specs.Inverses.{nonzero_product}
use Rattle.any_field.specs.Contexts.{field_product}
use Rattle.any_field.proofs.ContextFields.{field-at}
use Rattle.any_field.proofs.InverseSlices.{low-lt, low-times}
use Rattle.any_field.proofs.extension.BinaryExtension.products_before.Goals as goal
use Rattle.any_field.proofs.extension.BinaryExtension.products_before.Goals.{then-word-ne0, else-word-ne0}

pub loop-place-init : goal.loop-place-init
loop-place-init c =
    let w = c.args.self.degree in
    let low = λ (x : ℕ). x % 2 ^ w in
    let times = field_product w c.args.self.tail in
    let field = field-at w c.args.self.tail c.args.self.ratio c.args.self.context c.args.self.irreducible in
    let wide = c.args.self.context.wide in (
      below_none (λ i. slice_index (map low c.args.products.now) i ≡ nonzero_product times (slice_index (map low c.args.words.now)) i),
      mod-eq_of_lt (pow_below 0 w wide)
          ∙ sym (product-none w times field wide (slice_index (map low c.args.words.now)) (numbers-lt low w (low-lt w) c.args.words.now)),
    )

pub loop-place-preserved : goal.loop-place-preserved
loop-place-preserved c =
    let w = c.args.self.degree in
    let low = λ (x : ℕ). x % 2 ^ w in
    let times = field_product w c.args.self.tail in
    let field = field-at w c.args.self.tail c.args.self.ratio c.args.self.context c.args.self.irreducible in
    let wide = c.args.self.context.wide in
    let loop = c.loop-place in
    let word = slice_index c.args.words.now loop.place in
    let read = get_or_default c.args.words.now loop.place 0 word c.loop-place-test.true in
    products-step w times field wide low (low-lt w) c.args.words.now loop.products loop.place loop.product c.if-word-ne0.product (omega arith)
    loop.invariant.0 loop.invariant.1
    (elim c.if-word-ne0.branch [
      | then-word-ne0 b ↦
          products-more w times field wide low (low-lt w) c.args.words.now loop.place loop.product c.if-word-ne0.product word c.loop-place-test.true
          read (λ e. b.if-word-ne0.true (c.low_bits-word.ensures ∙ e)) loop.invariant.1
          (ap low b.product-is
          ∙ low-times w c.args.self.tail c.args.self.ratio c.args.self.context loop.product word c.low_bits-word.result b.multiply-product.result
          c.low_bits-word.ensures b.multiply-product.ensures)
      | else-word-ne0 b ↦
          ap low b.product-is
          ∙ products-zero w times field wide low (low-lt w) c.args.words.now loop.place loop.product word c.loop-place-test.true
          read (sym c.low_bits-word.ensures ∙ b.if-word-ne0.false) loop.invariant.1
    ])

pub returns-clause-nonzero : goal.returns-clause-nonzero
returns-clause-nonzero c =
    let w = c.args.self.degree in
    products-nonzero w (field_product w c.args.self.tail)
    (field-at w c.args.self.tail c.args.self.ratio c.args.self.context c.args.self.irreducible) c.args.self.context.wide (λ (x : ℕ). x % 2 ^ w) (low-lt w)
    c.args.words.now c.loop-place.place c.loop-place.product c.loop-place.invariant.1
