use Rattle.std.specs.Prelude.{slice_index}
use Rattle.std.proofs.lemmas.List.{get_or_default}
use Rattle.std.proofs.Common.{◌≡◌, ◌-◌, ◌+◌, ◌%◌, ◌^◌, ◌<◌, ℕ, length, sym, ◌∙◌, subst, arith}
use Rattle.std.proofs.lemmas.Nat.{pow_pos}
use native.Mathlib.Nat.{mod-eq_of_lt}
use Rattle.field_slices.proofs.BatchInversion.{inverted-at, inverted-start, inverted-end, inverted-zero, inverted-more}
use Rattle.any_field.specs.Contexts.{field_product}
use Rattle.any_field.proofs.ContextFields.{field-at}
use Rattle.any_field.proofs.InverseSlices.{low-lt, low-times, low-both, below-start, below-step, below-end}
use Rattle.any_field.proofs.extension.BinaryExtension.inverses_from_products.Goals as goal

pub loop-place-init : goal.loop-place-init
loop-place-init c =
    let w = c.args.self.degree in
    let field = field-at w c.args.self.tail c.args.self.ratio c.args.self.context c.args.self.irreducible in (
      inverted-start w (field_product w c.args.self.tail) field c.args.self.context.wide (λ (x : ℕ). x % 2 ^ w) (low-lt w) c.args.words.now
          c.args.products.now c.args.inverse c.requires.before c.requires.inverse,
      below-start w c.args.products.now _ c.requires.length,
    )

pub loop-place-preserved-then-word-eq0 : goal.loop-place-preserved-then-word-eq0
loop-place-preserved-then-word-eq0 c =
    let w = c.args.self.degree in
    let low = λ (x : ℕ). x % 2 ^ w in
    let times = field_product w c.args.self.tail in
    let field = field-at w c.args.self.tail c.args.self.ratio c.args.self.context c.args.self.irreducible in
    let loop = c.loop-place in
    let place = loop.place - 1 in
    let next : loop.place ≡ place + 1 = omega arith in
    let inside : place < length c.args.words.now = omega arith in (
      inverted-zero w times field c.args.self.context.wide low (low-lt w) c.args.words.now loop.products place loop.rest 0
          (slice_index c.args.words.now place) inside (omega arith) (get_or_default c.args.words.now place 0 _ inside) (sym c.low_bits-word.ensures ∙ c.if-word-eq0.true)
          (mod-eq_of_lt (pow_pos w))
          (inverted-at w times field c.args.self.context.wide low (low-lt w) c.args.words.now loop.products loop.place (place + 1) loop.rest next
          loop.invariant.0),
      below-step w loop.products loop.place place 0 next (omega arith) (pow_pos w) loop.invariant.1,
    )

pub loop-place-preserved : goal.loop-place-preserved
loop-place-preserved c =
    let w = c.args.self.degree in
    let low = λ (x : ℕ). x % 2 ^ w in
    let t = c.args.self.tail in
    let r = c.args.self.ratio in
    let times = field_product w t in
    let field = field-at w t r c.args.self.context c.args.self.irreducible in
    let loop = c.loop-place in
    let place = loop.place - 1 in
    let before = slice_index loop.products place in
    let word = slice_index c.args.words.now place in
    let next : loop.place ≡ place + 1 = omega arith in
    let inside : place < length c.args.words.now = omega arith in
    let room : place < length loop.products = omega (arith, loop.auto.products, c.requires.length) in (
      inverted-more w times field c.args.self.context.wide low (low-lt w) c.args.words.now loop.products place loop.rest c.multiply-rest.result
          before c.multiply.result word inside (omega arith) (get_or_default c.args.words.now place 0 word inside) (get_or_default loop.products place 0 before room)
          (λ e. c.if-word-eq0.false (c.low_bits-word.ensures ∙ e)) (low-both w t r c.args.self.context loop.rest before c.multiply.result c.multiply.ensures)
          (low-times w t r c.args.self.context loop.rest word c.low_bits-word.result c.multiply-rest.result c.low_bits-word.ensures c.multiply-rest.ensures)
          (inverted-at w times field c.args.self.context.wide low (low-lt w) c.args.words.now loop.products loop.place (place + 1) loop.rest next
          loop.invariant.0),
      below-step w loop.products loop.place place c.multiply.result next (omega arith)
          (subst (λ (z : ℕ). z < 2 ^ w) (sym c.multiply.ensures) (field.ring.below loop.rest before)) loop.invariant.1,
    )

pub returns-clause-inverses : goal.returns-clause-inverses
returns-clause-inverses c =
    let w = c.args.self.degree in
    let times = field_product w c.args.self.tail in
    let field = field-at w c.args.self.tail c.args.self.ratio c.args.self.context c.args.self.irreducible in
    let loop = c.loop-place in
    below-end w times c.args.words.now loop.products loop.place (omega arith) loop.invariant.1
    (inverted-end w times field c.args.self.context.wide (λ (x : ℕ). x % 2 ^ w) (low-lt w) c.args.words.now loop.products loop.place loop.rest
    (omega arith) (loop.auto.products ∙ c.requires.length) loop.invariant.0)

pub returns-clause-elements : goal.returns-clause-elements
returns-clause-elements c = λ i within. c.loop-place.invariant.1 i (omega arith) within
