use Rattle.std.proofs.Common.{◌<◌, length}
use Rattle.std.specs.Prelude.{slice_index}
use Rattle.std.proofs.lemmas.List.{get_or_default}
use Rattle.std.proofs.Common.{ℕ, map, sym, ◌∙◌, ap, arith}
use Rattle.std.proofs.lemmas.List.{map-id}
use Rattle.field_base.proofs.Written.{written_start, written_step, written-read, written-end, each-at, each-length}
use Rattle.any_field.specs.Contexts.{field_product}
use Rattle.any_field.proofs.ScalarMaps.{low-lt, low-times}
use Rattle.any_field.proofs.WordRemainders.{context-ring}
use Rattle.any_field.proofs.extension.multiples.Multiples.multiply.Goals as goal

pub loop-place-init : goal.loop-place-init
loop-place-init c = written_start (λ x. x) _ c.args.words.now c.args.words.now

pub of-requires : goal.of-requires
of-requires c = low-lt c.args.self.now.field.degree (slice_index c.loop-place.words c.loop-place.place) c.low_bits.result c.low_bits.ensures

pub loop-place-preserved : goal.loop-place-preserved
loop-place-preserved c =
    let map = c.args.self.now in
    let s = map.field in
    let loop = c.loop-place in
    let x = slice_index loop.words loop.place in
    let within : loop.place < length loop.words = omega (arith, loop.auto.words) in
    written_step (λ x. x) _ c.args.words.now loop.words loop.place c.of.result (omega arith)
    (c.of.ensures
    ∙ low-times s.degree (field_product s.degree s.tail) (context-ring s.degree s.tail s.ratio s.context) x map.scalar c.low_bits.result c.low_bits.ensures
    ∙ each-at (λ x. x) (λ (z : ℕ). field_product s.degree s.tail z map.scalar) c.args.words.now loop.place x (omega arith)
    (written-read (λ x. x) _ c.args.words.now loop.words loop.place x (omega arith) (get_or_default loop.words loop.place 0 x within) loop.invariant))
    loop.invariant

pub returns : goal.returns
returns c =
    let loop = c.loop-place in
    let by = c.args.self.now in
    let f = λ (z : ℕ). field_product by.field.degree by.field.tail z by.scalar in
    sym (map-id loop.words)
    ∙ written-end (λ x. x) _ c.args.words.now loop.words loop.place loop.auto.words (each-length (λ x. x) f c.args.words.now) (omega arith) loop.invariant
    ∙ ap (map f) (map-id c.args.words.now)
