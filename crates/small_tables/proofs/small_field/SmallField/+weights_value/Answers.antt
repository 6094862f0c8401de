use Rattle.std.proofs.Common.{rules, ◌≡◌, ◌-◌, ◌*◌, ◌^◌, ◌<◌, ℕ, List, length, map, take, drop, sym, ◌∙◌, ap, ap₂, arith}
use Rattle.std.specs.Prelude.{bit_xor, slice_index}
use Rattle.std.specs.List.{range_with_len}
use Rattle.std.proofs.lemmas.List.{length-drop, length-map}
use Rattle.std.proofs.lemmas.List.FromFn.{length-map-range_with_len}
use Rattle.field_slices.proofs.CubeTables.{none-if_empty, some-unless_empty}
use Rattle.field_slices.specs.Multilinear.{multilinear_value}
use Rattle.small_tables.specs.SmallTables.{mixed, mixed_weights}
use Rattle.small_tables.proofs.SmallParts.{rest-whole, weights-alone, weights-step}
use Rattle.small_tables.proofs.small_field.SmallField.+weights_value.Goals as goal

pub returns-then-is_empty : goal.returns-then-is_empty
returns-then-is_empty g t c =
    let field = g.F.Represented in
    let small = c.args.self.now in
    c.mixed.ensures
    ∙ ap (mixed field.product small.width (map field.repr c.args.scalars.now))
    (ap field.repr c.ONE.ensures ∙ g.met.F.PrimeCharacteristicRing.one_law ∙ g.met.F.Field.unit_law)
    ∙ sym
    (weights-alone field.width field.product small.width small.levels g.met.F.Field.field_law.ring small.space (map field.repr c.args.scalars.now)
    (map field.repr c.args.first.now) (map field.repr c.args.at.now)
    (length-map c.args.first.now field.repr ∙ none-if_empty _ _ c.is_empty.ensures c.if-is_empty.true)
    (length-map c.args.at.now field.repr ∙ c.requires.coordinates ∙ sym (length-map c.args.first.now field.repr)))

pub weights_value-requires : goal.weights_value-requires
weights_value-requires g t c =
    let field = g.F.Represented in
    let width = c.args.self.now.width in
    let scalars = map field.repr c.args.scalars.now in
    let first = c.args.first.now in
    let at = c.args.at.now in
    let some : 0 < length first = some-unless_empty _ _ c.is_empty.ensures c.if-is_empty.false in
    let count : length c.as_slice.result.now ≡ 2 ^ c.args.self.now.levels =
    ap length c.as_slice.ensures.value ∙ sym (length-map c.in_ok-nexts.nexts.items field.repr) ∙ ap length c.in_ok-nexts.ensures
    ∙ length-map-range_with_len (λ (m : ℕ). bit_xor (mixed field.product width scalars (field.product (field.repr c.index-first-0.result) (2 ^ (width * m))))
    (field.product (bit_xor 1 (field.repr c.index-at-0.result)) (slice_index scalars m))) 0 (length c.args.scalars.now)
    ∙ c.requires.count in
    let shorter : length (take (length first - 1) (drop 1 first)) ≡ length first - 1 = ap length (rest-whole first) ∙ length-drop 1 first in
    let less : length (take (length first - 1) (drop 1 first)) < length first = omega (arith, shorter, some) in
    let coordinates : length (take (length at - 1) (drop 1 at)) ≡ length (take (length first - 1) (drop 1 first)) =
    ap length (rest-whole at) ∙ length-drop 1 at ∙ ap (λ (n : ℕ). n - 1) c.requires.coordinates ∙ sym shorter in
    search rules

pub returns : goal.returns
returns g t c =
    let field = g.F.Represented in
    let small = c.args.self.now in
    let first = c.args.first.now in
    let at = c.args.at.now in
    let scalars = map field.repr c.args.scalars.now in
    let nexts = c.in_ok-nexts.nexts.items in
    c.in_ok-value.ensures
    ∙ ap₂ (λ (f a : List _). multilinear_value field.product (mixed_weights field.product small.width (map field.repr c.as_slice.result.now)
    (map field.repr f)) (map field.repr a)) (rest-whole first) (rest-whole at)
    ∙ ap (λ (l : List _). multilinear_value field.product (mixed_weights field.product small.width (map field.repr l) (map field.repr (drop 1 first)))
    (map field.repr (drop 1 at))) c.as_slice.ensures.value
    ∙ weights-step field.width field.product small.width small.levels g.met.F.Field.field_law.ring small.space field.repr scalars (map field.repr nexts)
    first at c.index-first-0.result c.index-at-0.result (some-unless_empty _ _ c.is_empty.ensures c.if-is_empty.false) c.requires.coordinates
    c.index-first-0.is c.index-at-0.is (length-map c.args.scalars.now field.repr ∙ c.requires.count)
    (c.in_ok-nexts.ensures
    ∙ ap (λ (n : ℕ). map (λ (m : ℕ). bit_xor (mixed field.product small.width scalars (field.product (field.repr c.index-first-0.result) (2 ^ (small.width * m))))
    (field.product (bit_xor 1 (field.repr c.index-at-0.result)) (slice_index scalars m))) (range_with_len 0 n))
    (sym (length-map c.args.scalars.now field.repr)))
