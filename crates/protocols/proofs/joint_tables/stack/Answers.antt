use Rattle.std.proofs.Common.{◌≡◌, ◌+◌, ◌*◌, ◌/◌, ◌%◌, ◌<◌, ◌≤◌, ◌^◌, ℕ, List, map, sym, ◌∙◌, ap, subst, arith, lit<}
use Rattle.std.specs.Prelude.{slice_index}
use Rattle.std.specs.List.{range_with_len}
use Rattle.std.proofs.Math.Nat.{pow-le-pow_right}
use Rattle.std.proofs.lemmas.List.{length-map}
use Rattle.std.proofs.lemmas.Nat.{pow_pos}
use Rattle.field_slices.proofs.PowerLists.{pushed}
use Rattle.protocols.specs.JointTables.{sent_column, stacked}
use Rattle.protocols.proofs.HonestTables.{stack-each, stack-few, stack-inside, stack-long, stack-some, stack_entry}
use Rattle.protocols.proofs.joint_tables.stack.Goals as goal

pub overflow_mul-index-end : goal.overflow_mul-index-end
overflow_mul-index-end g c =
    let power = c.power_of_two-corners.ensures.power in
    let up : 2 ^ c.args.levels ≤ 2 ^ 8 = pow-le-pow_right (lit< tt) c.requires.few_levels in
    let few = stack-few c.args.places c.power_of_two-corners.result c.args.height c.requires.few_places (omega (arith, power, up)) c.requires.height in
    omega (arith, few)

pub nonzero_div-place : goal.nonzero_div-place
nonzero_div-place g c =
    let power = c.power_of_two-corners.ensures.power in
    let one = pow_pos c.args.levels in
    let some = stack-some c.power_of_two-corners.result c.args.height (omega (arith, power, one)) c.requires.some in
    omega (arith, some)

pub nonzero_rem-within : goal.nonzero_rem-within
nonzero_rem-within g c =
    let power = c.power_of_two-corners.ensures.power in
    let one = pow_pos c.args.levels in
    let some = stack-some c.power_of_two-corners.result c.args.height (omega (arith, power, one)) c.requires.some in
    omega (arith, some)

pub overflow_mul-place : goal.overflow_mul-place
overflow_mul-place g c =
    let power = c.power_of_two-corners.ensures.power in
    let one = pow_pos c.args.levels in
    let inside =
    stack-inside c.args.places c.power_of_two-corners.result c.args.height c.elements.index (omega (arith, power, one)) c.requires.some (omega arith) in
    let few = stack-few c.args.places 1 c.args.height c.requires.few_places (omega arith) c.requires.height in
    omega (arith, inside, few)

pub overflow_add-place : goal.overflow_add-place
overflow_add-place g c =
    let power = c.power_of_two-corners.ensures.power in
    let one = pow_pos c.args.levels in
    let inside =
    stack-inside c.args.places c.power_of_two-corners.result c.args.height c.elements.index (omega (arith, power, one)) c.requires.some (omega arith) in
    let few = stack-few c.args.places 1 c.args.height c.requires.few_places (omega arith) c.requires.height in
    omega (arith, inside, few)

pub element_of-requires : goal.element_of-requires
element_of-requires g c = λ within.
    let power = c.power_of_two-corners.ensures.power in
    let one = pow_pos c.args.levels in
    let size : ℕ = c.power_of_two-corners.result * c.args.height in
    let index = c.elements.index in
    let place : ℕ = index / size * c.args.height + index % size % c.args.height in
    let inside =
    stack-inside c.args.places c.power_of_two-corners.result c.args.height index (omega (arith, power, one)) c.requires.some (omega arith) in
    subst (λ (n : ℕ). place < n) (sym (c.requires.lists (index % size / c.args.height) within)) inside

pub elements-preserved : goal.elements-preserved
elements-preserved g c =
    let repr = g.F.Represented.repr in
    let lists : List (List _) = map (λ list. list.items) c.args.lists.now in
    ap (map repr) c.in_ok-push.ensures.items
    ∙ pushed repr (stack_entry repr lists (2 ^ c.args.levels * c.args.height) c.args.height) c.elements.list.items c.elements.index
    c.element_of.result c.elements.invariant
    (c.element_of.ensures
    ∙ ap (λ (b : ℕ). stack_entry repr lists (b * c.args.height) c.args.height c.elements.index) c.power_of_two-corners.ensures.power)

-- all elements were made
pub returns-clause-count : goal.returns-clause-count
returns-clause-count g c =
    let repr = g.F.Represented.repr in
    let lists : List (List _) = map (λ list. list.items) c.args.lists.now in
    let power = c.power_of_two-corners.ensures.power in
    let end : c.elements.index ≡ c.args.places * (2 ^ c.args.levels * c.args.height) =
    (let last : c.elements.index ≡ c.args.places * (c.power_of_two-corners.result * c.args.height) = omega arith in last)
    ∙ ap (λ (b : ℕ). c.args.places * (b * c.args.height)) power in
    stack-long repr lists (2 ^ c.args.levels) c.args.height c.args.places c.requires.some
    (subst (λ (l : ℕ). l ≤ 2 ^ c.args.levels) (sym (length-map c.args.lists.now (λ list. list.items))) c.requires.room) c.elements.list.items
    (c.elements.invariant
    ∙ ap (λ (n : ℕ). map (stack_entry repr lists (2 ^ c.args.levels * c.args.height) c.args.height) (range_with_len 0 n)) end)

pub returns-clause-each : goal.returns-clause-each
returns-clause-each g c = λ k j below.
    let repr = g.F.Represented.repr in
    let lists : List (List _) = map (λ list. list.items) c.args.lists.now in
    let power = c.power_of_two-corners.ensures.power in
    let end : c.elements.index ≡ c.args.places * (2 ^ c.args.levels * c.args.height) =
    (let last : c.elements.index ≡ c.args.places * (c.power_of_two-corners.result * c.args.height) = omega arith in last)
    ∙ ap (λ (b : ℕ). c.args.places * (b * c.args.height)) power in
    stack-each repr lists (2 ^ c.args.levels) c.args.height c.args.places c.requires.some
    (subst (λ (l : ℕ). l ≤ 2 ^ c.args.levels) (sym (length-map c.args.lists.now (λ list. list.items))) c.requires.room) c.elements.list.items
    (c.elements.invariant
    ∙ ap (λ (n : ℕ). map (stack_entry repr lists (2 ^ c.args.levels * c.args.height) c.args.height) (range_with_len 0 n)) end) k j below
    ∙ ap (λ (n : ℕ). slice_index (stacked n c.args.height (sent_column repr c.args.height lists) k) j)
    (length-map c.args.lists.now (λ list. list.items))
