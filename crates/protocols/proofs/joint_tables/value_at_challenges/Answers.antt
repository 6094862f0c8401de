use Rattle.std.proofs.Common.{◌+◌, ◌++◌, ℕ, List, length, map, ◌∙◌, ap, ap₂, arith}
use Rattle.std.specs.Prelude.{slice_index}
use Rattle.std.proofs.lemmas.List.{length-append, length-replicate}
use Rattle.protocols.proofs.StackedTables.{padded-same, value-same}
use Rattle.protocols.proofs.joint_tables.value_at_challenges.Goals as goal

pub evaluate_multilinear-requires : goal.evaluate_multilinear-requires
evaluate_multilinear-requires g c =
    let values = c.args.values.now in
    let room = c.requires.room in
    let power = c.power_of_two-size.ensures.power in
    let zeros = ap length c.in_ok-zeros.ensures ∙ length-replicate _ g.F.PrimeCharacteristicRing.ZERO in
    let joined =
    ap length (c.as_slice-2.ensures.value ∙ c.in_ok-extend_from_slice.ensures.items)
    ∙ length-append c.in_ok-corners.corners.items c.as_slice.result.now
    ∙ ap₂ (λ (a b : ℕ). a + b) (ap length c.in_ok-corners.ensures.items) (ap length c.as_slice.ensures.value ∙ zeros) in
    joined ∙ omega (arith, room, power)

pub returns : goal.returns
returns g c =
    let field = g.F.Represented in
    let repr = field.repr in
    let values = c.args.values.now in
    let challenges = c.args.challenges.now in
    let nothing = g.F.PrimeCharacteristicRing.ZERO in
    let made =
    c.as_slice-2.ensures.value ∙ c.in_ok-extend_from_slice.ensures.items
    ∙ ap₂ (λ (a b : List _). a ++ b) c.in_ok-corners.ensures.items (c.as_slice.ensures.value ∙ c.in_ok-zeros.ensures) in
    c.evaluate_multilinear.ensures
    ∙ value-same field.product (slice_index (map repr c.as_slice-2.result.now)) (slice_index (map repr values)) (map repr challenges)
    (λ i below.
    ap (λ (l : List _). slice_index (map repr l) i) made
    ∙ padded-same repr values nothing g.met.F.PrimeCharacteristicRing.zero_law _ i)
