use Rattle.std.proofs.Common.{◌≡◌, ◌<◌, ◌^◌, ◌++◌, List, length, refl, sym, ◌∙◌, ap, ap₂, arith}
use Rattle.std.proofs.lemmas.List.{length-drop, take-append-drop}
use Rattle.std.proofs.lemmas.Nat.{pow_below}
use Rattle.field_base.proofs.PowerLemmas.{power-add, repeated_square-power}
use Rattle.field_base.specs.Powers.{power, value_of}
use Rattle.field_slices.proofs.HornerLanes.{value_of_blocks}
use Rattle.field_slices.proofs.horner.value_in_lanes.Goals as goal

pub returns : goal.returns
returns g c =
    let number = g.S.Scalars.number c.args.field in
    let times = g.S.Scalars.product c.args.field in
    let width = g.S.Scalars.width c.args.field in
    let law = g.met.S.Scalars in
    let ring = (g.met.S.Scalars.field_law c.args.field).ring in
    let x = number c.args.x in
    let one_fits : 1 < 2 ^ width = pow_below 0 width (law.wide_law c.args.field) in
    let value = λ (xs : List _). value_of 1 times number xs x in
    let quarter : number c.squared-by_quarter.result ≡ power 1 times x 32 =
    c.squared-by_quarter.ensures ∙ repeated_square-power width 1 times ring one_fits 5 x in
    let half : number c.square-by_half.result ≡ power 1 times x 64 =
    c.square-by_half.ensures ∙ ap₂ times quarter quarter ∙ sym (power-add width 1 times ring one_fits x 32 32) in
    let all : number c.square.result ≡ power 1 times x 128 =
    c.square.ensures ∙ ap₂ times half half ∙ sym (power-add width 1 times ring one_fits x 64 64) in
    let sums = c.add_blocks.new.sums in
    let second = c.fold.new.sums in
    let first_cut = c.split_at_mut-first.ensures in
    let second_cut = c.split_at_mut-third.ensures in
    let kept = c.fold.ensures.long in
    c.value_one_by_one.ensures
    ∙ c.fold-2.ensures.value x 32 _
    (omega (arith, ap length second_cut.back, length-drop 32 second, kept, ap length first_cut.back, length-drop 64 sums, c.add_blocks.ensures.long))
    quarter refl
    ∙ ap value (ap₂ (λ (xs ys : List _). xs ++ ys) second_cut.front second_cut.back ∙ take-append-drop 32 second)
    ∙ c.fold.ensures.value x 64 _ (omega (arith, ap length first_cut.back, length-drop 64 sums, c.add_blocks.ensures.long)) half refl
    ∙ ap value (ap₂ (λ (xs ys : List _). xs ++ ys) first_cut.front first_cut.back ∙ take-append-drop 64 sums)
    ∙ c.add_blocks.ensures.value x all
    ∙ value_of_blocks width 1 times ring x number one_fits c.zero-sums.result
    _ 128 c.args.coefficients.now _ _ _ c.split_at.ensures.front c.split_at.ensures.back c.copy_from_slice.ensures.after
    c.zero-sums.ensures
