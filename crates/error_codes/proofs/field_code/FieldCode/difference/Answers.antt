use Rattle.std.proofs.Common.{◌-◌, ◌^◌, ◌<◌, ◌≤◌, suc, ℕ, List, slice_index, sym, ◌∙◌, ap, subst, arith}
use Rattle.field_slices.specs.Marks.{marked_below}
use Rattle.error_codes.specs.Filling.{falling_point, falling_scale, is_marked, is_other}
use Rattle.error_codes.proofs.CodeValues.{falling-scaled}
use Rattle.error_codes.proofs.Differences.{difference-right, difference-sums, scaled_difference}
use Rattle.error_codes.proofs.Moments.{without-one}
use Rattle.error_codes.proofs.field_code.FieldCode.difference.Goals as goal

pub modified_syndromes-left-requires : goal.modified_syndromes-left-requires
modified_syndromes-left-requires g c =
    let fewer = without-one (is_marked c.args.marked.now) c.args.self.now.word_length c.args.place c.requires.inside
    c.requires.chosen in
    omega (arith, fewer, c.requires.few)

pub returns-clause-difference : goal.returns-clause-difference
returns-clause-difference g c = λ word sent syndromes_are fits checked same.
    let code = c.args.self.now in
    let times = g.F.SymbolField.product code.field in
    let width = g.F.SymbolField.width code.field in
    let wide = g.met.F.SymbolField.wide_law code.field in
    let field = g.met.F.SymbolField.field_law code.field in
    let n = code.word_length in
    let checks = n - code.dimension in
    let point = falling_point times code.root n in
    let scale = falling_scale times code.root code.first_root n in
    let scaled = falling-scaled width times wide field n code.root code.first_root code.scaled in
    let fewer : suc (marked_below (is_other c.args.marked.now c.args.place) n)
    ≤ marked_below (is_marked c.args.marked.now) n = without-one (is_marked c.args.marked.now) n c.args.place
    c.requires.inside c.requires.chosen in
    difference-right width times wide field checks n point scale scaled word sent fits checked
    (is_marked c.args.marked.now) same c.args.place c.requires.inside (slice_index c.modified_syndromes-left.new.sums 0)
    c.denominator.result c.invert-inverse.result c.multiply.result
    (c.modified_syndromes-left.ensures.sums
    (scaled_difference width times wide field checks n point scale scaled word sent fits checked)
    (λ m below.
    ap (λ (s : List ℕ). slice_index s m) c.copy_from_slice.ensures.after
    ∙ difference-sums width times wide field checks n point scale scaled word sent fits checked m
    (slice_index c.args.syndromes.now m) below (syndromes_are m below)) 0
    (omega (arith, fewer, c.requires.few, c.modified_syndromes-left.ensures.left)))
    c.denominator.ensures (c.invert-inverse.ensures (subst (λ (z : ℕ). z < 2 ^ width) (sym c.denominator.ensures)
    (field.ring.below (scale c.args.place) _))) c.multiply.ensures
