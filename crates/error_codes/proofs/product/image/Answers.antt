use Rattle.std.proofs.Common.{◌≡◌, ◌*◌, ◌/◌, ◌^◌, ℕ, arith, length, refl, sym, ◌∙◌, ap, ap₂}
use Rattle.std.proofs.lemmas.Nat.{and_mask}
use Rattle.std.specs.Int.{bit_at}
use Rattle.std.specs.Prelude.{bit_xor, slice_index}
use native.Mathlib.Numerals.{add-one}
use Rattle.field_base.specs.Basis.{sum_below}
use Rattle.field_base.specs.LinearMaps.{linear_image}
use Rattle.error_codes.proofs.product.image.Goals as goal

pub loop-i-init : goal.loop-i-init
unfolding sum_below
loop-i-init c = refl

pub loop-i-preserved : goal.loop-i-preserved
unfolding sum_below
loop-i-preserved c =
    let i = c.loop-i.i in
    let column = slice_index c.args.columns.now i in
    ap₂ bit_xor c.loop-i.invariant (ap (λ (d : ℕ). d * column) (and_mask (c.args.byte / 2 ^ i) 1))
    ∙ ap (sum_below (λ j. bit_at c.args.byte j * slice_index c.args.columns.now j)) (sym (add-one i))

pub returns : goal.returns
unfolding linear_image
returns c =
    let all : c.loop-i.i ≡ length c.args.columns.now = omega arith in
    c.loop-i.invariant ∙ ap (sum_below (λ j. bit_at c.args.byte j * slice_index c.args.columns.now j)) all
