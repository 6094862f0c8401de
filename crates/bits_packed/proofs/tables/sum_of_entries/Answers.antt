use Rattle.std.proofs.Common.{◌≡◌, ℕ, ◌+◌, ◌*◌, ◌/◌, ◌%◌, ◌^◌, ◌<◌, ◌≤◌, ◌∙◌, List, ap, arith, length, mod-lt, refl, sym}
use Rattle.bits_packed.specs.BitMatrices.{sum_of_digits}
use Rattle.bits_packed.proofs.FourRowTables.{digit_long, digit_more, eight_zeros}
use Rattle.bits_packed.proofs.tables.sum_of_entries.Goals as goal
use Rattle.field_base.proofs.BasisSums.{sum_below-none}

pub loop-group-init : goal.loop-group-init
loop-group-init c = (refl, λ w inside. eight_zeros w inside ∙ sym (sum_below-none _))

pub loop-group-preserved : goal.loop-group-preserved
loop-group-preserved c =
    let group = c.loop-group.group in
    let digit = c.args.word / 2 ^ (4 * group) % 16 in
    let small : digit < 16 = mod-lt (c.args.word / 2 ^ (4 * group)) (omega arith) in
    let room : 128 * group + 8 * digit + 8 ≤ length c.args.tables.now = room_for group digit c.args.tables.now small c.loop-group-test.true c.requires in (
      digit_long c.args.tables.now c.loop-group.sum c.args.word group digit room refl c.loop-group.invariant.0,
      digit_more c.args.tables.now c.loop-group.sum c.args.word group digit room refl c.loop-group.invariant.0 c.loop-group.invariant.1,
    )
  where
    room_for : (g d : ℕ) (tables : List ℕ) → d < 16 → g < 16 → length tables ≡ 2048 → 128 * g + 8 * d + 8 ≤ length tables
    room_for g d tables small few long = omega (arith, small, few, long)

pub returns : goal.returns
returns c = λ w inside.
    let all : c.loop-group.group ≡ 16 = omega arith in
    c.loop-group.invariant.1 w inside ∙ ap (λ (n : ℕ). sum_of_digits c.args.tables.now c.args.word n w) all
