use Rattle.std.proofs.Common.{◌≡◌, ◌<◌, ◌+◌, ◌*◌, ◌/◌, ℕ, sym, subst}
use Rattle.packed_lanes.proofs.LaneLemmas.{power_some}
use Rattle.packed_lanes.proofs.WideParts.{narrow_count, narrow_index, narrow_inside, place_counted}
use Rattle.packed_lanes.proofs.divisible.word_of_part.Goals as goal

pub overflow_mul-result : goal.overflow_mul-result
overflow_mul-result g c =
    (place_counted _ _ _ _ _ _ c.args.i c.args.k g.met.V.Word.Word.bits_law g.met.V.Underlier.bits_law g.met.U.Divisible.ratio_law
    g.met.U.Underlier.narrow_law c.requires.part c.requires.word c.WORD_COUNT.ensures).0

pub overflow_add-result : goal.overflow_add-result
overflow_add-result g c =
    (place_counted _ _ _ _ _ _ c.args.i c.args.k g.met.V.Word.Word.bits_law g.met.V.Underlier.bits_law g.met.U.Divisible.ratio_law
    g.met.U.Underlier.narrow_law c.requires.part c.requires.word c.WORD_COUNT.ensures).1

pub returns-clause-inside : goal.returns-clause-inside
returns-clause-inside g c =
    let w = g.V.Word.Word.BITS in
    let some = power_some _ _ g.met.V.Word.Word.bits_law in
    subst (λ (z : ℕ). w * (c.args.i * z + c.args.k) < g.U.Underlier.BITS) (sym c.WORD_COUNT.ensures)
    (narrow_inside w g.V.Underlier.WORD_COUNT g.V.Underlier.BITS g.U.Divisible.RATIO g.U.Underlier.BITS c.args.i c.args.k some
    g.met.V.Underlier.bits_law g.met.U.Divisible.ratio_law c.requires.part c.requires.word)

pub returns-clause-counted : goal.returns-clause-counted
returns-clause-counted g c =
    let w = g.V.Word.Word.BITS in
    let wide = g.U.Word.Word.BITS in
    let some = power_some _ _ g.met.V.Word.Word.bits_law in
    let total : wide / w * g.U.Underlier.WORD_COUNT ≡ g.V.Underlier.WORD_COUNT * g.U.Divisible.RATIO =
    narrow_count w wide g.U.Underlier.WORD_COUNT (wide / w) g.U.Divisible.RATIO g.V.Underlier.WORD_COUNT g.U.Underlier.BITS g.V.Underlier.BITS
    some g.met.U.Underlier.bits_law g.met.U.Divisible.divides_law g.met.V.Underlier.bits_law g.met.U.Divisible.ratio_law in
    subst (λ (z : ℕ). c.args.i * z + c.args.k < wide / w * g.U.Underlier.WORD_COUNT) (sym c.WORD_COUNT.ensures)
    (narrow_index g.V.Underlier.WORD_COUNT g.U.Divisible.RATIO (wide / w * g.U.Underlier.WORD_COUNT) c.args.i c.args.k total c.requires.part
    c.requires.word)
