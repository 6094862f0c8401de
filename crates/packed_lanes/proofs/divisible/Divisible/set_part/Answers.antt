use Rattle.std.proofs.Common.{◌≡◌, ◌*◌, ◌/◌, ℕ, ap, subst, arith, rules}
use Rattle.packed_lanes.proofs.LaneLemmas.{power_some}
use Rattle.packed_lanes.proofs.WideParts.{IsWrittenTo, more_written, narrow_count, nothing_written, part_replaced}
use Rattle.packed_lanes.proofs.divisible.Divisible.set_part.Goals as goal

pub loop-k-init : goal.loop-k-init
loop-k-init g c = (
  nothing_written g.V.Word.Word.BITS g.V.Underlier.WORD_COUNT
      (g.Self.Word.Word.BITS / g.V.Word.Word.BITS * g.Self.Underlier.WORD_COUNT) c.args.i _ _ _ (ap g.Self.Underlier.number c.checked.ensures.same),
  search rules,
)

pub loop-k-preserved : goal.loop-k-preserved
loop-k-preserved g c = (
  more_written g.V.Word.Word.BITS g.V.Underlier.WORD_COUNT (g.Self.Word.Word.BITS / g.V.Word.Word.BITS * g.Self.Underlier.WORD_COUNT)
      c.args.i c.loop-k.k (g.V.Underlier.number c.checked-whole.result) (g.Self.Underlier.number c.args.self.now)
      (g.Self.Underlier.number c.loop-k.self) c.word_of_part.result (g.V.Word.Word.number c.word.result)
      (g.Self.Underlier.number c.set_narrow_word.new.row) c.word_of_part.ensures.value c.word_of_part.ensures.counted c.loop-k.invariant.0
      c.word.ensures c.set_narrow_word.ensures.replaced,
  c.set_narrow_word.ensures.whole,
)

pub returns-clause-replaced : goal.returns-clause-replaced
returns-clause-replaced g c =
    let word = g.V.Word.Word in
    let w = word.BITS in
    let wide = g.Self.Word.Word.BITS in
    let before = g.Self.Underlier.number c.args.self.now in
    let now = g.Self.Underlier.number c.loop-k.self in
    let some = power_some _ _ g.met.V.Word.Word.bits_law in
    let total = narrow_count w wide g.Self.Underlier.WORD_COUNT (wide / w) g.Self.Divisible.RATIO g.V.Underlier.WORD_COUNT
    g.Self.Underlier.BITS g.V.Underlier.BITS some g.met.Self.Underlier.bits_law g.met.Self.Divisible.divides_law g.met.V.Underlier.bits_law
    g.met.Self.Divisible.ratio_law in
    let all : c.loop-k.k ≡ g.V.Underlier.WORD_COUNT = omega arith in
    let v : g.V.Underlier.number c.checked-whole.result ≡ g.V.Underlier.number c.args.part = ap g.V.Underlier.number c.checked-whole.ensures.same in
    let fits = g.V.Underlier.range_law c.args.part c.checked-whole.ensures.whole in
    part_replaced w g.V.Underlier.WORD_COUNT g.V.Underlier.BITS (wide / w * g.Self.Underlier.WORD_COUNT) g.Self.Divisible.RATIO c.args.i
    (g.V.Underlier.number c.args.part) before now some g.met.V.Underlier.bits_law total c.requires fits
    (subst (λ (z : ℕ). IsWrittenTo w g.V.Underlier.WORD_COUNT (wide / w * g.Self.Underlier.WORD_COUNT) c.args.i g.V.Underlier.WORD_COUNT z before now) v
    (subst (λ (z : ℕ). IsWrittenTo w g.V.Underlier.WORD_COUNT (wide / w * g.Self.Underlier.WORD_COUNT) c.args.i z (g.V.Underlier.number c.checked-whole.result) before now)
    all c.loop-k.invariant.0))
