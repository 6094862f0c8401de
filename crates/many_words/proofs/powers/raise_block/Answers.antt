use Rattle.std.proofs.Common.{◌≡◌, ℕ, ◌<◌, ◌^◌, List, get_or, length, sym, ◌∙◌, ap, subst, arith}
use Rattle.std.proofs.lemmas.Nat.{pow_below}
use Rattle.field_base.specs.Powers.{power}
use Rattle.field_base.proofs.PowerLemmas.{power_start}
use Rattle.many_words.proofs.powers.raise_block.Goals as goal

pub returns-clause-powers : goal.returns-clause-powers
returns-clause-powers g c = λ k inside d.
    let number = g.W.Reads.number in
    let width = g.K.FieldKernel.width in
    let times = g.K.FieldKernel.product in
    let one_fits : 1 < 2 ^ width = pow_below 0 width g.K.FieldKernel.wide_law in
    let copied = c.copy_from_slice.ensures.after in
    let made = c.multiply_by_powers.ensures.long in
    let within : k < length c.multiply_by_powers.new.values = subst (λ (l : List _). k < length l) copied inside in
    let ones = c.set_ones.ensures.ones k (omega (arith, within, made)) d in
    ap (λ (l : List _). number (get_or l k d)) copied ∙ c.multiply_by_powers.ensures.products k within d
    ∙ power_start width 1 times g.K.FieldKernel.field_law.ring one_fits (number (get_or c.set_ones.new.words k d))
    (number (get_or c.args.words.now k d)) c.args.exponent ones
