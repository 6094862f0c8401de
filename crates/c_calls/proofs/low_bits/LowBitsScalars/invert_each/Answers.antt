use Rattle.std.proofs.Common.{ℕ, List, map, ◌∙◌, ap, subst}
use Rattle.field_base.specs.Field.{AreInverses}
use Rattle.c_calls.specs.Low.{low_number}
use Rattle.c_calls.proofs.LowNumbers.{low_inverses, now_elements, now_low}
use Rattle.c_calls.proofs.low_bits.LowBitsScalars.invert_each.Goals as goal

pub invert_each-requires : goal.invert_each-requires
invert_each-requires g c =
    let field = g.S.ScalarWords.field c.args.self.field in
    now_elements field c.copy_from_slice.new.self c.truncate_all.new.words c.truncate_all.ensures.long c.truncate_all.ensures.low

pub returns : goal.returns
returns g c =
    let field = g.S.ScalarWords.field c.args.self.field in
    let low = low_number field.number field.width in
    let copied = c.copy_from_slice.new.self in
    let mid = c.truncate_all.new.words in
    let fits = now_elements field copied mid c.truncate_all.ensures.long c.truncate_all.ensures.low in
    let same = now_low field copied mid c.truncate_all.ensures.long c.truncate_all.ensures.low in
    let call = c.invert_each in
    subst (λ (ns : List ℕ). AreInverses field.times ns (map low call.new.words))
    (same ∙ ap (λ (xs : List _). map low xs) c.copy_from_slice.ensures.after)
    (low_inverses field (g.met.S.ScalarWords.field_law c.args.self.field).ring mid call.new.words call.ensures.long fits call.ensures.inverses)
