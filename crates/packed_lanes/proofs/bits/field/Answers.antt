use Rattle.std.proofs.Common.{◌∙◌, ◌/◌, ◌^◌, ap₂}
use Rattle.std.specs.Prelude.{bit_and}
use Rattle.std.proofs.lemmas.Nat.{and_mask}
use Rattle.packed_lanes.proofs.bits.field.Goals as goal

pub returns : goal.returns
returns g c =
    let word = g.met.W.Word in
    word.and_law c.shr.result c.low_ones.result c.bitand.result c.bitand.ensures
    ∙ ap₂ bit_and (word.shr_law c.args.word c.args.start c.shr.result c.shr.ensures) c.low_ones.ensures
    ∙ and_mask (g.W.Word.number c.args.word / 2 ^ c.args.start) c.args.count
