use Rattle.std.proofs.Common.{get_or, ◌∙◌, ap, arith}
use Rattle.std.specs.Prelude.{bit_xor}
use Rattle.reed_solomon.proofs.NibbleTables.{nibble_product}
use Rattle.reed_solomon.proofs.codec.ReedSolomon.add_multiple.Goals as goal

pub returns-clause-added : goal.returns-clause-added
returns-clause-added c = λ column inside.
    let byte = get_or c.args.shard.now column 0 in
    c.add_row.ensures.added column inside
    ∙ ap (bit_xor (get_or c.args.sums.now column 0))
    (nibble_product _ _ 0 1 0 byte c.set_row.ensures.set (omega arith) (c.bytes_fit.ensures column))
