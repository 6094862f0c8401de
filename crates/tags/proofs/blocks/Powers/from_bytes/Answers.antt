use Rattle.tags.proofs.PreparedKeys.{powers_read}
use Rattle.tags.proofs.blocks.Powers.from_bytes.Goals as goal

pub returns : goal.returns
returns c = λ key fits same.
    powers_read key c.args.bytes.now _ fits same c.number_of.ensures c.number_of-2.ensures c.number_of-3.ensures c.number_of-4.ensures
