use Rattle.word_tables.proofs.Orders.{generators_have_full_order}
use Rattle.word_tables.proofs.generators.generators_have_full_order.Goals as goal

pub returns : goal.returns
returns c = generators_have_full_order
