use Rattle.protocols.proofs.CommitmentScheme.{few_tables_cheat}
use Rattle.protocols.proofs.laws.few_tables_cheat.Goals as goal

pub returns : goal.returns
returns c = few_tables_cheat c.few_quarter_rate_cheats.ensures.cheats
