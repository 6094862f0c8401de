use Rattle.prove_sums.proofs.Soundness.{sums_need_luck}
use Rattle.prove_sums.proofs.laws.sums_need_luck.Goals as goal

pub returns : goal.returns
returns c = sums_need_luck c.false_claims_need_luck.ensures c.opened_tables_need_luck.ensures
