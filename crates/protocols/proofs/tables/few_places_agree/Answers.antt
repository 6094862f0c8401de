use Rattle.protocols.proofs.TableLaws.{few_places_agree}
use Rattle.protocols.proofs.tables.few_places_agree.Goals as goal

pub returns : goal.returns
returns c = few_places_agree
