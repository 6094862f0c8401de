use Rattle.std.proofs.Common.{refl}
use Rattle.tags.proofs.Storing.{Stores_powers, read_again}
use Rattle.tags.proofs.state.HashState.absorber.Goals as goal

pub returns : goal.returns
returns c = λ element key m fits stored.
    read_again element key m c.args.self.now _ stored (c.from_bytes.ensures key fits (Stores_powers element key m c.args.self.now stored))
    c.from_le_bytes.ensures refl refl
