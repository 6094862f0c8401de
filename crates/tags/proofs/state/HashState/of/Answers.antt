use Rattle.std.proofs.Common.{refl, ap, ◌∙◌, arith}
use Rattle.std.specs.Int.{from_le_bytes, w128}
use Rattle.tags.proofs.Absorbing.{Holds_powers}
use Rattle.tags.proofs.BlocksDiffer.{from_le-to_le}
use Rattle.tags.proofs.Storing.{written}
use Rattle.tags.proofs.state.HashState.of.Goals as goal

pub returns : goal.returns
returns c = λ element key m held.
    written element key m c.args.absorber.now _ _ _ held refl
    (c.to_bytes.ensures key (Holds_powers element key c.args.absorber.now m held))
    (ap (from_le_bytes w128) c.to_le_bytes.ensures ∙ from_le-to_le c.args.absorber.now.sum (omega arith)) refl c.padded_block.ensures refl
