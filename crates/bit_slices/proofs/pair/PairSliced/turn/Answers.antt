use Rattle.std.proofs.Common.{ℕ, subst}
use Rattle.bit_slices.specs.Layout.{AreLanesExchanged}
use Rattle.bit_slices.proofs.Turns.{turned_pairs}
use Rattle.bit_slices.proofs.pair.PairSliced.turn.Goals as goal

pub returns : goal.returns
returns g c =
    let lane = g.T.Sliced.lane in
    let fits = g.T.Sliced.fits_law in
    let low = c.args.self.now.low in
    let high = c.args.self.now.high in
    turned_pairs g.T.Sliced.LEVEL (lane low) (lane high) (lane c.exchange.new.x) (lane c.exchange.new.y) (lane c.turn.new.self)
    (lane c.turn-2.new.self)
    (subst (λ (j : ℕ). AreLanesExchanged j (lane low) (lane high) (lane c.exchange.new.x) (lane c.exchange.new.y)) c.level.ensures
    c.exchange.ensures)
    c.turn.ensures c.turn-2.ensures (fits low) (fits c.turn.new.self)
