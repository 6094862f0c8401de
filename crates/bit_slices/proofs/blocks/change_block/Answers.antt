use Rattle.std.proofs.Common.{ℕ, ◌+◌, ◌*◌, ◌^◌, get_or}
use Rattle.bit_slices.proofs.BlockLanes.{changed_words, words_of_block}
use Rattle.bit_slices.proofs.blocks.change_block.Goals as goal

pub returns-clause-changed : goal.returns-clause-changed
returns-clause-changed g c n less d =
    let lane = g.T.Sliced.lane in
    let number = g.W.Reads.number in
    let start = c.args.start in
    let each : ℕ = g.T.Sliced.units * g.R.TowerWord.COUNT in
    let whole =
    words_of_block (2 ^ g.R.TowerWord.LEVEL) g.R.TowerWord.BITS g.T.Sliced.units g.R.TowerWord.COUNT g.met.R.TowerWord.whole_law
    g.met.R.TowerWord.bits_law in
    changed_words (2 ^ g.R.TowerWord.LEVEL) each (128 * g.T.Sliced.units) start (g.O.Operation.gives c.args.others.now)
    (lane c.load.new.block) (lane c.change_block.new.block) (λ m. number (get_or c.args.words.now (start + m) d))
    (λ m. number (get_or c.store.new.words (start + m) d)) whole (c.load.ensures d) (c.store.ensures.stored d) c.change_block.ensures n less
