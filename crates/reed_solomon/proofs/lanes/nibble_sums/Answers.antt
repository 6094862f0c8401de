use Rattle.std.proofs.Common.{List, ℕ, length, get_or, ◌∙◌, ap}
use Rattle.std.proofs.lemmas.List.{length-map}
use Rattle.reed_solomon.proofs.NibbleTables.{sum_at}
use Rattle.reed_solomon.proofs.lanes.nibble_sums.Goals as goal

pub returns-clause-sums : goal.returns-clause-sums
returns-clause-sums c lane below =
    ap (λ (l : List ℕ). get_or l lane 0) c.entry_sums.ensures
    ∙ sum_at c.args.entries.now c.args.start c.args.bytes c.fits-bytes.0 c.fits-bytes.1 lane below

pub returns-clause-long : goal.returns-clause-long
returns-clause-long c = ap length c.entry_sums.ensures ∙ length-map c.args.bytes _ ∙ c.fits-bytes.0
