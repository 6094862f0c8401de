use Rattle.std.proofs.lemmas.Simd.{length-replicate}
use Rattle.reed_solomon.proofs.RowWriting.{zeros_are, zeros_long}
use Rattle.reed_solomon.proofs.blocks.zero_block.Goals as goal

pub returns-clause-count : goal.returns-clause-count
returns-clause-count g c = length-replicate g.row.N _

pub returns-clause-long : goal.returns-clause-long
returns-clause-long g c = zeros_long g.row.N

pub returns-clause-zero : goal.returns-clause-zero
returns-clause-zero g c = zeros_are g.row.N
