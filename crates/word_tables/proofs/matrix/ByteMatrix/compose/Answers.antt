use Rattle.std.proofs.Common.{ℕ, ◌^◌, ◌<◌, subst, sym}
use Rattle.word_tables.proofs.ImageLemmas.{one_after_other}
use Rattle.word_tables.proofs.matrix.ByteMatrix.compose.Goals as goal

pub returns-clause-both : goal.returns-clause-both
returns-clause-both c x fits =
    one_after_other c.args.self.images c.args.first.images c.apply_slice.new.bytes c.apply_slice.ensures x
    (subst (λ (n : ℕ). x < 2 ^ n) (sym c.args.first.eight) fits)
