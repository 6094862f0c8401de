use Rattle.std.proofs.Common.{◌∙◌, ap, arith, List, ℕ}
use Rattle.std.specs.Prelude.{slice_index}
use Rattle.word_carryless.proofs.KaratsubaLemmas.{carryless_32}
use Rattle.word_carryless.proofs.product.multiply_32_twice.Goals as goal

pub returns-clause-first : goal.returns-clause-first
returns-clause-first c =
    ap (λ (xs : List ℕ). slice_index xs 0) c.multiply_low_words.ensures ∙ carryless_32 c.args.a c.args.p (omega arith) (omega arith)

pub returns-clause-second : goal.returns-clause-second
returns-clause-second c =
    ap (λ (xs : List ℕ). slice_index xs 1) c.multiply_low_words.ensures ∙ carryless_32 c.args.b c.args.q (omega arith) (omega arith)
