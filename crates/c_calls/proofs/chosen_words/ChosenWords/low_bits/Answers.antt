use Rattle.std.proofs.Common.{ℕ, ◌%◌, ◌^◌, ◌∙◌, ap₂}
use lib.Bits.{xor_zero_r}
use Rattle.c_calls.proofs.chosen_words.ChosenWords.low_bits.Goals as goal

pub returns : goal.returns
returns c =
    c.add.ensures ∙ ap₂ (λ (x n : ℕ). x % 2 ^ n) (xor_zero_r c.stored.result ∙ c.stored.ensures) c.args.self.degree
