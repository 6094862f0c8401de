use Rattle.std.proofs.Common.{◌∙◌, ap₂, ℕ}
use Rattle.std.specs.Prelude.{bit_xor}
use Rattle.tags.specs.Reversed.{ghash_times}
use Rattle.tags.proofs.blocks.with_block.Goals as goal

pub returns : goal.returns
returns g c = λ key are.
    c.multiply_mod_128.ensures
    ∙ ap₂ (λ (x k : ℕ). ghash_times (bit_xor c.args.sum x) k) c.read_block.ensures are.0
