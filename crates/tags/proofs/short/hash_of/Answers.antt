use Rattle.std.proofs.Common.{ℕ, [], ◌∙◌, ap}
use Rattle.std.specs.Prelude.{map}
use Rattle.tags.specs.Blocks.{blocks_of}
use Rattle.tags.specs.Hash.{polynomial_hash}
use Rattle.tags.specs.Reversed.{ghash_times}
use Rattle.tags.proofs.short.hash_of.Goals as goal

pub returns-then-message-lt-LEAST_BY_POWERS : goal.returns-then-message-lt-LEAST_BY_POWERS
returns-then-message-lt-LEAST_BY_POWERS g c =
    let blocks = blocks_of c.args.message.now in
    c.write.ensures c.args.key.now blocks
    (c.with_message.ensures
    ∙ ap (λ (key : ℕ). polynomial_hash ghash_times key (map g.E.Encoding.element blocks)) c.multiplier_of.ensures)

pub returns : goal.returns
returns g c = c.finalize.ensures c.args.key.now c.args.message.now (c.update.ensures c.args.key.now [] c.new-hash.ensures)
