use Rattle.std.proofs.Common.{[], ◌∷◌, ◌++◌, List, ℕ, ◌∙◌, ap, ap₂}
use Rattle.std.specs.Prelude.{bit_xor, map}
use Rattle.tags.specs.Blocks.{blocks_of}
use Rattle.tags.specs.Hash.{polynomial_hash}
use Rattle.tags.specs.Reversed.{ghash_times}
use Rattle.tags.proofs.Folding.{hash_of_three}
use Rattle.tags.proofs.short.hash_of_parts.Goals as goal

pub returns : goal.returns
returns g c =
    let element = g.E.Encoding.element in
    let key = c.args.key.now in
    let multiplier = c.multiplier_of-multiplier.result in
    let lengths = c.joined-lengths.result in
    let with_lengths = λ (l : List ℕ). blocks_of c.args.associated.now ++ blocks_of c.args.text.now ++ l ∷ [] in
    let both = c.with_message-both.result in
    c.write.ensures key (with_lengths lengths)
    (hash_of_three element multiplier c.with_message-first.result both c.multiply_mod_128.result (blocks_of c.args.associated.now)
    (blocks_of c.args.text.now) lengths c.with_message-first.ensures c.with_message-both.ensures
    (c.multiply_mod_128.ensures ∙ ap (λ (x : ℕ). ghash_times (bit_xor both x) multiplier) c.read.ensures)
    ∙ ap (λ (k : ℕ). polynomial_hash ghash_times k (map element (with_lengths lengths))) c.multiplier_of-multiplier.ensures)
    ∙ ap (λ (l : List ℕ). g.E.Encoding.hash key (with_lengths l))
    (c.joined-lengths.ensures ∙ ap₂ (λ (x y : List ℕ). x ++ y) c.bytes_of.ensures c.bytes_of-2.ensures)
