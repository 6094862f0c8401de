use Rattle.std.proofs.Common.{[], ◌∷◌, ◌++◌, List, ℕ, ◌∙◌, ap, ap₂, arith}
use Rattle.tags.specs.Blocks.{blocks_of}
use Rattle.tags.proofs.Padding.{pieces}
use Rattle.tags.proofs.universal.hash_of_long_parts.Goals as goal

pub returns : goal.returns
returns g c =
    let key = c.args.key.now in
    let a = c.args.associated.now in
    let t = c.args.text.now in
    let filled = c.update_padded-2.ensures key _ (c.update_padded.ensures key [] c.new-hash.ensures) in
    c.finalize.ensures key _ (c.update-2.ensures key _ (c.update.ensures key _ filled))
    ∙ ap (g.E.Encoding.hash key) (pieces a t c.bytes_of.result c.bytes_of-2.result (omega arith) (omega arith))
    ∙ ap₂ (λ (x y : List ℕ). g.E.Encoding.hash key (blocks_of a ++ blocks_of t ++ (x ++ y) ∷ [])) c.bytes_of.ensures c.bytes_of-2.ensures
