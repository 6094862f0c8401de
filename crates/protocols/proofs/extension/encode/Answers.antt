use Rattle.std.proofs.Common.{◌≡◌, List, ℕ, ◌++◌, length, drop, sym, ◌∙◌, ap, ap₂, subst, rules}
use Rattle.std.proofs.lemmas.List.{take_at}
use Rattle.ghash_slices.specs.LowStages.{ghash_cantor_vector, ghash_product}
use Rattle.additive_transforms.specs.Transform.{HoldPolynomialValues}
use Rattle.protocols.specs.CodeWords.{IsCodeWord}
use Rattle.protocols.proofs.Words.{two_blocks}
use Rattle.protocols.proofs.extension.encode.Goals as goal

pub returns-clause-code_word : goal.returns-clause-code_word
returns-clause-code_word g c =
    let moved = c.in_ok-move_on.ensures.moved in
    let after = c.move_on.new.values in
    let old : c.as_mut_slice.result.now ≡ c.args.message.now = search rules in
    let count = c.in_ok-move_on.ensures.length ∙ ap length old ∙ c.requires.count in
    let written : c.as_slice.result.now ≡ after =
    c.as_slice.ensures.value
    ∙ take_at after (drop (length after) c.in_ok-parity.parity.items) c.in_ok-parity.parity.len
    (c.in_ok-move_on.ensures.length ∙ c.as_mut_slice.ensures.len) in
    let whole : c.args.message.now ++ after ≡ c.extend_from_slice.new.self.items =
    sym (c.in_ok-extend_from_slice.ensures.items ∙ ap₂ (λ (a b : List ℕ). a ++ b) c.in_ok-word.ensures.items written) in
    subst (IsCodeWord c.args.levels) whole
    (two_blocks 128 ghash_product ghash_cantor_vector c.args.levels moved.0 moved.2 c.args.message.now after c.requires.count count
    (subst (HoldPolynomialValues 0 moved.0) old moved.1.have) moved.3)
