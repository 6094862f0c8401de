use Rattle.std.proofs.Common.{◌≡◌, ℕ, ◌-◌, ◌*◌, ◌/◌, ◌%◌, List, length, take, drop, ◌∙◌, ap, ap₂, arith, length-drop}
use Rattle.std.proofs.lemmas.List.{length-take-le}
use Rattle.tags.proofs.AbsorbingBlocks.{blocks_alone}
use Rattle.tags.proofs.Folding.{hash_from}
use Rattle.tags.proofs.Turns.{hash_from_more}
use Rattle.tags.proofs.blocks.with_blocks.Goals as goal

pub returns : goal.returns
returns g c = λ key are.
    let element = g.E.Encoding.element in
    let blocks = c.args.blocks.now in
    let size = length blocks in
    let sum = c.args.sum in
    let m : ℕ = (size - size % 512) / 16 in
    let n : ℕ = size % 512 / 16 in
    let all : size - size % 512 ≡ m * 16 = omega (arith, c.requires) in
    let turns : c.split_at.result.0.now ≡ take (m * 16) blocks = c.split_at.ensures.front ∙ ap (λ (k : ℕ). take k blocks) all in
    let rest : c.split_at.result.1.now ≡ drop (m * 16) blocks = c.split_at.ensures.back ∙ ap (λ (k : ℕ). drop k blocks) all in
    let first : c.with_turns-hash.result ≡ hash_from element key sum blocks m =
    c.with_turns-hash.ensures key are
    ∙ ap₂ (λ (b : List ℕ) (k : ℕ). hash_from element key sum b k) turns
    (let long = ap length turns in let whole = length-take-le (m * 16) blocks (omega (arith, c.requires)) in omega (arith, long, whole))
    ∙ blocks_alone element key sum blocks 0 m (omega (arith, c.requires)) in
    c.with_few_blocks-2.ensures key are
    ∙ ap₂ (λ (h : ℕ) (b : List ℕ). hash_from element key h b (length c.split_at.result.1.now / 16)) first rest
    ∙ ap (λ (k : ℕ). hash_from element key (hash_from element key sum blocks m) (drop (m * 16) blocks) k)
    (let long = ap length rest in let left = length-drop (m * 16) blocks in omega (arith, long, left, c.requires))
    ∙ hash_from_more element key sum blocks m n (omega (arith, c.requires))
    ∙ ap (λ (k : ℕ). hash_from element key sum blocks k) (omega (arith, c.requires))
