use Rattle.std.proofs.Common.{◌≡◌, ℕ, ◌*◌, ◌/◌, length, arith, sym, ap, ◌∙◌}
use Rattle.tags.proofs.Folding.{hash_from, hash_from_none, hash_from_slice, hash_from_four_slice, take_exact}
use Rattle.tags.proofs.blocks.with_few_blocks.Goals as goal

pub fours-init : goal.fours-init
fours-init g c = λ key are. sym (hash_from_none g.E.Encoding.element key c.args.sum c.args.blocks.now)

pub fours-preserved : goal.fours-preserved
fours-preserved g c = λ key are.
    hash_from_four_slice g.E.Encoding.element key c.args.sum c.args.blocks.now c.fours.i c.fours.hash _ _ (c.fours.invariant key are)
    (omega arith) (take_exact 64 c.args.blocks.now (64 * c.fours.i)) (c.with_four_blocks-hash.ensures key are)

pub rest-init : goal.rest-init
rest-init g c = λ key are.
    let done : 4 * c.fours.i ≡ 4 * (length c.args.blocks.now / 16 / 4) = omega arith in
    c.fours.invariant key are ∙ ap (λ (n : ℕ). hash_from g.E.Encoding.element key c.args.sum c.args.blocks.now n) done

pub rest-preserved : goal.rest-preserved
rest-preserved g c = λ key are.
    hash_from_slice g.E.Encoding.element key c.args.sum c.args.blocks.now c.rest.i c.rest.hash _ _ (c.rest.invariant key are)
    (omega arith) (take_exact 16 c.args.blocks.now (16 * c.rest.i)) (c.with_block-hash.ensures key are)

pub returns : goal.returns
returns g c = λ key are.
    let all : c.rest.i ≡ length c.args.blocks.now / 16 = omega arith in
    c.rest.invariant key are ∙ ap (λ (n : ℕ). hash_from g.E.Encoding.element key c.args.sum c.args.blocks.now n) all
