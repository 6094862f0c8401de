use Rattle.std.proofs.Common.{◌≡◌, ℕ, ◌+◌, ◌-◌, ◌*◌, List, [], ◌∷◌, ◌++◌, take, drop, refl, sym, ◌∙◌, ap₂, arith}
use Rattle.std.proofs.lemmas.List.{length-set, take_more_set}
use Rattle.tags.specs.Blocks.{first_blocks}
use Rattle.tags.proofs.Turns.{elements_next}
use Rattle.tags.proofs.interleaved.read_blocks.Goals as goal

pub loop-place-init : goal.loop-place-init
unfolding first_blocks
loop-place-init g c = (refl, refl)

pub loop-place-preserved : goal.loop-place-preserved
loop-place-preserved g c =
    let n = c.loop-place.place in
    let blocks = c.args.blocks.now in
    let whole : 16 * n + 16 - 16 * n ≡ 16 = omega arith in
    let at : 16 * n ≡ n * 16 = omega arith in
    let read : c.read_block.result ≡ g.E.Encoding.element (take 16 (drop (n * 16) blocks)) =
    c.read_block.ensures
    ∙ ap₂ (λ (k l : ℕ). g.E.Encoding.element (take k (drop l blocks))) whole at in (
      length-set c.loop-place.elements n c.read_block.result ∙ c.loop-place.invariant.0,
      take_more_set c.loop-place.elements n c.read_block.result (omega (arith, c.loop-place.invariant.0))
          ∙ ap₂ (λ (xs : List ℕ) (x : ℕ). xs ++ x ∷ []) c.loop-place.invariant.1 read
          ∙ sym (elements_next g.E.Encoding.element blocks n (omega (arith, c.requires))),
    )
