use Rattle.std.proofs.Common.{◌≡◌, ℕ, ◌+◌, ◌-◌, ◌*◌, ◌≤◌, List, length, map, take, drop, fold, refl, sym, ◌∙◌, ap, ap₂, arith}
use Rattle.std.specs.Prelude.{bit_xor, slice_index_or}
use Rattle.std.specs.Simd.Lanes.{zip2}
use Rattle.std.proofs.lemmas.List.{length-map, length-set}
use Rattle.field_base.specs.Powers.{repeated_square}
use Rattle.ghash_slices.specs.LowStages.{ghash_product}
use Rattle.ghash_slices.specs.Multiples.{scalar_of}
use Rattle.ghash_slices.specs.Stages.{add_multiple}
use Rattle.tags.specs.Blocks.{first_blocks}
use Rattle.tags.specs.Reversed.{ghash_times}
use Rattle.tags.proofs.BlocksDiffer.{length-first_blocks}
use Rattle.tags.proofs.Folding.{hash_from, hash_from_none}
use Rattle.tags.proofs.Turns.{begun, horner_step, turn_more, turned}
use Rattle.tags.proofs.interleaved.with_turns.Goals as goal

-- as many elements as blocks
counted : (element : List ℕ → ℕ) (bytes : List ℕ) → length (map element (first_blocks 32 bytes)) ≡ 32
counted element bytes = length-map (first_blocks 32 bytes) element ∙ length-first_blocks 32 bytes

pub loop-turn-init : goal.loop-turn-init
loop-turn-init g c =
    let element = g.E.Encoding.element in
    let blocks = c.args.blocks.now in
    let sums = c.read_blocks-sums.result in
    let long : length sums ≡ 32 = ap length c.read_blocks-sums.ensures ∙ counted element (take 512 blocks) in (
      length-set sums 0 (bit_xor c.args.sum (slice_index_or sums 0 0)) ∙ long,
      λ key are.
          begun key c.args.sum sums (omega (arith, long))
          ∙ ap (fold (horner_step key) c.args.sum) c.read_blocks-sums.ensures
          ∙ ap (λ (h : ℕ). fold (horner_step key) h (map element (first_blocks 32 (take 512 blocks)))) (sym (hash_from_none element key c.args.sum blocks))
          ∙ turn_more element key c.args.sum blocks (take 512 blocks) 0 32 (omega (arith, c.requires.some)) refl,
    )

pub loop-turn-preserved : goal.loop-turn-preserved
loop-turn-preserved g c =
    let element = g.E.Encoding.element in
    let blocks = c.args.blocks.now in
    let turn = c.loop-turn.turn in
    let bytes : List ℕ = take (32 * 16) (drop (32 * turn * 16) blocks) in
    let size : 512 * turn + 512 - 512 * turn ≡ 32 * 16 = omega arith in
    let place : 512 * turn ≡ 32 * turn * 16 = omega arith in
    let read : take (512 * turn + 512 - 512 * turn) (drop (512 * turn) blocks) ≡ bytes =
    ap₂ (λ (k l : ℕ). take k (drop l blocks)) size place in
    let next : 32 * turn + 32 ≡ 32 * (turn + 1) = omega arith in
    let room : (32 * turn + 32) * 16 ≤ length blocks = omega (arith, c.loop-turn-test.true) in (
      c.add_turn.array_long,
      λ key are.
          let scalar : scalar_of c.new-multiples.result ≡ repeated_square 1 ghash_times 5 key =
          c.new-multiples.ensures ∙ c.power_of_turn.ensures ∙ ap (repeated_square 1 ghash_times 5) are.0 in
          ap (fold (horner_step key) 0)
          (c.add_turn.ensures
          ∙ ap₂ (λ (s : ℕ) (b : List ℕ). zip2 (add_multiple ghash_product s) (map element (first_blocks 32 b)) c.loop-turn.sums) scalar read)
          ∙ turned key (hash_from element key c.args.sum blocks (32 * turn)) c.loop-turn.sums (map element (first_blocks 32 bytes)) c.loop-turn.invariant.0
          (counted element bytes) (c.loop-turn.invariant.1 key are)
          ∙ turn_more element key c.args.sum blocks bytes (32 * turn) 32 room refl
          ∙ ap (λ (n : ℕ). hash_from element key c.args.sum blocks n) next,
    )

pub returns : goal.returns
returns g c = λ key are.
    c.hash_of_sums.ensures key are ∙ c.loop-turn.invariant.1 key are
    ∙ ap (λ (n : ℕ). hash_from g.E.Encoding.element key c.args.sum c.args.blocks.now n) (omega (arith, c.requires.whole))
