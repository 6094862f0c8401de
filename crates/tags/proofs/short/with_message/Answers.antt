use Rattle.std.proofs.Common.{◌≡◌, ℕ, List, ◌+◌, ◌-◌, ◌*◌, ◌/◌, ◌++◌, length, take, drop, replicate, arith, sym, ap, ◌∙◌, length-drop}
use Rattle.std.proofs.lemmas.List.{take_all}
use Rattle.std.specs.Prelude.{bit_xor}
use Rattle.tags.specs.Blocks.{block}
use Rattle.tags.specs.Reversed.{ghash_times}
use Rattle.tags.proofs.Folding.{hash_from, hash_from_block, hash_from_none, hash_from_slice, take_exact}
use Rattle.tags.proofs.short.with_message.Goals as goal

pub loop-i-init : goal.loop-i-init
loop-i-init g c = sym (hash_from_none g.E.Encoding.element c.args.multiplier c.args.sum c.args.message.now)

pub loop-i-preserved : goal.loop-i-preserved
loop-i-preserved g c =
    hash_from_slice g.E.Encoding.element c.args.multiplier c.args.sum c.args.message.now c.loop-i.i c.loop-i.hash _ _ c.loop-i.invariant
    (omega arith) (take_exact 16 c.args.message.now (16 * c.loop-i.i))
    (c.multiply_mod_128-hash.ensures
    ∙ ap (λ (x : ℕ). ghash_times (bit_xor c.loop-i.hash x) c.args.multiplier) c.read_block-element.ensures)

pub returns-then-end-message : goal.returns-then-end-message
returns-then-end-message g c =
    let m = c.args.message.now in
    let n : ℕ = length m / 16 in
    let element = g.E.Encoding.element in
    let key = c.args.multiplier in
    let hash = hash_from element key c.args.sum m in
    let more = c.if-end-message.true in
    let all : c.loop-i.i ≡ n = omega arith in
    let start : 16 * n ≡ n * 16 = omega arith in
    let count : n + 1 ≡ (length m + 15) / 16 = omega (arith, more) in
    let tail : take (length m - 16 * n) (drop (16 * n) m) ≡ drop (n * 16) m =
    take_all (length m - 16 * n) (drop (16 * n) m) (omega (arith, length-drop (16 * n) m)) ∙ ap (λ (k : ℕ). drop k m) start in
    let last : c.padded_block.result ≡ block m n =
    c.padded_block.ensures ∙ ap (λ (bytes : List ℕ). take 16 (bytes ++ replicate 16 0)) tail in
    c.multiply_mod_128-hash-then-end-message.ensures
    ∙ ap (λ (x : ℕ). ghash_times (bit_xor c.loop-i.hash x) key) (c.read-element.ensures ∙ ap element last)
    ∙ ap (λ (y : ℕ). ghash_times (bit_xor y (element (block m n))) key) (c.loop-i.invariant ∙ ap (λ (k : ℕ). hash k) all)
    ∙ sym (hash_from_block element key c.args.sum m n) ∙ ap (λ (k : ℕ). hash k) count

pub returns-else-end-message : goal.returns-else-end-message
returns-else-end-message g c =
    let m = c.args.message.now in
    let none = c.if-end-message.false in
    let all : c.loop-i.i ≡ (length m + 15) / 16 = omega (arith, none) in
    c.loop-i.invariant ∙ ap (λ (k : ℕ). hash_from g.E.Encoding.element c.args.multiplier c.args.sum m k) all
