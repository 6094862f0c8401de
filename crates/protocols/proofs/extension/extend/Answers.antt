use Rattle.std.proofs.Common.{◌≡◌, ◌<◌, ◌≤◌, ◌+◌, ◌*◌, ◌^◌, ◌%◌, ℕ, ◌++◌, length, map, take, refl, sym, ◌∙◌, ap, subst, arith}
use Rattle.std.proofs.Math.Nat.{mul-le-mul_right}
use Rattle.std.proofs.lemmas.Nat.{pow_pos}
use Rattle.std.proofs.lemmas.List.{length-map, map-append, take-append-le, take_all}
use native.Mathlib.Nat.{one-mul}
use Rattle.protocols.proofs.Words.{AreBlocks, first_block, next_block, same_values, shifted, whole_word}
use Rattle.protocols.proofs.extension.extend.Goals as goal

pub loop-block-init : goal.loop-block-init
loop-block-init g c =
    let ring = g.F.Represented in
    let vector : ℕ → ℕ = λ (i : ℕ). g.F.TowerLevel.basis (g.F.TowerLevel.cantor i) in
    let coefficients = c.in_ok-coefficients.coefficients.items in
    let message : c.in_ok-word.word.items ≡ c.args.message.now = c.in_ok-word.ensures.items in
    let size : length c.in_ok-word.word.items ≡ 2 ^ c.args.levels = ap length message ∙ c.requires.count in (
      take_all (2 ^ c.args.levels) c.in_ok-word.word.items (omega (arith, size)) ∙ message,
      first_block ring.width ring.product vector c.args.levels (map ring.repr coefficients)
          (length-map coefficients ring.repr ∙ c.in_ok-coefficients.ensures.count) (map ring.repr c.in_ok-word.word.items)
          (length-map c.in_ok-word.word.items ring.repr ∙ size)
          (same_values ring.repr ring.width ring.product vector 0 0 coefficients coefficients c.args.message.now c.in_ok-word.word.items refl refl
          (sym message) c.in_ok-coefficients.ensures.values),
    )

pub loop-block-preserved : goal.loop-block-preserved
loop-block-preserved g c =
    let ring = g.F.Represented in
    let vector : ℕ → ℕ = λ (i : ℕ). g.F.TowerLevel.basis (g.F.TowerLevel.cantor i) in
    let coefficients = c.in_ok-coefficients.coefficients.items in
    let so_far = c.loop-block.word.items in
    let block = c.in_ok-values.values.items in
    let joined : c.extend_from_slice.new.self.items ≡ so_far ++ block =
    c.in_ok-extend_from_slice.ensures.items ∙ ap (λ l. so_far ++ l) c.as_slice-in-loop-block.ensures.value in
    let some : 1 ≤ c.loop-block.block = omega (arith, c.loop-block.auto.block) in
    let size = sym (length-map so_far ring.repr) ∙ c.loop-block.invariant.1.0 in
    let one = one-mul (2 ^ c.args.levels) in
    let least = mul-le-mul_right (2 ^ c.args.levels) some in
    let whole : 2 ^ c.args.levels ≤ length so_far = omega (arith, size, one, least) in (
      ap (take (2 ^ c.args.levels)) joined ∙ take-append-le (2 ^ c.args.levels) so_far block whole ∙ c.loop-block.invariant.0,
      subst (AreBlocks ring.width ring.product vector c.args.levels (map ring.repr coefficients) (c.loop-block.block + 1))
          (sym (ap (map ring.repr) joined ∙ map-append ring.repr so_far block))
          (next_block ring.width ring.product vector c.args.levels (map ring.repr coefficients)
          (length-map coefficients ring.repr ∙ c.in_ok-coefficients.ensures.count) c.loop-block.block
          (map ring.repr so_far) (map ring.repr block) (length-map block ring.repr ∙ c.in_ok-values.ensures.count) c.loop-block.invariant.1
          (same_values ring.repr ring.width ring.product vector _ _ c.as_slice.result.now _ block block refl c.as_slice.ensures.value refl
          c.in_ok-values.ensures.values)),
    )

pub returns-clause-code_word : goal.returns-clause-code_word
returns-clause-code_word g c =
    let ring = g.F.Represented in
    let vector : ℕ → ℕ = λ (i : ℕ). g.F.TowerLevel.basis (g.F.TowerLevel.cantor i) in
    let coefficients = c.in_ok-coefficients.coefficients.items in
    let end : (1 * 2 ^ c.args.expansion) % 2 ^ 64 ≡ 2 ^ c.args.expansion = shifted c.args.expansion (omega arith) in
    let some : 0 < 2 ^ c.args.expansion = pow_pos c.args.expansion in
    let all : c.loop-block.block ≡ 2 ^ c.args.expansion =
    omega (arith, c.loop-block-test.false, c.loop-block.auto.block-end, end, some) in
    let word = map ring.repr c.loop-block.word.items in
    whole_word ring.width ring.product vector c.args.levels (map ring.repr coefficients)
    (length-map coefficients ring.repr ∙ c.in_ok-coefficients.ensures.count) c.args.expansion word
    (subst (λ (n : ℕ). AreBlocks ring.width ring.product vector c.args.levels (map ring.repr coefficients) n word) all
    c.loop-block.invariant.1)
