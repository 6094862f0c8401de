use Rattle.std.proofs.Common.{◌≡◌, ℕ, ◌++◌, ◌-◌, ◌≤◌, List, length, drop, sym, ◌∙◌, ap, arith}
use Rattle.std.proofs.lemmas.List.{drop_all}
use Rattle.field_base.specs.Powers.{value_of}
use Rattle.field_slices.proofs.HornerLanes.{block_joined}
use Rattle.field_slices.proofs.horner.add_blocks.Goals as goal

pub loop-start-init : goal.loop-start-init
loop-start-init g c =
    let number = g.S.Scalars.number c.args.field in
    let times = g.S.Scalars.product c.args.field in
    let blocks = c.args.blocks.now in (
      c.requires.whole,
      omega arith,
      λ x high_is. ap (λ (xs : List _). value_of 1 times number (xs ++ c.args.sums.now) x)
          (sym (drop_all (length blocks) blocks (omega arith))),
    )

pub loop-start-preserved : goal.loop-start-preserved
loop-start-preserved g c =
    let number = g.S.Scalars.number c.args.field in
    let times = g.S.Scalars.product c.args.field in
    let start = c.loop-start.start in
    let whole = c.loop-start.invariant.0 in
    let within : start ≤ length c.args.blocks.now = c.loop-start.invariant.1 in
    let some = c.loop-start-test.true in
    let below : 128 ≤ start = omega (arith, whole, some) in
    let long : length c.loop-start.sums ≡ 128 = c.loop-start.auto.sums ∙ c.requires.size in (
      omega (arith, whole, below),
      omega (arith, within),
      λ x high_is. c.fold.ensures.value x 128 (drop start c.args.blocks.now ++ c.args.sums.now) long high_is
          (c.loop-start.invariant.2 x high_is)
          ∙ ap (λ (xs : List _). value_of 1 times number xs x)
          (block_joined 128 start (start - (start - 128)) c.args.blocks.now c.args.sums.now (omega (arith, below)) below),
    )

pub returns-clause-value : goal.returns-clause-value
returns-clause-value g c x high_is =
    let number = g.S.Scalars.number c.args.field in
    let times = g.S.Scalars.product c.args.field in
    let past = c.loop-start-test.false in
    let none : c.loop-start.start ≡ 0 = omega (arith, past) in
    c.loop-start.invariant.2 x high_is
    ∙ ap (λ (n : ℕ). value_of 1 times number (drop n c.args.blocks.now ++ c.args.sums.now) x) none
