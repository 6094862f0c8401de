use Rattle.std.proofs.Common.{◌≡◌, ◌+◌, ◌-◌, ◌^◌, ℕ, ap, subst, arith}
use Rattle.reed_solomon.specs.Blocks.{HoldLocator}
use Rattle.reed_solomon.proofs.BlockLocators.{doubled, halves_multiplied, locator_elements}
use Rattle.reed_solomon.proofs.locators.set_all_locator.Goals as goal

pub returns-clause-locator : goal.returns-clause-locator
returns-clause-locator g c =
    let level = g.L.Level.LEVEL in
    let code = c.args.code.now in
    let number = g.R.Stored.number in
    let zero = g.R.Stored.ZERO in
    let present = c.args.present.now in
    let half : ℕ = code.all_levels - 1 in
    let one = c.set_locator.new.values in
    let other = c.set_locator-2.new.values in
    let values = c.multiply_each.new.words in
    let next : half + 1 ≡ code.all_levels = omega arith in
    let all : 2 ^ half + 2 ^ half ≡ 2 ^ code.all_levels = omega (arith, doubled half, ap (λ (k : ℕ). 2 ^ k) next) in
    let place : c.power_of-2.result ≡ 0 + 2 ^ half = omega (arith, c.power_of-2.ensures.power) in
    subst (λ (q : ℕ). HoldLocator number zero level code.data_shards code.levels code.parity_shards present 0 q values) all
    (halves_multiplied level code.data_shards code.levels code.parity_shards present number zero 0 (2 ^ half) one other values
    (locator_elements level code.data_shards code.levels code.parity_shards present number zero 0 (2 ^ half) one c.set_locator.ensures.locator)
    (locator_elements level code.data_shards code.levels code.parity_shards present number zero (0 + 2 ^ half) (2 ^ half) other
    (subst (λ (q : ℕ). HoldLocator number zero level code.data_shards code.levels code.parity_shards present q (2 ^ half) other) place
    c.set_locator-2.ensures.locator))
    c.multiply_each.ensures.long (omega (arith, c.set_locator.ensures.long, c.set_locator-2.ensures.long, c.requires.long, c.requires.others))
    c.multiply_each.ensures.products)
