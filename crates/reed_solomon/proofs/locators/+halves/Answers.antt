use Rattle.std.proofs.Common.{◌≡◌, ◌+◌, ◌-◌, ◌^◌, ℕ, length, sym, ◌∙◌, ap, subst, arith}
use Rattle.std.proofs.lemmas.Nat.{pow_pos}
use Rattle.additive_transforms.specs.Words.{level_element}
use Rattle.reed_solomon.specs.Blocks.{HoldLocator}
use Rattle.reed_solomon.proofs.BlockLocators.{doubled, doubled_again, halves_multiplied, locator_extended}
use Rattle.reed_solomon.proofs.locators.+halves.Goals as goal

pub set_extended-split_at_mut-known-requires : goal.set_extended-split_at_mut-known-requires
set_extended-split_at_mut-known-requires g t c = omega (arith, c.power_of.ensures.power, c.requires.size, doubled_again c.args.levels)

pub set_extended-set_locator-requires : goal.set_extended-set_locator-requires
set_extended-set_locator-requires g t c κs within =
    let front = c.split_at_mut-known.ensures.front_len in
    let back = c.split_at_mut-known.ensures.back_len in
    let split = c.power_of.ensures.power in
    let size = c.requires.size in
    let all = doubled_again c.args.levels in (
      omega (arith, c.decreases),
      (
        within.0,
        (
          within.1,
          (
            c.requires.flags,
            (
              c.requires.points,
              (
                front ∙ split,
                (
                  omega (arith, c.requires.few),
                  (
                    omega (arith, c.requires.low),
                    (
                      c.requires.inside,
                      (
                        (λ few. omega (arith, front, split, c.requires.table few)),
                        (λ many. omega (arith, front, back, split, size, all)),
                      ),
                    ),
                  ),
                ),
              ),
            ),
          ),
        ),
      ),
    )

pub set_extended-extend-requires-clause-same : goal.set_extended-extend-requires-clause-same
set_extended-extend-requires-clause-same g t c =
    let whole = c.split_at_mut-known.ensures.back_len in
    let front = c.power_of.ensures.power in
    omega (arith, c.set_locator.ensures.space_long, whole, front, c.requires.size, doubled_again c.args.levels)

pub set_extended-returns-clause-locator : goal.set_extended-returns-clause-locator
set_extended-returns-clause-locator g t c =
    let level = g.L.Level.LEVEL in
    let code = c.args.code.now in
    let levels = c.args.levels in
    let known = c.set_locator.new.values in
    let others = c.extend.new.others in
    let long : length known ≡ 2 ^ (levels + 1) = c.set_locator.ensures.long ∙ c.split_at_mut-known.ensures.front_len ∙ c.power_of.ensures.power in
    let whole = c.split_at_mut-known.ensures.back_len in
    let same : length others ≡ 2 ^ (levels + 1) =
    omega (arith, c.extend.ensures.long, c.set_locator.ensures.space_long, whole, c.power_of.ensures.power, c.requires.size, doubled_again levels) in
    locator_extended level code.data_shards code.levels code.parity_shards c.args.present.now g.R.Stored.number g.R.Stored.ZERO g.L.Level.few
    (levels + 1) c.args.first (2 ^ levels) (omega (arith, doubled levels, pow_pos levels)) (omega (arith, c.requires.few)) known others long same
    c.set_locator.ensures.locator c.extend.ensures.values

pub set_locator-returns-clause-locator : goal.set_locator-returns-clause-locator
set_locator-returns-clause-locator g t c =
    let level = g.L.Level.LEVEL in
    let code = c.args.code.now in
    let number = g.R.Stored.number in
    let zero = g.R.Stored.ZERO in
    let half : ℕ = c.args.levels - 1 in
    let one = c.set_extended.new.values in
    let other = c.set_extended-2.new.values in
    let values = c.multiply_each.new.words in
    let next : half + 1 ≡ c.args.levels = omega arith in
    let all : 2 ^ half + 2 ^ half ≡ 2 ^ c.args.levels = omega (arith, doubled half, ap (λ (k : ℕ). 2 ^ k) next) in
    let second : (s : ℕ) → s ≡ 2 ^ half → HoldLocator (level_element number level) zero level code.data_shards code.levels code.parity_shards
    c.args.present.now (c.args.first + s) (2 ^ half) other
    → HoldLocator (level_element number level) zero level code.data_shards code.levels code.parity_shards c.args.present.now
    (c.args.first + 2 ^ half) (2 ^ half) other =
    λ s is held. subst (λ (q : ℕ). HoldLocator (level_element number level) zero level code.data_shards code.levels code.parity_shards
    c.args.present.now (c.args.first + q) (2 ^ half) other) is held in
    subst (λ (q : ℕ). HoldLocator number zero level code.data_shards code.levels code.parity_shards c.args.present.now c.args.first q values) all
    (halves_multiplied level code.data_shards code.levels code.parity_shards c.args.present.now number zero c.args.first (2 ^ half) one other values
    c.set_extended.ensures.locator (second c.power_of-2.result c.power_of-2.ensures.power c.set_extended-2.ensures.locator) c.multiply_each.ensures.long
    (c.set_extended.ensures.long ∙ sym (c.set_extended-2.ensures.long ∙ c.split_at_mut-others.ensures.front_len)) c.multiply_each.ensures.products)
