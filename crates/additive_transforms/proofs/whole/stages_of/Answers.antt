use Rattle.std.proofs.Common.{◌≡◌, ◌⊎◌, inl, inr, ℕ, ◌*◌, ◌%◌, ◌^◌, ◌<◌, ◌≤◌, ◌≢◌, sym, ◌∙◌, ap, arith, lit<, lit≤}
use Rattle.std.proofs.Math.Nat.{pow-le-pow_right}
use Rattle.std.proofs.lemmas.Bool.{cases_lt}
use Rattle.additive_transforms.specs.Transform.{HasStages}
use Rattle.additive_transforms.proofs.Counts.{one_exponent}
use Rattle.additive_transforms.proofs.whole.stages_of.Goals as goal

-- 2 ^ m fits 64 bits
own : (m : ℕ) → m < 40 → 1 * 2 ^ m % 18446744073709551616 ≡ 2 ^ m
own m below =
    let two : 0 < 2 = lit< tt in
    let last : m ≤ 39 = omega arith in
    let bound : 2 ^ m ≤ 2 ^ 39 = pow-le-pow_right two last in
    omega (arith, bound)

-- what is none of the lower powers is the last
last : (count stages : ℕ) → (m : ℕ) × HasStages m count → ((m : ℕ) → m < stages → count ≢ 2 ^ m) → 40 ≤ stages → count ≡ 2 ^ 40
last count stages (m, has) none all = pick (cases_lt m 40)
  where
    pick : (m < 40) ⊎ (40 ≤ m) → count ≡ 2 ^ 40
    pick (inl below) = absurd (none m (omega arith) has.1)
    pick (inr past) = let same : m ≡ 40 = omega (arith, has.0) in has.1 ∙ ap (λ (n : ℕ). 2 ^ n) same

-- 2 ^ 4 is 16
at_least : (m count : ℕ) → count ≡ 2 ^ m → 4 ≤ m → 16 ≤ count
at_least m count is enough =
    let two : 0 < 2 = lit< tt in
    let more : 2 ^ 4 ≤ 2 ^ m = pow-le-pow_right two enough in
    omega (arith, is, more)

pub returns-then-count-stages-clause-large : goal.returns-then-count-stages-clause-large
returns-then-count-stages-clause-large c enough =
    at_least c.loop-stages.stages c.args.count (c.if-count-stages.true ∙ own c.loop-stages.stages (omega arith)) enough

pub returns-clause-large : goal.returns-clause-large
returns-clause-large c enough =
    at_least 40 c.args.count (last c.args.count c.loop-stages.stages c.requires c.loop-stages.invariant (omega arith)) enough

pub returns-then-count-stages-clause-only : goal.returns-then-count-stages-clause-only
returns-then-count-stages-clause-only c m is =
    one_exponent m c.loop-stages.stages (sym is ∙ c.if-count-stages.true ∙ own c.loop-stages.stages (omega arith))

pub returns-clause-only : goal.returns-clause-only
returns-clause-only c m is = one_exponent m 40 (sym is ∙ last c.args.count c.loop-stages.stages c.requires c.loop-stages.invariant (omega arith))

pub returns-clause-stages : goal.returns-clause-stages
returns-clause-stages c = (lit≤ tt, last c.args.count c.loop-stages.stages c.requires c.loop-stages.invariant (omega arith))
