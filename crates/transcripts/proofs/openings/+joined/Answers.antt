use Rattle.std.proofs.Common.{◌+◌, ◌-◌, ◌^◌, ◌<◌, ◌≤◌, ℕ, take, sym, ap, subst, arith, rules}
use Rattle.transcripts.specs.Openings.{Opens}
use Rattle.transcripts.proofs.OpenedLeaves.{anyway, both-halves, first-node, half-power, no-left, no-node, no-right, none-as, not-leaf, opens-as, opens-leaf, opens-none, rest-is}
use Rattle.transcripts.proofs.openings.+joined.Goals as goal

pub returns-then-is_empty-2-clause-none : goal.returns-then-is_empty-2-clause-none
returns-then-is_empty-2-clause-none g t c =
    no-node (g.H.ByteHasher32.digest c.args.hasher.now) c.args.levels c.args.first c.args.leaves.now c.args.nodes.now (search arith) (search arith)

pub returns-else-is_empty-2-clause-opens : goal.returns-else-is_empty-2-clause-opens
returns-else-is_empty-2-clause-opens g t c =
    opens-none (g.H.ByteHasher32.digest c.args.hasher.now) c.args.levels c.args.first c.args.leaves.now (take 1 c.args.nodes.now) _ (search arith)
    (first-node c.args.nodes.now (search arith))

pub returns-in_err-digest-clause-none : goal.returns-in_err-digest-clause-none
returns-in_err-digest-clause-none g t c =
    anyway c.from_residual.result
    (not-leaf (g.H.ByteHasher32.digest c.args.hasher.now) c.args.levels c.args.first c.args.leaves.now c.args.nodes.now c.if-levels-eq0.true
    (search arith) c.in_err-digest.ensures.none)

pub returns-then-levels-eq0-clause-opens : goal.returns-then-levels-eq0-clause-opens
returns-then-levels-eq0-clause-opens g t c =
    let only = c.in_ok-digest.ensures.only in
    opens-leaf (g.H.ByteHasher32.digest c.args.hasher.now) c.args.levels c.args.first c.args.leaves.now c.in_ok-digest.digest
    c.if-levels-eq0.true only.0 only.1 only.2

pub joined-requires : goal.joined-requires
joined-requires g t c =
    let some : 0 < c.args.levels = omega arith in
    let halves = half-power c.args.levels some in
    let room = c.requires.room in
    let below : c.args.first + 2 ^ (c.args.levels - 1) ≤ 2 ^ 40 = omega (arith, halves, room) in
    search rules

pub joined-requires-2 : goal.joined-requires-2
joined-requires-2 g t c =
    let some : 0 < c.args.levels = omega arith in
    let halves = half-power c.args.levels some in
    let power = c.power_of_two-half.ensures.power in
    let room = c.requires.room in
    let below : c.args.first + c.power_of_two-half.result + 2 ^ (c.args.levels - 1) ≤ 2 ^ 40 = omega (arith, halves, room, power) in
    search rules

pub returns-in_err-left-clause-none : goal.returns-in_err-left-clause-none
returns-in_err-left-clause-none g t c =
    let power = c.power_of_two-half.ensures.power in
    anyway c.from_residual-in_err-left.result
    (no-left (g.H.ByteHasher32.digest c.args.hasher.now) (c.args.levels - 1) c.args.levels c.args.first c.count_below-count.result
    c.args.leaves.now c.args.nodes.now (omega arith) (search arith) c.count_below-count.ensures.within
    (λ k inside. let below = c.count_below-count.ensures.below k inside in omega (arith, below, power))
    (λ more. let stop = c.count_below-count.ensures.stop more in omega (arith, stop, power)) c.in_err-left.ensures.none)

pub returns-in_err-right-clause-none : goal.returns-in_err-right-clause-none
returns-in_err-right-clause-none g t c =
    let hash = g.H.ByteHasher32.digest c.args.hasher.now in
    let power = c.power_of_two-half.ensures.power in
    anyway c.from_residual-in_err-right.result
    (no-right hash (c.args.levels - 1) c.args.levels c.args.first c.count_below-count.result
    c.args.leaves.now c.args.nodes.now (omega arith) (search arith) c.count_below-count.ensures.within
    (λ k inside. let below = c.count_below-count.ensures.below k inside in omega (arith, below, power))
    (λ more. let stop = c.count_below-count.ensures.stop more in omega (arith, stop, power)) c.in_ok-left.used c.in_ok-left.left
    c.in_ok-left.ensures.opens
    (none-as hash (c.args.levels - 1) _ _ _ _ _ _ (ap (λ (n : ℕ). c.args.first + n) power) (rest-is c.count_below-count.result c.args.leaves.now)
    (rest-is c.in_ok-left.used c.args.nodes.now) c.in_err-right.ensures.none))

pub returns-clause-opens : goal.returns-clause-opens
returns-clause-opens g t c =
    let hash = g.H.ByteHasher32.digest c.args.hasher.now in
    let power = c.power_of_two-half.ensures.power in
    let used = c.in_ok-left.used in
    let more = c.in_ok-right.more in
    subst (Opens hash c.args.levels c.args.first c.args.leaves.now (take (used + more) c.args.nodes.now)) (sym c.node_digest.ensures)
    (both-halves hash (c.args.levels - 1) c.args.levels c.args.first c.count_below-count.result
    c.args.leaves.now c.args.nodes.now (omega arith) (search arith) c.count_below-count.ensures.within
    (λ k inside. let below = c.count_below-count.ensures.below k inside in omega (arith, below, power))
    (λ more_left. let stop = c.count_below-count.ensures.stop more_left in omega (arith, stop, power)) used more c.in_ok-left.left
    c.in_ok-right.right c.in_ok-left.ensures.opens
    (opens-as hash (c.args.levels - 1) _ _ _ _ _ _ c.in_ok-right.right (ap (λ (n : ℕ). c.args.first + n) power)
    (rest-is c.count_below-count.result c.args.leaves.now)
    (ap (take more) (rest-is used c.args.nodes.now)) c.in_ok-right.ensures.opens))
