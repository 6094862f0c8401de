use Rattle.std.proofs.Common.{◌≡◌, ◌+◌, ◌-◌, ◌*◌, ◌^◌, ◌<◌, ◌≤◌, ℕ, List, [], ◌∷◌, ◌++◌, take, drop, refl, sym, ◌∙◌, ap, append_assoc, arith, rules}
use Rattle.std.proofs.lemmas.List.{append-nil, get_or_read}
use Rattle.transcripts.specs.Commitments.{digest_at}
use Rattle.transcripts.specs.Openings.{AreLeavesOf}
use Rattle.transcripts.proofs.OpenedLeaves.{half-power, opens-as, opens-none, rest-is}
use Rattle.transcripts.proofs.OpeningTrees.{leaves-as, leaves-left, leaves-right, left-at, node-inside, right-at, tree-halves, tree-leaf}
use Rattle.transcripts.proofs.openings.+push_nodes.Goals as goal

pub returns-then-is_empty : goal.returns-then-is_empty
returns-then-is_empty g t c =
    let tree = c.args.tree.now in
    let inside = node-inside c.args.node c.args.levels tree.depth c.args.first c.requires.at c.requires.room in
    let read : c.index.result.now ≡ digest_at tree c.args.node =
    get_or_read tree.nodes.items c.args.node _ (omega (arith, inside, tree.nodes.ok.0, tree.all)) c.index.ensures [] in (
      digest_at tree c.args.node ∷ [],
      c.in_ok-push.ensures.items ∙ ap (λ (d : List ℕ). c.args.nodes.now.items ++ d ∷ []) read,
      λ hash row holds. opens-none hash c.args.levels c.args.first c.args.leaves.now _ (digest_at tree c.args.node) (search arith) refl,
    )

pub returns-then-levels-eq0 : goal.returns-then-levels-eq0
returns-then-levels-eq0 g t c = (
  [],
  sym (append-nil c.args.nodes.now.items),
  λ hash row holds.
      tree-leaf c.args.tree.now hash c.args.levels c.args.node c.args.first c.args.leaves.now c.if-levels-eq0.true c.requires.leaves (search arith)
      c.requires.at,
)

pub push_nodes-requires : goal.push_nodes-requires
push_nodes-requires g t c =
    let tree = c.args.tree.now in
    let some : 0 < c.args.levels = omega arith in
    let halves = half-power c.args.levels some in
    let power = c.power_of_two-half.ensures.power in
    let at = left-at c.args.node c.args.levels tree.depth c.args.first some c.requires.at in
    let room : c.args.first + 2 ^ (c.args.levels - 1) ≤ 2 ^ tree.depth = let whole = c.requires.room in omega (arith, halves, whole) in
    let leaves : AreLeavesOf tree c.args.first (c.args.first + 2 ^ (c.args.levels - 1)) (take c.count_below-count.result c.args.leaves.now) =
    leaves-left tree c.args.first (c.args.first + 2 ^ (c.args.levels - 1)) (c.args.first + 2 ^ c.args.levels) c.count_below-count.result
    c.args.leaves.now c.requires.leaves c.count_below-count.ensures.within
    (λ k inside. let below = c.count_below-count.ensures.below k inside in omega (arith, below, power))
    (λ more. let stop = c.count_below-count.ensures.stop more in omega (arith, stop, power)) in
    search rules

pub push_nodes-requires-2 : goal.push_nodes-requires-2
push_nodes-requires-2 g t c =
    let tree = c.args.tree.now in
    let half = c.power_of_two-half.result in
    let some : 0 < c.args.levels = omega arith in
    let halves = half-power c.args.levels some in
    let power = c.power_of_two-half.ensures.power in
    let at : (2 * c.args.node + 1) * 2 ^ (c.args.levels - 1) ≡ 2 ^ tree.depth + (c.args.first + half) =
    right-at c.args.node c.args.levels tree.depth c.args.first some c.requires.at
    ∙ ap (λ (n : ℕ). 2 ^ tree.depth + (c.args.first + n)) (sym power) in
    let room : c.args.first + half + 2 ^ (c.args.levels - 1) ≤ 2 ^ tree.depth = let whole = c.requires.room in omega (arith, halves, whole, power) in
    let leaves =
    leaves-as tree (c.args.first + 2 ^ (c.args.levels - 1)) (c.args.first + half) (c.args.first + 2 ^ c.args.levels)
    (c.args.first + half + 2 ^ (c.args.levels - 1)) (drop c.count_below-count.result c.args.leaves.now) _ (omega (arith, power))
    (omega (arith, halves, power)) (sym (rest-is c.count_below-count.result c.args.leaves.now))
    (leaves-right tree c.args.first (c.args.first + 2 ^ (c.args.levels - 1)) (c.args.first + 2 ^ c.args.levels) c.count_below-count.result
    c.args.leaves.now c.requires.leaves c.count_below-count.ensures.within
    (λ k inside. let below = c.count_below-count.ensures.below k inside in omega (arith, below, power))
    (λ more. let stop = c.count_below-count.ensures.stop more in omega (arith, stop, power))) in
    search rules

pub returns : goal.returns
returns g t c =
    let tree = c.args.tree.now in
    let some : 0 < c.args.levels = omega arith in
    let power = c.power_of_two-half.ensures.power in
    let one = c.in_ok-push_nodes.ensures in
    let two = c.in_ok-push_nodes-2.ensures in (
      one.0 ++ two.0,
      two.1 ∙ ap (λ (l : List (List ℕ)). l ++ two.0) one.1 ∙ append_assoc c.args.nodes.now.items one.0 two.0,
      λ hash row holds.
          tree-halves tree hash row c.args.levels c.args.node c.args.first c.count_below-count.result c.args.leaves.now one.0 two.0 holds some
          (search arith) c.requires.at c.requires.room (one.2 hash row holds)
          (opens-as hash (c.args.levels - 1) _ _ _ _ _ two.0 (digest_at tree (2 * c.args.node + 1)) (ap (λ (n : ℕ). c.args.first + n) power)
          (rest-is c.count_below-count.result c.args.leaves.now) refl (two.2 hash row holds)),
    )
