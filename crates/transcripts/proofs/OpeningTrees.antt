-- The nodes that a tree gives open its leaves.
use Rattle.std.proofs.Common.{◌≡◌, ℕ, zero, suc, ◌+◌, ◌-◌, ◌*◌, ◌^◌, ◌<◌, ◌≤◌, List, [], ◌++◌, length, map, get_or, take, drop, refl, sym, ◌∙◌, ap, subst, arith}
use Rattle.std.specs.Prelude.{slice_index}
use Rattle.std.specs.List.{range_with_len}
use Rattle.std.proofs.Math.Nat.{mul-le-mul_left}
use Rattle.std.proofs.lemmas.List.{get_or-drop, get_or-take, length-drop, length-take-le, take-append-drop}
use Rattle.std.proofs.lemmas.List.FromFn.{fill_by_all, get_or-map-range_with_len, length-map-range_with_len}
use Rattle.std.proofs.lemmas.Nat.{pow_pos}
use Rattle.transcripts.specs.declared.merkle_tree.MerkleTree.{MerkleTree}
use Rattle.transcripts.specs.Commitments.{digest_at, IsTreeOver}
use Rattle.transcripts.specs.MerkleTrees.{row_input}
use Rattle.transcripts.specs.Openings.{AreAscending, AreLeavesOf, leaves_at, Opens}
use Rattle.transcripts.proofs.OpenedLeaves.{half-power, Leaves, opens-halves, opens-leaf}

-- ---- nodes

-- a node above places of the tree is one of its nodes
pub node-inside : (node levels depth first : ℕ) → node * 2 ^ levels ≡ 2 ^ depth + first → first + 2 ^ levels ≤ 2 ^ depth → node < 2 * 2 ^ depth
node-inside node levels depth first at room =
    let some = pow_pos levels in
    let least : node * 1 ≤ node * 2 ^ levels = mul-le-mul_left node some in
    omega (arith, at, room, some, least)

-- a factor of what is not 0 is not 0
positive : (n m : ℕ) → 0 < n * m → 1 ≤ n
positive zero m some = absurd (omega (arith, some))
positive (suc n) m some = omega arith

-- twice a node's places are those of its children
pub twice-at : (node levels : ℕ) → 0 < levels → node * 2 ^ levels ≡ node * 2 ^ (levels - 1) + node * 2 ^ (levels - 1)
twice-at node levels some = ap (λ (k : ℕ). node * k) (half-power levels some) ∙ omega arith

pub left-at : (node levels depth first : ℕ) → 0 < levels → node * 2 ^ levels ≡ 2 ^ depth + first
    → 2 * node * 2 ^ (levels - 1) ≡ 2 ^ depth + first
left-at node levels depth first some at = let twice = twice-at node levels some in omega (arith, twice, at)

pub right-at : (node levels depth first : ℕ) → 0 < levels → node * 2 ^ levels ≡ 2 ^ depth + first
    → (2 * node + 1) * 2 ^ (levels - 1) ≡ 2 ^ depth + (first + 2 ^ (levels - 1))
right-at node levels depth first some at = let twice = twice-at node levels some in omega (arith, twice, at)

-- ---- leaves

module _ {A : Type 0} (tree : MerkleTree A) where
  abbrev place : Leaves → ℕ → ℕ
  place leaves k = (get_or leaves k (0, [])).0

  -- in a tree of one leaf there is one
  pub one-leaf : (levels first : ℕ) (leaves : Leaves) → levels ≡ 0 → AreLeavesOf tree first (first + 2 ^ levels) leaves → 0 < length leaves
      → (length leaves ≡ 1) × (place leaves 0 ≡ first)
  one-leaf levels first leaves none are some =
      let one : 2 ^ levels ≡ 1 = ap (λ (n : ℕ). 2 ^ n) none in
      let low = are.from 0 some in
      let high = are.below 0 some in
      let here : place leaves 0 ≡ first = omega (arith, low, high, one) in
      (pick (length leaves) refl, here)
    where
      pick : (n : ℕ) → n ≡ length leaves → length leaves ≡ 1
      pick zero is = absurd (omega (arith, is, some))
      pick (suc zero) is = sym is
      pick (suc (suc n)) is =
          let more : 1 < length leaves = omega (arith, is) in
          let low = are.from 0 some in
          let grows = are.grow 0 more in
          let high = are.below 1 more in
          let one : 2 ^ levels ≡ 1 = ap (λ (n : ℕ). 2 ^ n) none in
          absurd (omega (arith, low, grows, high, one))

  -- so that it is the root
  pub tree-leaf : (hash : List ℕ → List ℕ) (levels node first : ℕ) (leaves : Leaves) → levels ≡ 0
      → AreLeavesOf tree first (first + 2 ^ levels) leaves → 0 < length leaves → node * 2 ^ levels ≡ 2 ^ tree.depth + first
      → Opens hash levels first leaves [] (digest_at tree node)
  tree-leaf hash levels node first leaves none are some at =
      let only = one-leaf levels first leaves none are some in
      let once : node * 2 ^ levels ≡ node * 1 = ap (λ (n : ℕ). node * 2 ^ n) none in
      let here : 2 ^ tree.depth + place leaves 0 ≡ node = omega (arith, at, once, only.1) in
      opens-leaf hash levels first leaves (digest_at tree node) none only.0 only.1 (are.digests 0 some ∙ ap (digest_at tree) here)

  -- `AreLeavesOf`, with its arguments replaced by equal ones
  pub leaves-as : (low less high more : ℕ) (leaves others : Leaves) → low ≡ less → high ≡ more → leaves ≡ others
      → AreLeavesOf tree low high leaves → AreLeavesOf tree less more others
  leaves-as low less high more leaves others down up same are =
      subst (λ (n : ℕ). AreLeavesOf tree n more others) down
      (subst (λ (n : ℕ). AreLeavesOf tree low n others) up (subst (λ (l : Leaves). AreLeavesOf tree low high l) same are))

  module _ (low middle high count : ℕ) (leaves : Leaves) (are : AreLeavesOf tree low high leaves) (within : count ≤ length leaves)
      (before : (k : ℕ) → k < count → place leaves k < middle) (stop : count < length leaves → middle ≤ place leaves count) where
    -- the first ones are in the left half
    pub leaves-left : AreLeavesOf tree low middle (take count leaves)
    leaves-left =
        record {
          from = λ k inside. subst (λ (l : ℕ × List ℕ). low ≤ l.0) (sym (at k (less k inside))) (are.from k (all k (less k inside)));
          below = λ k inside. subst (λ (l : ℕ × List ℕ). l.0 < middle) (sym (at k (less k inside))) (before k (less k inside));
          grow = λ k inside.
              subst (λ (l : ℕ × List ℕ). l.0 < place (take count leaves) (suc k)) (sym (at k (omega (arith, less (suc k) inside))))
              (subst (λ (l : ℕ × List ℕ). place leaves k < l.0) (sym (at (suc k) (less (suc k) inside)))
              (are.grow k (all (suc k) (less (suc k) inside))));
          digests = λ k inside.
              subst (λ (l : ℕ × List ℕ). l.1 ≡ digest_at tree (2 ^ tree.depth + l.0)) (sym (at k (less k inside)))
              (are.digests k (all k (less k inside)));
        }
      where
        at : (k : ℕ) → k < count → get_or (take count leaves) k (0, []) ≡ get_or leaves k (0, [])
        at k below = get_or-take count leaves k (0, []) below

        less : (k : ℕ) → k < length (take count leaves) → k < count
        less k inside = let long = length-take-le count leaves within in omega (arith, inside, long)

        all : (k : ℕ) → k < count → k < length leaves
        all k below = omega (arith, below, within)

    -- and the others in the right half
    from-middle : (k : ℕ) → count + k < length leaves → middle ≤ place leaves (count + k)
    from-middle zero inside =
        let here : count + 0 ≡ count = omega arith in
        subst (λ (n : ℕ). middle ≤ place leaves n) (sym here) (stop (omega (arith, inside)))
    from-middle (suc k) inside =
        let next : suc (count + k) ≡ count + suc k = omega arith in
        let so_far = from-middle k (omega (arith, inside)) in
        let grows = are.grow (count + k) (omega (arith, inside)) in
        let less : middle ≤ place leaves (suc (count + k)) = omega (arith, so_far, grows) in
        subst (λ (n : ℕ). middle ≤ place leaves n) next less

    pub leaves-right : AreLeavesOf tree middle high (drop count leaves)
    leaves-right =
        record {
          from = λ k inside. subst (λ (l : ℕ × List ℕ). middle ≤ l.0) (sym (at k)) (from-middle k (more k inside));
          below = λ k inside. subst (λ (l : ℕ × List ℕ). l.0 < high) (sym (at k)) (are.below (count + k) (more k inside));
          grow = λ k inside.
              let next : suc (count + k) ≡ count + suc k = omega arith in
              subst (λ (l : ℕ × List ℕ). l.0 < place (drop count leaves) (suc k)) (sym (at k))
              (subst (λ (l : ℕ × List ℕ). place leaves (count + k) < l.0) (sym (at (suc k)))
              (subst (λ (n : ℕ). place leaves (count + k) < place leaves n) next
              (are.grow (count + k) (let there = more (suc k) inside in omega (arith, there)))));
          digests = λ k inside.
              subst (λ (l : ℕ × List ℕ). l.1 ≡ digest_at tree (2 ^ tree.depth + l.0)) (sym (at k)) (are.digests (count + k) (more k inside));
        }
      where
        at : (k : ℕ) → get_or (drop count leaves) k (0, []) ≡ get_or leaves (count + k) (0, [])
        at k = get_or-drop count leaves k (0, [])

        more : (k : ℕ) → k < length (drop count leaves) → count + k < length leaves
        more k inside = let long = length-drop count leaves in omega (arith, inside, long)

  -- ---- one level

  pub tree-halves : (hash : List ℕ → List ℕ) (row : ℕ → List ℕ) (levels node first count : ℕ) (leaves : Leaves) (one other : List (List ℕ))
      → IsTreeOver hash row tree → 0 < levels → 0 < length leaves → node * 2 ^ levels ≡ 2 ^ tree.depth + first
      → first + 2 ^ levels ≤ 2 ^ tree.depth
      → Opens hash (levels - 1) first (take count leaves) one (digest_at tree (2 * node))
      → Opens hash (levels - 1) (first + 2 ^ (levels - 1)) (drop count leaves) other (digest_at tree (2 * node + 1))
      → Opens hash levels first leaves (one ++ other) (digest_at tree node)
  tree-halves hash row levels node first count leaves one other holds some any at room left right =
      subst (Opens hash levels first leaves (one ++ other))
      (sym (holds.node node above below))
      (opens-halves hash (levels - 1) levels first leaves (take count leaves) (drop count leaves) (one ++ other) one other
      (digest_at tree (2 * node)) (digest_at tree (2 * node + 1)) (omega (arith, some)) any (sym (take-append-drop count leaves)) refl left right)
    where
      above : 1 ≤ node
      above = positive node (2 ^ levels) (let all = pow_pos tree.depth in omega (arith, at, all))

      below : node < 2 ^ tree.depth
      below =
          let twice = twice-at node levels some in
          let half = pow_pos (levels - 1) in
          let least : node * 1 ≤ node * 2 ^ (levels - 1) = mul-le-mul_left node half in
          let whole = half-power levels some in
          omega (arith, at, room, twice, least, whole, half)

  -- ---- all leaves

  -- the leaves at places in ascending order
  pub places-leaves : (places : List ℕ) (leaves : Leaves) → AreAscending (2 ^ tree.depth) places
      → leaves ≡ map (λ (k : ℕ). (slice_index places k, digest_at tree (2 ^ tree.depth + slice_index places k))) (range_with_len 0 (length places))
      → AreLeavesOf tree 0 (0 + 2 ^ tree.depth) leaves
  places-leaves places leaves ascend are =
      record {
        from = λ k inside. omega arith;
        below = λ k inside. subst (λ (l : ℕ × List ℕ). l.0 < 0 + 2 ^ tree.depth) (sym (read k inside)) (let low = ascend.below k (less k inside) in omega (arith, low));
        grow = λ k inside.
            subst (λ (l : ℕ × List ℕ). l.0 < place leaves (suc k)) (sym (read k (omega (arith, inside))))
            (subst (λ (l : ℕ × List ℕ). slice_index places k < l.0) (sym (read (suc k) inside)) (ascend.grow k (less (suc k) inside)));
        digests = λ k inside.
            subst (λ (l : ℕ × List ℕ). l.1 ≡ digest_at tree (2 ^ tree.depth + l.0)) (sym (read k inside)) refl;
      }
    where
      leaf : ℕ → ℕ × List ℕ
      leaf k = (slice_index places k, digest_at tree (2 ^ tree.depth + slice_index places k))

      less : (k : ℕ) → k < length leaves → k < length places
      less k inside = let count = ap length are ∙ length-map-range_with_len leaf 0 (length places) in omega (arith, inside, count)

      read : (k : ℕ) → k < length leaves → get_or leaves k (0, []) ≡ leaf k
      read k inside =
          ap (λ (l : Leaves). get_or l k (0, [])) are
          ∙ get_or-map-range_with_len leaf 0 (length places) k k (0, []) (less k inside) (omega arith)

  -- .. are those of the rows there
  pub places-rows : (hash : List ℕ → List ℕ) (row : ℕ → List ℕ) (places : List ℕ) (leaves : Leaves) → AreAscending (2 ^ tree.depth) places
      → leaves ≡ map (λ (k : ℕ). (slice_index places k, digest_at tree (2 ^ tree.depth + slice_index places k))) (range_with_len 0 (length places))
      → IsTreeOver hash row tree → leaves ≡ leaves_at hash places (λ (k : ℕ). row (slice_index places k))
  places-rows hash row places leaves ascend are holds =
      fill_by_all (λ (k : ℕ). (slice_index places k, hash (row_input (row (slice_index places k))))) leaves (length places) (0, [])
      (ap length are ∙ length-map-range_with_len leaf 0 (length places))
      (λ k inside.
      ap (λ (l : Leaves). get_or l k (0, [])) are
      ∙ get_or-map-range_with_len leaf 0 (length places) k k (0, []) inside (omega arith)
      ∙ ap (λ (d : List ℕ). (slice_index places k, d)) (holds.leaf (slice_index places k) (ascend.below k inside)))
    where
      leaf : ℕ → ℕ × List ℕ
      leaf k = (slice_index places k, digest_at tree (2 ^ tree.depth + slice_index places k))
