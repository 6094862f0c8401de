-- Node 1 of the tree over some rows is the root of those rows.
use Rattle.std.proofs.Common.{◌≡◌, ℕ, zero, suc, ◌+◌, ◌*◌, ◌^◌, ◌<◌, ◌≤◌, List, ◌∙◌, ap, ap₂, arith}
use Rattle.std.proofs.Math.Nat.{mul-le-mul_left, two-pow-succ}
use Rattle.std.proofs.lemmas.Nat.{pow_pos}
use Rattle.transcripts.specs.MerkleTrees.{node_input, row_input, rows_root}

-- equal rows have equal roots
root-same : (hash : List ℕ → List ℕ) (n : ℕ) (f g : ℕ → List ℕ) → ((i : ℕ) → i < 2 ^ n → f i ≡ g i) → rows_root hash n f ≡ rows_root hash n g
unfolding rows_root
root-same hash zero f g same = ap (λ (r : List ℕ). hash (row_input r)) (same 0 (omega arith))
root-same hash (suc n) f g same =
    let twice = two-pow-succ n in
    ap₂ (λ (left right : List ℕ). hash (node_input left right))
    (root-same hash n f g (λ i below. same i (omega arith)))
    (root-same hash n (λ i. f (2 ^ n + i)) (λ i. g (2 ^ n + i)) (λ i below. same (2 ^ n + i) (omega arith)))

module _ (hash : List ℕ → List ℕ) (depth : ℕ) (row : ℕ → List ℕ) (digest : ℕ → List ℕ)
    (leaf : (i : ℕ) → i < 2 ^ depth → digest (2 ^ depth + i) ≡ hash (row_input (row i)))
    (node : (i : ℕ) → 1 ≤ i → i < 2 ^ depth → digest i ≡ hash (node_input (digest (2 * i)) (digest (2 * i + 1)))) where
  -- node i is the root of the 2 ^ m leaves below it, of which the first has the number `first`
  subtree : (m i first : ℕ) → i * 2 ^ m ≡ 2 ^ depth + first → first + 2 ^ m ≤ 2 ^ depth
      → digest i ≡ rows_root hash m (λ j. row (first + j))
  unfolding rows_root
  subtree zero i first at fits =
      let here : i ≡ 2 ^ depth + first = omega (arith, at) in
      let within : first < 2 ^ depth = omega (arith, fits) in
      let same : first ≡ first + 0 = omega arith in
      ap digest here ∙ leaf first within ∙ ap (λ (w : ℕ). hash (row_input (row w))) same
  subtree (suc m) i first at fits =
      let twice = two-pow-succ m in
      let some = pow_pos m in
      let all = pow_pos depth in
      let i_twice : i * 2 ^ suc m ≡ i * 2 ^ m + i * 2 ^ m = ap (λ (k : ℕ). i * k) twice ∙ omega arith in
      let more : i * 1 ≤ i * 2 ^ m = mul-le-mul_left i some in
      let above : 1 ≤ i = positive i (omega (arith, at)) in
      let below : i < 2 ^ depth = omega (arith, at, fits, twice, i_twice, more, some) in
      let left : 2 * i * 2 ^ m ≡ 2 ^ depth + first = omega (arith, at, i_twice) in
      let right : (2 * i + 1) * 2 ^ m ≡ 2 ^ depth + (first + 2 ^ m) = omega (arith, at, i_twice) in
      node i above below
      ∙ ap₂ (λ (a b : List ℕ). hash (node_input a b))
      (subtree m (2 * i) first left (omega (arith, fits, twice)))
      (subtree m (2 * i + 1) (first + 2 ^ m) right (omega (arith, fits, twice))
      ∙ root-same hash m (λ j. row (first + 2 ^ m + j)) (λ j. row (first + (2 ^ m + j)))
      (λ j within. let same : first + 2 ^ m + j ≡ first + (2 ^ m + j) = omega arith in ap row same))
    where
      positive : (n : ℕ) → 0 < n * 2 ^ suc m → 1 ≤ n
      positive zero some = absurd (omega (arith, some))
      positive (suc n) some = omega arith

  pub tree-root : digest 1 ≡ rows_root hash depth row
  tree-root =
      subtree depth 1 0 (omega arith) (omega arith)
      ∙ root-same hash depth (λ j. row (0 + j)) row (λ j within. let same : 0 + j ≡ j = omega arith in ap row same)
