-- The siblings of the nodes on the way from a leaf lead to the root.
use Rattle.std.proofs.Common.{◌≡◌, ℕ, zero, suc, ◌+◌, ◌-◌, ◌*◌, ◌/◌, ◌%◌, ◌^◌, ◌<◌, ◌≤◌, Bool, true, false, List, [], ◌∷◌, ◌++◌, length, get_or, take, drop, cond, Decides, refl, sym, ◌∙◌, ap, ap₂, append_assoc, arith, lit<}
use Rattle.std.specs.Prelude.{nat_eq}
use Rattle.std.proofs.Math.Seq.{take-length}
use Rattle.std.proofs.Math.Nat.{pow-le-pow_right, two-pow-succ}
use Rattle.std.proofs.lemmas.Nat.{pow_pos}
use Rattle.std.proofs.lemmas.Bool.{false≢true}
use Rattle.std.proofs.lemmas.Bool.Decides.{Decides-eqb}
use Rattle.transcripts.specs.MerkleTrees.{ending, node_input, pair_input}

-- a remainder by 2 that is not 0 is 1
parity : (d : ℕ) → d < 2 → (d ≡ 0 → ⊥) → d ≡ 1
parity zero below not = absurd (not refl)
parity (suc zero) below not = refl
parity (suc (suc d)) below not = absurd (omega (arith, below))

-- a node below an even bound has its sibling there too
pub sibling-lt : (node sibling bound : ℕ) → node < 2 * bound → (node % 2 ≡ 0 → sibling ≡ node + 1) → (node % 2 ≡ 1 → sibling + 1 ≡ node)
    → sibling < 2 * bound
sibling-lt node sibling bound below even_sibling odd_sibling = pick (nat_eq (node % 2) 0) (Decides-eqb (node % 2) 0)
  where
    pick : (even : Bool) → Decides even (node % 2 ≡ 0) → sibling < 2 * bound
    pick true decides =
        let even : node % 2 ≡ 0 = decides.0 refl in
        let next = even_sibling even in
        omega (arith, even, next, below)
    pick false decides =
        let before = odd_sibling (parity (node % 2) (omega arith) (λ none. false≢true (decides.1 none))) in
        omega (arith, before, below)

module _ (hash : List ℕ → List ℕ) (depth : ℕ) (digest : ℕ → List ℕ)
    (node_is : (i : ℕ) → 1 ≤ i → i < 2 ^ depth → digest i ≡ hash (node_input (digest (2 * i)) (digest (2 * i + 1)))) where
  -- a node, at an even place on the left and at an odd one on the right, and its sibling, have their digests hashed above them
  above : (place node sibling half : ℕ) → 1 ≤ half → half < 2 ^ depth → place % 2 ≡ node % 2 → half ≡ node / 2
      → (node % 2 ≡ 0 → sibling ≡ node + 1) → (node % 2 ≡ 1 → sibling + 1 ≡ node)
      → hash (pair_input place (digest node) (digest sibling)) ≡ digest half
  above place node sibling half some few same half_is even_sibling odd_sibling =
      pick (nat_eq (place % 2) 0) (Decides-eqb (place % 2) 0)
    where
      pick : (even : Bool) → Decides even (place % 2 ≡ 0)
          → hash (cond even (node_input (digest node) (digest sibling)) (node_input (digest sibling) (digest node))) ≡ digest half
      pick true decides =
          let even : node % 2 ≡ 0 = sym same ∙ decides.0 refl in
          let left : node ≡ 2 * half = omega (arith, even, half_is) in
          let right : sibling ≡ 2 * half + 1 = even_sibling even ∙ omega (arith, left) in
          ap₂ (λ (a b : List ℕ). hash (node_input a b)) (ap digest left) (ap digest right) ∙ sym (node_is half some few)
      pick false decides =
          let odd : node % 2 ≡ 1 = parity (node % 2) (omega arith) (λ none. false≢true (decides.1 (same ∙ none))) in
          let right : node ≡ 2 * half + 1 = omega (arith, odd, half_is) in
          let left : sibling ≡ 2 * half = let before = odd_sibling odd in omega (arith, before, right) in
          ap₂ (λ (a b : List ℕ). hash (node_input a b)) (ap digest left) (ap digest right) ∙ sym (node_is half some few)

  -- one level up: with m + 1 levels above the node, and with m above the next
  pub way_on : (m node sibling index : ℕ) (leaf : List ℕ) (path : List (List ℕ)) → suc m ≤ depth → 2 ^ suc m ≤ node → node < 2 * 2 ^ suc m
      → (node % 2 ≡ 0 → sibling ≡ node + 1) → (node % 2 ≡ 1 → sibling + 1 ≡ node)
      → ((rest : List (List ℕ)) → ending hash index leaf (path ++ rest) ≡ ending hash (node - 2 ^ suc m) (digest node) rest)
      → (rest : List (List ℕ))
      → ending hash index leaf (path ++ (digest sibling ∷ []) ++ rest) ≡ ending hash (node / 2 - 2 ^ m) (digest (node / 2)) rest
  unfolding ending
  way_on m node sibling index leaf path within low high even_sibling odd_sibling so_far rest =
      let twice = two-pow-succ m in
      let place : (node - 2 ^ suc m) / 2 ≡ node / 2 - 2 ^ m = omega (arith, twice, low) in
      let same : (node - 2 ^ suc m) % 2 ≡ node % 2 = omega (arith, twice, low) in
      let some : 1 ≤ node / 2 = let positive = pow_pos m in omega (arith, twice, low, positive) in
      let few : node / 2 < 2 ^ depth =
      let power : 2 ^ suc m ≤ 2 ^ depth = pow-le-pow_right (lit< tt) within in omega (arith, high, power) in
      ap (ending hash index leaf) (append_assoc path (digest sibling ∷ []) rest)
      ∙ so_far (digest sibling ∷ rest)
      ∙ ap₂ (λ (p : ℕ) (d : List ℕ). ending hash p d rest) place
      (above (node - 2 ^ suc m) node sibling (node / 2) some few same refl even_sibling odd_sibling)

-- ---- the end of a path

-- the rest of a list is all of it but the first
pub rest-all : (path : List (List ℕ)) → take (length path - 1) (drop 1 path) ≡ drop 1 path
rest-all [] = refl
rest-all (s ∷ path) = let all : suc (length path) - 1 ≡ length path = omega arith in ap (λ (n : ℕ). take n path) all ∙ take-length path

-- no sibling
pub ending-none : (hash : List ℕ → List ℕ) (place : ℕ) (digest : List ℕ) (path : List (List ℕ)) → length path ≡ 0 → digest ≡ ending hash place digest path
unfolding ending
ending-none hash place digest [] none = refl
ending-none hash place digest (s ∷ path) none = absurd (omega (arith, none))

-- one sibling, and the others
pub ending-more : (hash : List ℕ → List ℕ) (place : ℕ) (digest : List ℕ) (path : List (List ℕ)) → 0 < length path
    → ending hash (place / 2) (hash (pair_input place digest (get_or path 0 []))) (drop 1 path) ≡ ending hash place digest path
unfolding ending
ending-more hash place digest [] some = absurd (omega (arith, some))
ending-more hash place digest (s ∷ path) some = refl
