-- Each leaf that is opened with others leads to the root by a path of its own.
use Rattle.std.proofs.Common.{◌≡◌, ◌⊎◌, inl, inr, ℕ, zero, suc, ◌+◌, ◌-◌, ◌*◌, ◌/◌, ◌%◌, ◌^◌, ◌<◌, ◌≤◌, List, [], ◌∷◌, ◌++◌, length, get_or, cond, refl, sym, ◌∙◌, ap, ap₂, subst, arith}
use Rattle.std.specs.Prelude.{nat_eq, slice_index}
use Rattle.std.proofs.Math.Nat.{div-eq_of_lt, div-one, two-pow-succ}
use Rattle.std.proofs.lemmas.Bool.{cases_lt}
use Rattle.std.proofs.lemmas.List.{get_or-append_right, get_or_append_left, length-append}
use Rattle.std.proofs.lemmas.List.FromFn.{get_or-map-range_with_len, length-map-range_with_len}
use Rattle.std.proofs.lemmas.Nat.{div-mul-add, shr-shr}
use native.Mathlib.Nat.{one-mul}
use Rattle.transcripts.specs.MerkleTrees.{DigestLeads, ending, HaveDigestSize, node_input, pair_input, row_input, RowLeads}
use Rattle.transcripts.specs.Openings.{leaves_at, Opens, OpeningsBind, OpeningsLead}
use Rattle.transcripts.proofs.Binding.{row_paths_bind}
use Rattle.transcripts.proofs.OpenedLeaves.{from-at, Leaves, opens-within}

-- ---- paths

-- one sibling more
ending-longer : (hash : List ℕ → List ℕ) (path : List (List ℕ)) (place : ℕ) (digest sibling : List ℕ)
    → ending hash place digest (path ++ sibling ∷ []) ≡ hash (pair_input (place / 2 ^ length path) (ending hash place digest path) sibling)
unfolding ending
ending-longer hash [] place digest sibling = ap (λ (p : ℕ). hash (pair_input p digest sibling)) (sym (div-one place))
ending-longer hash (s ∷ path) place digest sibling =
    let all : 1 + length path ≡ suc (length path) = omega arith in
    ending-longer hash path (place / 2) (hash (pair_input place digest s)) sibling
    ∙ ap (λ (p : ℕ). hash (pair_input p (ending hash (place / 2) (hash (pair_input place digest s)) path) sibling))
    (shr-shr place 1 (length path) ∙ ap (λ (n : ℕ). place / 2 ^ n) all)

-- a path of m siblings ends alike from places that differ by multiples of 2 ^ m
ending-moved : (hash : List ℕ → List ℕ) (path : List (List ℕ)) (q p : ℕ) (digest : List ℕ)
    → ending hash (q * 2 ^ length path + p) digest path ≡ ending hash p digest path
unfolding ending
ending-moved hash [] q p digest = refl
ending-moved hash (s ∷ path) q p digest =
    let twice : q * 2 ^ suc (length path) ≡ q * 2 ^ length path + q * 2 ^ length path =
    ap (λ (k : ℕ). q * k) (two-pow-succ (length path)) ∙ omega arith in
    let parity : (q * 2 ^ suc (length path) + p) % 2 ≡ p % 2 = omega (arith, twice) in
    let half : (q * 2 ^ suc (length path) + p) / 2 ≡ q * 2 ^ length path + p / 2 = omega (arith, twice) in
    ap₂ (λ (r h : ℕ). ending hash h (hash (cond (nat_eq r 0) (node_input digest s) (node_input s digest))) path) parity half
    ∙ ending-moved hash path q (p / 2) (hash (pair_input p digest s))

module _ (hash : List ℕ → List ℕ) (size : ℕ) (whole : (bytes : List ℕ) → length (hash bytes) ≡ size) where
  -- ---- sizes

  -- the digest of each leaf has so many bytes
  abbrev AreSized : Leaves → Type 0
  AreSized leaves = (k : ℕ) → k < length leaves → length (get_or leaves k (0, [])).1 ≡ size

  sized-left : (left right nodes : List (List ℕ)) → nodes ≡ left ++ right → HaveDigestSize size nodes → HaveDigestSize size left
  sized-left left right nodes cut sizes k below =
      let total = ap length cut ∙ length-append left right in
      ap length (sym (get_or_append_left left right [] k below) ∙ ap (λ (l : List (List ℕ)). get_or l k []) (sym cut))
      ∙ sizes k (omega (arith, total, below))

  sized-right : (left right nodes : List (List ℕ)) → nodes ≡ left ++ right → HaveDigestSize size nodes → HaveDigestSize size right
  sized-right left right nodes cut sizes k below =
      let total = ap length cut ∙ length-append left right in
      let back : length left + k - length left ≡ k = omega arith in
      ap length
      (ap (λ (i : ℕ). get_or right i []) (sym back)
      ∙ sym (get_or-append_right left right (length left) (length left + k) [] refl (omega arith))
      ∙ ap (λ (l : List (List ℕ)). get_or l (length left + k) []) (sym cut))
      ∙ sizes (length left + k) (omega (arith, total, below))

  sized-leaves-left : (left right leaves : Leaves) → leaves ≡ left ++ right → AreSized leaves → AreSized left
  sized-leaves-left left right leaves cut sizes k below =
      let total = ap length cut ∙ length-append left right in
      ap (λ (l : ℕ × List ℕ). length l.1)
      (sym (get_or_append_left left right (0, []) k below) ∙ ap (λ (l : Leaves). get_or l k (0, [])) (sym cut))
      ∙ sizes k (omega (arith, total, below))

  sized-leaves-right : (left right leaves : Leaves) → leaves ≡ left ++ right → AreSized leaves → AreSized right
  sized-leaves-right left right leaves cut sizes k below =
      let total = ap length cut ∙ length-append left right in
      let back : length left + k - length left ≡ k = omega arith in
      ap (λ (l : ℕ × List ℕ). length l.1)
      (ap (λ (i : ℕ). get_or right i (0, [])) (sym back)
      ∙ sym (get_or-append_right left right (length left) (length left + k) (0, []) refl (omega arith))
      ∙ ap (λ (l : Leaves). get_or l (length left + k) (0, [])) (sym cut))
      ∙ sizes (length left + k) (omega (arith, total, below))

  -- and so has the root
  opens-sized : (n first : ℕ) (leaves : Leaves) (nodes : List (List ℕ)) (digest : List ℕ) → Opens hash n first leaves nodes digest
      → HaveDigestSize size nodes → AreSized leaves → length digest ≡ size
  unfolding Opens
  opens-sized zero first [] nodes digest opens sizes leaf_sizes =
      let count = ap length opens in
      ap length (ap (λ (l : List (List ℕ)). get_or l 0 []) (sym opens)) ∙ sizes 0 (omega (arith, count))
  opens-sized (suc n) first [] nodes digest opens sizes leaf_sizes =
      let count = ap length opens in
      ap length (ap (λ (l : List (List ℕ)). get_or l 0 []) (sym opens)) ∙ sizes 0 (omega (arith, count))
  opens-sized zero first (leaf ∷ leaves) nodes digest opens sizes leaf_sizes =
      ap (λ (l : ℕ × List ℕ). length l.1) (sym opens.0) ∙ leaf_sizes 0 (omega arith)
  opens-sized (suc n) first (leaf ∷ leaves) nodes digest opens sizes leaf_sizes = ap length opens.8 ∙ whole (node_input opens.4 opens.5)

  -- a path with one sibling more
  sized-longer : (path : List (List ℕ)) (sibling : List ℕ) → HaveDigestSize size path → length sibling ≡ size
      → HaveDigestSize size (path ++ sibling ∷ [])
  sized-longer path sibling sizes is k below = pick (cases_lt k (length path))
    where
      pick : (k < length path) ⊎ (length path ≤ k) → length (get_or (path ++ sibling ∷ []) k []) ≡ size
      pick (inl lower) = ap length (get_or_append_left path (sibling ∷ []) [] k lower) ∙ sizes k lower
      pick (inr upper) =
          let long = length-append path (sibling ∷ []) in
          let last : k - length path ≡ 0 = omega (arith, long, below, upper) in
          ap length
          (get_or-append_right path (sibling ∷ []) (length path) k [] refl upper ∙ ap (λ (i : ℕ). get_or (sibling ∷ []) i []) last)
          ∙ is

  -- ---- the path of a leaf

  abbrev Leading : ℕ → ℕ → ℕ × List ℕ → List ℕ → Type 0
  Leading n first leaf digest =
      (path : List (List ℕ)) × HaveDigestSize size path × DigestLeads hash n digest (leaf.0 - first) leaf.1 path

  -- from the left half
  lead-left : (n first : ℕ) (leaf : ℕ × List ℕ) (left right : List ℕ) → length right ≡ size
      → Leading n first leaf left → Leading (suc n) first leaf (hash (node_input left right))
  lead-left n first leaf left right is leads =
      let twice = two-pow-succ n in
      let place = leads.2.within in
      let none : (leaf.0 - first) / 2 ^ length leads.0 ≡ 0 =
      ap (λ (k : ℕ). (leaf.0 - first) / 2 ^ k) leads.2.whole ∙ div-eq_of_lt place in
      let long = length-append leads.0 (right ∷ []) in
      let count = leads.2.whole in (
        leads.0 ++ right ∷ [],
        sized-longer leads.0 right leads.1 is,
        record {
          within = omega (arith, twice, place);
          whole = omega (arith, long, count);
          ends =
              ending-longer hash leads.0 (leaf.0 - first) leaf.1 right
              ∙ ap₂ (λ (p : ℕ) (d : List ℕ). hash (pair_input p d right)) none leads.2.ends;
        },
      )

  -- from the right half
  lead-right : (n first : ℕ) (leaf : ℕ × List ℕ) (left right : List ℕ) → first + 2 ^ n ≤ leaf.0 → length left ≡ size
      → Leading n (first + 2 ^ n) leaf right → Leading (suc n) first leaf (hash (node_input left right))
  lead-right n first leaf left right above is leads =
      let twice = two-pow-succ n in
      let place = leads.2.within in
      let count = leads.2.whole in
      let power : 2 ^ length leads.0 ≡ 2 ^ n = ap (λ (k : ℕ). 2 ^ k) count in
      let once : 1 * 2 ^ length leads.0 ≡ 2 ^ n = one-mul (2 ^ length leads.0) ∙ power in
      let moved : leaf.0 - first ≡ 1 * 2 ^ length leads.0 + (leaf.0 - (first + 2 ^ n)) = omega (arith, once, above) in
      let one : (leaf.0 - first) / 2 ^ length leads.0 ≡ 1 =
      ap (λ (p : ℕ). p / 2 ^ length leads.0) moved
      ∙ div-mul-add 1 (2 ^ length leads.0) (leaf.0 - (first + 2 ^ n)) (omega (arith, power, place)) in
      let long = length-append leads.0 (left ∷ []) in (
        leads.0 ++ left ∷ [],
        sized-longer leads.0 left leads.1 is,
        record {
          within = omega (arith, twice, place, above);
          whole = omega (arith, long, count);
          ends =
              ending-longer hash leads.0 (leaf.0 - first) leaf.1 left
              ∙ ap₂ (λ (p : ℕ) (d : List ℕ). hash (pair_input p d left)) one
              (ap (λ (p : ℕ). ending hash p leaf.1 leads.0) moved ∙ ending-moved hash leads.0 1 (leaf.0 - (first + 2 ^ n)) leaf.1
              ∙ leads.2.ends);
        },
      )

  pub opens-lead : (n first : ℕ) (leaves : Leaves) (nodes : List (List ℕ)) (digest : List ℕ) → Opens hash n first leaves nodes digest
      → HaveDigestSize size nodes → AreSized leaves → (k : ℕ) → k < length leaves → Leading n first (get_or leaves k (0, [])) digest
  unfolding Opens ending
  opens-lead n first [] nodes digest opens sizes leaf_sizes k below = absurd (omega (arith, below))
  opens-lead zero first (leaf ∷ leaves) nodes digest opens sizes leaf_sizes k below =
      let count = ap length opens.1 in
      let only : k ≡ 0 = omega (arith, count, below) in
      subst (λ (i : ℕ). Leading zero first (get_or (leaf ∷ leaves) i (0, [])) digest) (sym only)
      (subst (λ (l : ℕ × List ℕ). Leading zero first l digest) (sym opens.0) (
        [],
        (λ i inside. absurd (omega (arith, inside))),
        record {
          within = omega arith;
          whole = refl;
          ends = refl;
        },
      ))
  opens-lead (suc n) first (leaf ∷ leaves) nodes digest opens sizes leaf_sizes k below =
      subst (Leading (suc n) first (get_or (leaf ∷ leaves) k (0, []))) (sym opens.8)
      (pick (cases_lt k (length opens.0))
      (opens-lead n first opens.0 opens.2 opens.4 opens.9 (sized-left opens.2 opens.3 nodes opens.7 sizes)
      (sized-leaves-left opens.0 opens.1 (leaf ∷ leaves) opens.6 leaf_sizes))
      (opens-lead n (first + 2 ^ n) opens.1 opens.3 opens.5 opens.10 (sized-right opens.2 opens.3 nodes opens.7 sizes)
      (sized-leaves-right opens.0 opens.1 (leaf ∷ leaves) opens.6 leaf_sizes)))
    where
      total : length (leaf ∷ leaves) ≡ length opens.0 + length opens.1
      total = ap length opens.6 ∙ length-append opens.0 opens.1

      left_sized : length opens.4 ≡ size
      left_sized =
          opens-sized n first opens.0 opens.2 opens.4 opens.9 (sized-left opens.2 opens.3 nodes opens.7 sizes)
          (sized-leaves-left opens.0 opens.1 (leaf ∷ leaves) opens.6 leaf_sizes)

      right_sized : length opens.5 ≡ size
      right_sized =
          opens-sized n (first + 2 ^ n) opens.1 opens.3 opens.5 opens.10 (sized-right opens.2 opens.3 nodes opens.7 sizes)
          (sized-leaves-right opens.0 opens.1 (leaf ∷ leaves) opens.6 leaf_sizes)

      pick : (k < length opens.0) ⊎ (length opens.0 ≤ k)
          → ((i : ℕ) → i < length opens.0 → Leading n first (get_or opens.0 i (0, [])) opens.4)
          → ((i : ℕ) → i < length opens.1 → Leading n (first + 2 ^ n) (get_or opens.1 i (0, [])) opens.5)
          → Leading (suc n) first (get_or (leaf ∷ leaves) k (0, [])) (hash (node_input opens.4 opens.5))
      pick (inl lower) lefts rights =
          subst (λ (l : ℕ × List ℕ). Leading (suc n) first l (hash (node_input opens.4 opens.5)))
          (sym (ap (λ (l : Leaves). get_or l k (0, [])) opens.6 ∙ get_or_append_left opens.0 opens.1 (0, []) k lower))
          (lead-left n first (get_or opens.0 k (0, [])) opens.4 opens.5 right_sized (lefts k lower))
      pick (inr upper) lefts rights =
          let inside : k - length opens.0 < length opens.1 = omega (arith, total, below, upper) in
          let there =
          from-at (first + 2 ^ n) (first + 2 ^ n + 2 ^ n) opens.1 (k - length opens.0)
          (opens-within hash n (first + 2 ^ n) opens.1 opens.3 opens.5 opens.10) inside in
          subst (λ (l : ℕ × List ℕ). Leading (suc n) first l (hash (node_input opens.4 opens.5)))
          (sym (ap (λ (l : Leaves). get_or l k (0, [])) opens.6
          ∙ get_or-append_right opens.0 opens.1 (length opens.0) k (0, []) refl upper))
          (lead-right n first (get_or opens.1 (k - length opens.0) (0, [])) opens.4 opens.5 there.0 left_sized
          (rights (k - length opens.0) inside))

-- ---- rows

pub openings_lead : OpeningsLead
openings_lead hash size whole depth root places row nodes sizes opens k below =
    let leaf : ℕ → ℕ × List ℕ = λ (i : ℕ). (slice_index places i, hash (row_input (row i))) in
    let count = length-map-range_with_len leaf 0 (length places) in
    let read : (i : ℕ) → i < length places → get_or (leaves_at hash places row) i (0, []) ≡ leaf i =
    λ i inside. get_or-map-range_with_len leaf 0 (length places) i i (0, []) inside (omega arith) in
    let leads =
    opens-lead hash size whole depth 0 (leaves_at hash places row) nodes root opens sizes
    (λ i inside.
    let within : i < length places = omega (arith, inside, count) in
    ap (λ (l : ℕ × List ℕ). length l.1) (read i within) ∙ whole (row_input (row i))) k (omega (arith, count, below)) in (
      leads.0,
      leads.1,
      subst (λ (l : ℕ × List ℕ). DigestLeads hash depth root l.0 l.1 leads.0) (read k below)
          (subst (λ (p : ℕ). DigestLeads hash depth root p (get_or (leaves_at hash places row) k (0, [])).1 leads.0) (omega arith) leads.2),
    )

pub openings_bind : OpeningsBind
openings_bind hash size whole depth root places others row other nodes other_nodes sizes other_sizes opens other_opens k j below other_below
    same differ =
    let one = openings_lead hash size whole depth root places row nodes sizes opens k below in
    let two = openings_lead hash size whole depth root others other other_nodes other_sizes other_opens j other_below in
    let there = subst (λ (p : ℕ). RowLeads hash depth root p (other j) two.0) (sym same) two.2 in (
      one.0,
      two.0,
      one.2,
      there,
      row_paths_bind depth root hash size whole (slice_index places k) (row k) (other j) one.0 two.0 differ one.1 two.1 one.2 there,
    )
