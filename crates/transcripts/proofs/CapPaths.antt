-- What paths to caps lead to.
use Rattle.std.proofs.Common.{◌≡◌, ◌≢◌, ◌↔◌, ℕ, ◌+◌, ◌-◌, ◌*◌, ◌/◌, ◌%◌, ◌^◌, ◌<◌, ◌≤◌, Bool, false, List, [], length, get_or, take, drop, sym, ◌∙◌, ap, ap₂, subst, arith, lit<}
use Rattle.std.specs.Prelude.{IsTrue}
use Rattle.std.proofs.Math.Nat.{div-eq_of_lt, mod-eq_of_lt, pow-le-pow_right}
use Rattle.std.proofs.lemmas.Bool.{false≢true}
use Rattle.std.proofs.lemmas.List.{get_or-drop, get_or-take, length-drop, length-take-le}
use native.Mathlib.Nat.{one-mul}
use Rattle.transcripts.specs.declared.merkle_tree.MerkleTree.{MerkleTree}
use Rattle.transcripts.specs.Commitments.{cap_of, root_of}
use Rattle.transcripts.specs.MerkleTrees.{DigestLeads, DigestLeadsToCap, ending}

-- the first root of a cap, in 64 bits, is node 2 ^ height
pub cap-room : (height depth : ℕ) → height ≤ depth → depth ≤ 40
    → (1 * 2 ^ height % 18446744073709551616 ≡ 2 ^ height) × (2 ^ height ≤ 2 ^ depth) × (2 ^ depth ≤ 1099511627776)
cap-room height depth below few =
    let up : 2 ^ height ≤ 2 ^ depth = pow-le-pow_right (lit< tt) below in
    let bound : 2 ^ depth ≤ 2 ^ 40 = pow-le-pow_right (lit< tt) few in
    (mod-eq_of_lt {n = 1 * 2 ^ height} (omega (arith, up, bound)) ∙ one-mul (2 ^ height), up, bound)

-- a cap has as many roots as it is long
pub cap-length : (nodes : List (List ℕ)) (n : ℕ) → 2 * n ≤ length nodes → length (take n (drop n nodes)) ≡ n
cap-length nodes n room =
    let rest = length-drop n nodes in
    length-take-le n (drop n nodes) (omega (arith, rest, room))

-- root i of a cap is node n + i
pub cap-root : (nodes : List (List ℕ)) (n i : ℕ) → i < n → get_or (take n (drop n nodes)) i [] ≡ get_or nodes (n + i) []
cap-root nodes n i below = get_or-take n (drop n nodes) i [] below ∙ get_or-drop n nodes i []

-- a path to the cap of one root leads to the root
pub leads_to_root : {A : Type 0} (hash : List ℕ → List ℕ) (tree : MerkleTree A) (index : ℕ) (leaf : List ℕ) (path : List (List ℕ)) → index < 2 ^ tree.depth
    → DigestLeadsToCap hash tree.depth (cap_of tree (tree.depth - tree.depth)) index leaf path
    → DigestLeads hash tree.depth (root_of tree) index leaf path
leads_to_root hash tree index leaf path below leads =
    let none : tree.depth - tree.depth ≡ 0 = omega arith in
    let first : index / 2 ^ tree.depth ≡ 0 = div-eq_of_lt below in
    record {
      within = below;
      whole = leads.whole;
      ends =
          leads.ends ∙ ap₂ (λ (h p : ℕ). get_or (cap_of tree h) p []) none first
          ∙ cap-root tree.nodes.items 1 0 (lit< tt);
    }

-- what is false is not so
not_so : {P : Type 0} → (P → ⊥) → IsTrue false ↔ P
not_so not = ((λ yes. absurd (false≢true yes)), (λ is. absurd (not is)))

-- what `leads_to_cap` looks at is whether a path leads to the cap
module _ (hash : List ℕ → List ℕ) (levels index place : ℕ) (cap : List (List ℕ)) (leaf digest : List ℕ) (path : List (List ℕ)) where
  -- a path of another length does not lead anywhere
  pub cap-not_whole : length path ≢ levels → IsTrue false ↔ DigestLeadsToCap hash levels cap index leaf path
  cap-not_whole differ = not_so (λ leads. differ leads.whole)

  -- nor does one past the cap
  pub cap-not_within : length path ≡ levels → place ≡ index / 2 ^ length path → length cap ≤ place
      → IsTrue false ↔ DigestLeadsToCap hash levels cap index leaf path
  cap-not_within whole place_is past =
      let at : place ≡ index / 2 ^ levels = place_is ∙ ap (λ (k : ℕ). index / 2 ^ k) whole in
      not_so (λ leads. omega (arith, leads.within, at, past))

  -- any other leads to the cap exactly where it ends in its root
  pub cap-leads_exactly : (same : Bool) → length path ≡ levels → place ≡ index / 2 ^ length path → place < length cap
      → digest ≡ ending hash index leaf path → (IsTrue same ↔ (digest ≡ get_or cap place []))
      → IsTrue same ↔ DigestLeadsToCap hash levels cap index leaf path
  cap-leads_exactly same whole place_is within ends says = (
    (λ yes.
        record {
          within = subst (λ (p : ℕ). p < length cap) at within;
          whole = whole;
          ends = sym ends ∙ says.0 yes ∙ ap (λ (p : ℕ). get_or cap p []) at;
        }),
    (λ leads. says.1 (ends ∙ leads.ends ∙ ap (λ (p : ℕ). get_or cap p []) (sym at))),
  )
    where
      at : place ≡ index / 2 ^ levels
      at = place_is ∙ ap (λ (k : ℕ). index / 2 ^ k) whole
