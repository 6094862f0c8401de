-- Openings of many leaves: the leaves are within the tree, one front of the nodes at most opens them, and each leads to the root.
use Rattle.std.proofs.Common.{◌≡◌, ◌↔◌, ◌⊎◌, inl, inr, ℕ, zero, suc, ◌+◌, ◌-◌, ◌^◌, ◌<◌, ◌≤◌, List, [], ◌∷◌, ◌++◌, length, get_or, take, drop, refl, sym, ◌∙◌, ap, ap₂, subst, append_assoc, arith}
use Rattle.std.specs.Prelude.{Bool, false, IfNone, IsTrue}
use Rattle.std.specs.declared.option.Option.{Option}
use Rattle.std.specs.declared.option.Option.TheVariants.{None, Some}
use Rattle.std.proofs.Math.Nat.{two-pow-succ}
use Rattle.std.proofs.Math.Seq.{drop-append_seam, take-add, take-append_seam}
use Rattle.std.proofs.lemmas.Bool.{cases_lt, false≢true}
use Rattle.std.proofs.lemmas.List.{append-nil, get_or-append_right, get_or_append_left, length-append, length-drop, length-take-le, take-append-drop, take_all}
use Rattle.transcripts.specs.MerkleTrees.{node_input}
use Rattle.transcripts.specs.Openings.{NoFrontOpens, Opens}

abbrev pub Leaves : Type 0
Leaves = List (ℕ × List ℕ)

-- ---- places

-- each place is from `low` on and below `high`
unfoldable pub AreFrom : ℕ → ℕ → List (ℕ × List ℕ) → Type 0
AreFrom low high [] = Unit {0}
AreFrom low high (leaf ∷ leaves) = (low ≤ leaf.0) × (leaf.0 < high) × AreFrom low high leaves

from-wider : (low high less more : ℕ) (leaves : Leaves) → less ≤ low → high ≤ more → AreFrom low high leaves → AreFrom less more leaves
unfolding AreFrom
from-wider low high less more [] down up are = tt
from-wider low high less more (leaf ∷ leaves) down up are =
    let first = are.0 in
    let second = are.1 in
    (omega (arith, down, first), omega (arith, up, second), from-wider low high less more leaves down up are.2)

from-joined : (low high : ℕ) (left right : Leaves) → AreFrom low high left → AreFrom low high right → AreFrom low high (left ++ right)
unfolding AreFrom
from-joined low high [] right are others = others
from-joined low high (leaf ∷ left) right are others = (are.0, are.1, from-joined low high left right are.2 others)

-- leaves that are opened are within the tree
pub opens-within : (hash : List ℕ → List ℕ) (n first : ℕ) (leaves : Leaves) (nodes : List (List ℕ)) (digest : List ℕ)
    → Opens hash n first leaves nodes digest → AreFrom first (first + 2 ^ n) leaves
unfolding Opens AreFrom
opens-within hash zero first [] nodes digest opens = tt
opens-within hash (suc n) first [] nodes digest opens = tt
opens-within hash zero first (leaf ∷ leaves) nodes digest opens =
    let here : leaf.0 ≡ first = ap (λ (l : ℕ × List ℕ). l.0) opens.0 in
    (omega (arith, here), omega (arith, here), subst (AreFrom first (first + 1)) (sym opens.1) tt)
opens-within hash (suc n) first (leaf ∷ leaves) nodes digest opens =
    let twice = two-pow-succ n in
    subst (AreFrom first (first + 2 ^ suc n)) (sym opens.6)
    (from-joined first (first + 2 ^ suc n) opens.0 opens.1
    (from-wider first (first + 2 ^ n) first (first + 2 ^ suc n) opens.0 (omega arith) (omega (arith, twice))
    (opens-within hash n first opens.0 opens.2 opens.4 opens.9))
    (from-wider (first + 2 ^ n) (first + 2 ^ n + 2 ^ n) first (first + 2 ^ suc n) opens.1 (omega arith) (omega (arith, twice))
    (opens-within hash n (first + 2 ^ n) opens.1 opens.3 opens.5 opens.10)))

-- a list of places below a bound and places from it on can be cut in one way only
pub cut-unique : (low middle high : ℕ) (left right other_left other_right : Leaves)
    → AreFrom low middle left → AreFrom middle high right → AreFrom low middle other_left → AreFrom middle high other_right
    → left ++ right ≡ other_left ++ other_right → (left ≡ other_left) × (right ≡ other_right)
unfolding AreFrom
cut-unique low middle high [] right [] other_right below above other_below other_above same = (refl, same)
cut-unique low middle high [] [] (y ∷ other_left) other_right below above other_below other_above same = absurd (omega (arith, ap length same))
cut-unique low middle high [] (x ∷ right) (y ∷ other_left) other_right below above other_below other_above same =
    let one : x.0 ≡ y.0 = ap (λ (l : Leaves). (get_or l 0 (0, [])).0) same in
    let high_one = above.0 in
    let low_one = other_below.1 in
    absurd (omega (arith, one, high_one, low_one))
cut-unique low middle high (x ∷ left) right [] [] below above other_below other_above same = absurd (omega (arith, ap length same))
cut-unique low middle high (x ∷ left) right [] (y ∷ other_right) below above other_below other_above same =
    let one : x.0 ≡ y.0 = ap (λ (l : Leaves). (get_or l 0 (0, [])).0) same in
    let high_one = other_above.0 in
    let low_one = below.1 in
    absurd (omega (arith, one, high_one, low_one))
cut-unique low middle high (x ∷ left) right (y ∷ other_left) other_right below above other_below other_above same =
    let rest = cut-unique low middle high left right other_left other_right below.2 above other_below.2 other_above (ap (drop 1) same) in
    (ap₂ (λ (l : ℕ × List ℕ) (ls : Leaves). l ∷ ls) (ap (λ (l : Leaves). get_or l 0 (0, [])) same) rest.0, rest.1)

-- ---- one front of the nodes opens the leaves

-- one node for all
closed : (nodes other rest other_rest : List (List ℕ)) (digest other_digest : List ℕ) → nodes ≡ digest ∷ [] → other ≡ other_digest ∷ []
    → nodes ++ rest ≡ other ++ other_rest → (nodes ≡ other) × (digest ≡ other_digest) × (rest ≡ other_rest)
closed nodes other rest other_rest digest other_digest is other_is same =
    let joined : digest ∷ rest ≡ other_digest ∷ other_rest =
    ap (λ (l : List (List ℕ)). l ++ rest) (sym is) ∙ same ∙ ap (λ (l : List (List ℕ)). l ++ other_rest) other_is in
    let first : digest ≡ other_digest = ap (λ (l : List (List ℕ)). get_or l 0 []) joined in
    (is ∙ ap (λ (d : List ℕ). d ∷ []) first ∙ sym other_is, first, ap (drop 1) joined)

pub opens-unique : (hash : List ℕ → List ℕ) (n first : ℕ) (leaves : Leaves) (nodes other rest other_rest : List (List ℕ)) (digest other_digest : List ℕ)
    → Opens hash n first leaves nodes digest → Opens hash n first leaves other other_digest → nodes ++ rest ≡ other ++ other_rest
    → (nodes ≡ other) × (digest ≡ other_digest) × (rest ≡ other_rest)
unfolding Opens
opens-unique hash zero first [] nodes other rest other_rest digest other_digest opens others same =
    closed nodes other rest other_rest digest other_digest opens others same
opens-unique hash (suc n) first [] nodes other rest other_rest digest other_digest opens others same =
    closed nodes other rest other_rest digest other_digest opens others same
opens-unique hash zero first (leaf ∷ leaves) nodes other rest other_rest digest other_digest opens others same = (
  opens.2 ∙ sym others.2,
  ap (λ (l : ℕ × List ℕ). l.1) (sym opens.0 ∙ others.0),
  ap (λ (l : List (List ℕ)). l ++ rest) (sym opens.2) ∙ same ∙ ap (λ (l : List (List ℕ)). l ++ other_rest) others.2,
)
opens-unique hash (suc n) first (leaf ∷ leaves) nodes other rest other_rest digest other_digest opens others same =
    let cut =
    cut-unique first (first + 2 ^ n) (first + 2 ^ n + 2 ^ n) opens.0 opens.1 others.0 others.1
    (opens-within hash n first opens.0 opens.2 opens.4 opens.9) (opens-within hash n (first + 2 ^ n) opens.1 opens.3 opens.5 opens.10)
    (opens-within hash n first others.0 others.2 others.4 others.9)
    (opens-within hash n (first + 2 ^ n) others.1 others.3 others.5 others.10) (sym opens.6 ∙ others.6) in
    let lefts =
    opens-unique hash n first opens.0 opens.2 others.2 (opens.3 ++ rest) (others.3 ++ other_rest) opens.4 others.4 opens.9
    (subst (λ (l : Leaves). Opens hash n first l others.2 others.4) (sym cut.0) others.9)
    (sym (append_assoc opens.2 opens.3 rest) ∙ ap (λ (l : List (List ℕ)). l ++ rest) (sym opens.7) ∙ same
    ∙ ap (λ (l : List (List ℕ)). l ++ other_rest) others.7 ∙ append_assoc others.2 others.3 other_rest) in
    let rights =
    opens-unique hash n (first + 2 ^ n) opens.1 opens.3 others.3 rest other_rest opens.5 others.5 opens.10
    (subst (λ (l : Leaves). Opens hash n (first + 2 ^ n) l others.3 others.5) (sym cut.1) others.10) lefts.2 in (
      opens.7 ∙ ap₂ (λ (a b : List (List ℕ)). a ++ b) lefts.0 rights.0 ∙ sym others.7,
      opens.8 ∙ ap₂ (λ (a b : List ℕ). hash (node_input a b)) lefts.1 rights.1 ∙ sym others.8,
      rights.2,
    )

-- ---- one level

-- two halves are a whole
pub opens-halves : (hash : List ℕ → List ℕ) (n levels first : ℕ) (leaves left right : Leaves) (nodes left_nodes right_nodes : List (List ℕ))
    (left_digest right_digest : List ℕ) → suc n ≡ levels → 0 < length leaves → leaves ≡ left ++ right → nodes ≡ left_nodes ++ right_nodes
    → Opens hash n first left left_nodes left_digest → Opens hash n (first + 2 ^ n) right right_nodes right_digest
    → Opens hash levels first leaves nodes (hash (node_input left_digest right_digest))
unfolding Opens
opens-halves hash n levels first [] left right nodes left_nodes right_nodes left_digest right_digest is some cut sent opens others =
    absurd (omega (arith, some))
opens-halves hash n levels first (leaf ∷ leaves) left right nodes left_nodes right_nodes left_digest right_digest is some cut sent opens others =
    subst (λ (k : ℕ). Opens hash k first (leaf ∷ leaves) nodes (hash (node_input left_digest right_digest))) is
    (left, right, left_nodes, right_nodes, left_digest, right_digest, cut, sent, refl, opens, others)

-- no leaf
pub opens-none : (hash : List ℕ → List ℕ) (n first : ℕ) (leaves : Leaves) (nodes : List (List ℕ)) (digest : List ℕ) → length leaves ≡ 0
    → nodes ≡ digest ∷ [] → Opens hash n first leaves nodes digest
unfolding Opens
opens-none hash zero first [] nodes digest none is = is
opens-none hash (suc n) first [] nodes digest none is = is
opens-none hash n first (leaf ∷ leaves) nodes digest none is = absurd (omega (arith, none))

-- one leaf, in a tree of one
pub opens-leaf : (hash : List ℕ → List ℕ) (n first : ℕ) (leaves : Leaves) (digest : List ℕ) → n ≡ 0 → length leaves ≡ 1
    → (get_or leaves 0 (0, [])).0 ≡ first → (get_or leaves 0 (0, [])).1 ≡ digest → Opens hash n first leaves [] digest
unfolding Opens
opens-leaf hash n first [] digest leaf_only one place is = absurd (omega (arith, one))
opens-leaf hash n first (leaf ∷ []) digest leaf_only one place is =
    subst (λ (k : ℕ). Opens hash k first (leaf ∷ []) [] digest) (sym leaf_only)
    (ap₂ (λ (a : ℕ) (b : List ℕ). (a, b)) place is, refl, refl)
opens-leaf hash n first (leaf ∷ other ∷ leaves) digest leaf_only one place is = absurd (omega (arith, one))

-- ---- where no first nodes open the leaves

-- no leaf and no node
node-count : (hash : List ℕ → List ℕ) (n first : ℕ) (leaves : Leaves) (nodes : List (List ℕ)) (digest : List ℕ) → length leaves ≡ 0
    → Opens hash n first leaves nodes digest → length nodes ≡ 1
unfolding Opens
node-count hash zero first [] nodes digest none is = ap length is
node-count hash (suc n) first [] nodes digest none is = ap length is
node-count hash n first (leaf ∷ leaves) nodes digest none is = absurd (omega (arith, none))

pub no-node : (hash : List ℕ → List ℕ) (n first : ℕ) (leaves : Leaves) (nodes : List (List ℕ)) → length leaves ≡ 0 → length nodes ≡ 0
    → NoFrontOpens hash n first leaves nodes
no-node hash n first leaves nodes none empty front rest digest cut opens =
    let one = node-count hash n first leaves front digest none opens in
    let long = length-append front rest in
    let all = ap length cut in
    omega (arith, one, long, all, empty)

-- a tree of one leaf, and not that leaf alone
pub not-leaf : (hash : List ℕ → List ℕ) (n first : ℕ) (leaves : Leaves) (nodes : List (List ℕ)) → n ≡ 0 → 0 < length leaves
    → ((length leaves ≡ 1) → (get_or leaves 0 (0, [])).0 ≡ first → ⊥) → NoFrontOpens hash n first leaves nodes
unfolding Opens
not-leaf hash n first [] nodes leaf_only some differ front rest digest cut opens = absurd (omega (arith, some))
not-leaf hash n first (leaf ∷ leaves) nodes leaf_only some differ front rest digest cut opens =
    let here = subst (λ (k : ℕ). Opens hash k first (leaf ∷ leaves) front digest) leaf_only opens in
    differ (ap (λ (l : Leaves). suc (length l)) here.1) (ap (λ (l : ℕ × List ℕ). l.0) here.0)

-- a leaf of a list is where the list is
pub from-at : (low high : ℕ) (leaves : Leaves) (k : ℕ) → AreFrom low high leaves → k < length leaves
    → (low ≤ (get_or leaves k (0, [])).0) × ((get_or leaves k (0, [])).0 < high)
unfolding AreFrom
from-at low high [] k are below = absurd (omega (arith, below))
from-at low high (leaf ∷ leaves) zero are below = (are.0, are.1)
from-at low high (leaf ∷ leaves) (suc k) are below = from-at low high leaves k are.2 (omega (arith, below))

-- as many first leaves as are below the middle are those of the left half
count-left : (low middle high count : ℕ) (leaves left right : Leaves) → AreFrom low middle left → AreFrom middle high right
    → leaves ≡ left ++ right → count ≤ length leaves → ((k : ℕ) → k < count → (get_or leaves k (0, [])).0 < middle)
    → (count < length leaves → middle ≤ (get_or leaves count (0, [])).0) → count ≡ length left
count-left low middle high count leaves left right below above cut within before stop =
    pick (cases_lt count (length left)) (cases_lt (length left) count)
  where
    at : ℕ → ℕ
    at k = (get_or leaves k (0, [])).0

    total : length leaves ≡ length left + length right
    total = ap length cut ∙ length-append left right

    pick : (count < length left) ⊎ (length left ≤ count) → (length left < count) ⊎ (count ≤ length left) → count ≡ length left
    pick (inl fewer) others =
        let here : at count ≡ (get_or left count (0, [])).0 =
        ap (λ (l : Leaves). (get_or l count (0, [])).0) cut ∙ ap (λ (l : ℕ × List ℕ). l.0) (get_or_append_left left right (0, []) count fewer) in
        let low_one = from-at low middle left count below fewer in
        let high_one = stop (omega (arith, total, fewer)) in
        absurd (omega (arith, here, low_one.1, high_one))
    pick (inr enough) (inl more) =
        let inside : 0 < length right = omega (arith, total, within, more) in
        let here : at (length left) ≡ (get_or right 0 (0, [])).0 =
        ap (λ (l : Leaves). (get_or l (length left) (0, [])).0) cut
        ∙ ap (λ (l : ℕ × List ℕ). l.0)
        (get_or-append_right left right (length left) (length left) (0, []) refl (omega arith)
        ∙ ap (λ (i : ℕ). get_or right i (0, [])) (omega arith)) in
        let high_one = from-at middle high right 0 above inside in
        let low_one = before (length left) more in
        absurd (omega (arith, here, high_one.0, low_one))
    pick (inr enough) (inr few) = omega (arith, enough, few)

module _ (hash : List ℕ → List ℕ) (n levels first count : ℕ) (leaves : Leaves) (nodes : List (List ℕ)) (is : suc n ≡ levels)
    (some : 0 < length leaves) (within : count ≤ length leaves) (before : (k : ℕ) → k < count → (get_or leaves k (0, [])).0 < first + 2 ^ n)
    (stop : count < length leaves → first + 2 ^ n ≤ (get_or leaves count (0, [])).0) where
  -- whatever opens the leaves has the count's halves
  abbrev Halves : List (List ℕ) → Type 0
  Halves front =
      (left_nodes right_nodes : List (List ℕ)) × (left_digest right_digest : List ℕ) × (front ≡ left_nodes ++ right_nodes)
      × Opens hash n first (take count leaves) left_nodes left_digest
      × Opens hash n (first + 2 ^ n) (drop count leaves) right_nodes right_digest

  halves : (front : List (List ℕ)) (digest : List ℕ) → Opens hash levels first leaves front digest → Halves front
  unfolding Opens
  halves front digest opens = pick leaves refl (subst (λ (k : ℕ). Opens hash k first leaves front digest) (sym is) opens)
    where
      pick : (ls : Leaves) → leaves ≡ ls → Opens hash (suc n) first ls front digest → Halves front
      pick [] same others = absurd (let none = ap length same in omega (arith, none, some))
      pick (l ∷ ls) same others =
          let lefts = opens-within hash n first others.0 others.2 others.4 others.9 in
          let rights = opens-within hash n (first + 2 ^ n) others.1 others.3 others.5 others.10 in
          let cut : leaves ≡ others.0 ++ others.1 = same ∙ others.6 in
          let counted : count ≡ length others.0 =
          count-left first (first + 2 ^ n) (first + 2 ^ n + 2 ^ n) count leaves others.0 others.1 lefts rights cut within before stop in
          let left : others.0 ≡ take count leaves =
          sym (ap₂ (λ (i : ℕ) (l : Leaves). take i l) counted cut ∙ take-append_seam others.0 others.1) in
          let right : others.1 ≡ drop count leaves =
          sym (ap₂ (λ (i : ℕ) (l : Leaves). drop i l) counted cut ∙ drop-append_seam others.0 others.1) in (
            others.2,
            others.3,
            others.4,
            others.5,
            others.7,
            subst (λ (l : Leaves). Opens hash n first l others.2 others.4) left others.9,
            subst (λ (l : Leaves). Opens hash n (first + 2 ^ n) l others.3 others.5) right others.10,
          )

  -- so where the left half is not opened nothing is
  pub no-left : NoFrontOpens hash n first (take count leaves) nodes → NoFrontOpens hash levels first leaves nodes
  no-left none front rest digest cut opens =
      let parts = halves front digest opens in
      none parts.0 (parts.1 ++ rest) parts.2
      (cut ∙ ap (λ (l : List (List ℕ)). l ++ rest) parts.4 ∙ append_assoc parts.0 parts.1 rest) parts.5

  -- nor where the right half is not, by the nodes behind those of the left half
  pub no-right : (used : ℕ) (digest : List ℕ) → Opens hash n first (take count leaves) (take used nodes) digest
      → NoFrontOpens hash n (first + 2 ^ n) (drop count leaves) (drop used nodes) → NoFrontOpens hash levels first leaves nodes
  no-right used left_digest left none front rest digest cut opens =
      let parts = halves front digest opens in
      let lefts =
      opens-unique hash n first (take count leaves) (take used nodes) parts.0 (drop used nodes) (parts.1 ++ rest) left_digest parts.2 left parts.5
      (take-append-drop used nodes ∙ cut ∙ ap (λ (l : List (List ℕ)). l ++ rest) parts.4 ∙ append_assoc parts.0 parts.1 rest) in
      none parts.1 rest parts.3 lefts.2 parts.6

  -- and both halves are opened by the nodes of both
  pub both-halves : (used more : ℕ) (left_digest right_digest : List ℕ)
      → Opens hash n first (take count leaves) (take used nodes) left_digest
      → Opens hash n (first + 2 ^ n) (drop count leaves) (take more (drop used nodes)) right_digest
      → Opens hash levels first leaves (take (used + more) nodes) (hash (node_input left_digest right_digest))
  both-halves used more left_digest right_digest left right =
      opens-halves hash n levels first leaves (take count leaves) (drop count leaves) (take (used + more) nodes) (take used nodes)
      (take more (drop used nodes)) left_digest right_digest is some (sym (take-append-drop count leaves)) (take-add used more nodes) left right

-- ---- all nodes

-- what opens the leaves by the first nodes opens them by all exactly where these are all, and to this root where that is the digest
pub opens-exactly : (hash : List ℕ → List ℕ) (n first used : ℕ) (leaves : Leaves) (nodes : List (List ℕ)) (digest root : List ℕ)
    → used ≤ length nodes → Opens hash n first leaves (take used nodes) digest
    → ((used ≡ length nodes) × (digest ≡ root)) ↔ Opens hash n first leaves nodes root
opens-exactly hash n first used leaves nodes digest root few opens = (
  (λ same.
      subst (λ (l : List (List ℕ)). Opens hash n first leaves l root) (take_all used nodes (omega (arith, same.0)))
      (subst (λ (d : List ℕ). Opens hash n first leaves (take used nodes) d) same.1 opens)),
  (λ others.
      let one =
      opens-unique hash n first leaves (take used nodes) nodes (drop used nodes) [] digest root opens others
      (take-append-drop used nodes ∙ sym (append-nil nodes)) in
      let count = ap length one.0 in
      let long = length-take-le used nodes few in
      (omega (arith, count, long), one.1)),
)

-- ---- what the verifier has

-- what holds holds where there is no value
pub anyway : {T : Type 0} {P : Type 0} (option : Option T) → P → IfNone option P
anyway None is = is
anyway (Some x) is = tt

-- the rest of a list is all of it behind the first
pub rest-is : {X : Type 0} (n : ℕ) (l : List X) → take (length l - n) (drop n l) ≡ drop n l
rest-is n l = let count = length-drop n l in take_all (length l - n) (drop n l) (omega (arith, count))

-- the first of some nodes
pub first-node : (nodes : List (List ℕ)) → 0 < length nodes → take 1 nodes ≡ get_or nodes 0 [] ∷ []
first-node [] some = absurd (omega (arith, some))
first-node (node ∷ nodes) some = refl

-- a power of two is twice the one before
pub half-power : (n : ℕ) → 0 < n → 2 ^ n ≡ 2 ^ (n - 1) + 2 ^ (n - 1)
half-power zero some = absurd (omega (arith, some))
half-power (suc n) some =
    let twice = two-pow-succ n in
    let back : n ≡ suc n - 1 = omega arith in
    subst (λ (m : ℕ). 2 ^ suc n ≡ 2 ^ m + 2 ^ m) back (omega (arith, twice))

-- `Opens`, with its arguments replaced by equal ones
pub opens-as : (hash : List ℕ → List ℕ) (n first other : ℕ) (leaves others : Leaves) (nodes more : List (List ℕ)) (digest : List ℕ)
    → first ≡ other → leaves ≡ others → nodes ≡ more → Opens hash n first leaves nodes digest → Opens hash n other others more digest
opens-as hash n first other leaves others nodes more digest place same sent opens =
    subst (λ (p : ℕ). Opens hash n p others more digest) place
    (subst (λ (l : Leaves). Opens hash n first l more digest) same
    (subst (λ (l : List (List ℕ)). Opens hash n first leaves l digest) sent opens))

pub none-as : (hash : List ℕ → List ℕ) (n first other : ℕ) (leaves others : Leaves) (nodes more : List (List ℕ))
    → first ≡ other → leaves ≡ others → nodes ≡ more → NoFrontOpens hash n first leaves nodes → NoFrontOpens hash n other others more
none-as hash n first other leaves others nodes more place same sent none =
    subst (λ (p : ℕ). NoFrontOpens hash n p others more) place
    (subst (λ (l : Leaves). NoFrontOpens hash n first l more) same
    (subst (λ (l : List (List ℕ)). NoFrontOpens hash n first leaves l) sent none))

-- the verifier's two tests
pub opens-verdict : (hash : List ℕ → List ℕ) (n first used : ℕ) (leaves : Leaves) (nodes : List (List ℕ)) (digest root : List ℕ)
    (is all same : Bool) → used ≤ length nodes → Opens hash n first leaves (take used nodes) digest
    → (IsTrue is ↔ (IsTrue all × IsTrue same)) → (IsTrue all ↔ (used ≡ length nodes)) → (IsTrue same ↔ (digest ≡ root))
    → IsTrue is ↔ Opens hash n first leaves nodes root
opens-verdict hash n first used leaves nodes digest root is all same few opens says count ends =
    let exactly = opens-exactly hash n first used leaves nodes digest root few opens in (
      (λ yes. let tests = says.0 yes in exactly.0 (count.0 tests.0, ends.0 tests.1)),
      (λ others. let tests = exactly.1 others in says.1 (count.1 tests.0, ends.1 tests.1)),
    )

-- and where no first nodes open the leaves
pub opens-refused : {T : Type 0} (hash : List ℕ → List ℕ) (n first : ℕ) (leaves : Leaves) (nodes : List (List ℕ)) (root : List ℕ) (found : Option T)
    → found ≡ None → IfNone found (NoFrontOpens hash n first leaves nodes) → IsTrue false ↔ Opens hash n first leaves nodes root
opens-refused hash n first leaves nodes root found is none = (
  (λ yes. absurd (false≢true yes)),
  (λ opens. absurd (subst (λ o. IfNone o (NoFrontOpens hash n first leaves nodes)) is none nodes [] root (sym (append-nil nodes)) opens)),
)
