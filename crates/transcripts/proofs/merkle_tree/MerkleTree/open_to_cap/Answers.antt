use Rattle.std.proofs.Common.{◌≡◌, ◌++◌, ◌∷◌, [], ◌+◌, ◌-◌, ◌*◌, ◌/◌, ◌^◌, ◌<◌, ◌≤◌, ℕ, suc, List, refl, sym, ◌∙◌, ap, ap₂, subst, arith, lit<, length}
use Rattle.std.proofs.Math.Nat.{pow-le-pow_right, two-pow-succ}
use Rattle.std.proofs.lemmas.List.{append-nil, get_or_read, length-append}
use Rattle.std.proofs.lemmas.Nat.{shr-shr}
use Rattle.std.specs.Int.{to_le_bytes, w64}
use Rattle.std.specs.Prelude.{slice_index}
use Rattle.transcripts.specs.Commitments.{digest_at}
use Rattle.transcripts.specs.MerkleTrees.{ending, row_input}
use Rattle.transcripts.proofs.CapPaths.{cap-length, cap-root}
use Rattle.transcripts.proofs.Paths.{ending-none, sibling-lt, way_on}
use Rattle.transcripts.proofs.merkle_tree.MerkleTree.open_to_cap.Goals as goal

pub sibling_of-requires : goal.sibling_of-requires
sibling_of-requires g c =
    let few = c.args.self.now.few in
    let exponent : c.args.self.now.depth - c.levels.level ≤ 40 = omega (arith, few) in
    let power : 2 ^ (c.args.self.now.depth - c.levels.level) ≤ 2 ^ 40 = pow-le-pow_right (lit< tt) exponent in
    let high = c.levels.invariant.2 in
    omega (arith, power, high)

pub index-requires : goal.index-requires
index-requires g c =
    let self = c.args.self.now in
    let exponent : self.depth - c.levels.level ≤ self.depth = omega arith in
    let power : 2 ^ (self.depth - c.levels.level) ≤ 2 ^ self.depth = pow-le-pow_right (lit< tt) exponent in
    let below = sibling-lt c.levels.node c.sibling_of.result (2 ^ (self.depth - c.levels.level)) c.levels.invariant.2 c.sibling_of.ensures.even
    c.sibling_of.ensures.odd in
    let all = self.all in
    omega (arith, power, below, all)

pub levels-preserved : goal.levels-preserved
levels-preserved g c =
    let self = c.args.self.now in
    let node = c.levels.node in
    let sibling = c.sibling_of.result in
    let m = self.depth - (c.levels.level + 1) in
    let more : suc m ≡ self.depth - c.levels.level = omega arith in
    let within : suc m ≤ self.depth = omega (arith, more) in
    let twice = two-pow-succ m in
    let power : 2 ^ suc m ≡ 2 ^ (self.depth - c.levels.level) = ap (λ (e : ℕ). 2 ^ e) more in
    let low : 2 ^ suc m ≤ node = let is = c.levels.invariant.1 in omega (arith, power, is) in
    let high : node < 2 * 2 ^ suc m = let is = c.levels.invariant.2 in omega (arith, power, is) in
    let power_within : 2 ^ suc m ≤ 2 ^ self.depth = pow-le-pow_right (lit< tt) within in
    let below : sibling < 2 * 2 ^ suc m = sibling-lt node sibling (2 ^ suc m) high c.sibling_of.ensures.even c.sibling_of.ensures.odd in
    let inside : sibling < length self.nodes.items =
    let all = self.all in let counted = self.nodes.ok.0 in omega (arith, power_within, below, all, counted) in
    let read : c.index.result.now ≡ digest_at self sibling = get_or_read self.nodes.items sibling _ inside c.index.ensures [] in
    let pushed : c.levels.path.items ++ digest_at self sibling ∷ [] ≡ c.push.new.self.items =
    ap (λ (d : List ℕ). c.levels.path.items ++ d ∷ []) (sym read) ∙ sym c.in_ok-push.ensures.items in
    let total : length (c.levels.path.items ++ digest_at self sibling ∷ []) ≡ c.levels.level + 1 =
    let count = c.levels.invariant.0 in
    let longer = length-append c.levels.path.items (digest_at self sibling ∷ []) in
    omega (arith, count, longer) in (
      sym (ap length pushed) ∙ total,
      omega (arith, twice, low),
      omega (arith, twice, high),
      (let at = c.levels.invariant.3 in
          let half : c.args.index / 2 ^ (c.levels.level + 1) ≡ c.args.index / 2 ^ c.levels.level / 2 = sym (shr-shr c.args.index c.levels.level 1) in
          omega (arith, twice, power, at, half)),
      λ hash row tree rest.
          subst
          (λ (path : List (List ℕ)). ending hash c.args.index (hash (row_input (row c.args.index))) (path ++ rest)
          ≡ ending hash (node / 2 - 2 ^ m) (digest_at self (node / 2)) rest) pushed
          (way_on hash self.depth (digest_at self) tree.node m node sibling c.args.index (hash (row_input (row c.args.index)))
          c.levels.path.items within low high c.sibling_of.ensures.even c.sibling_of.ensures.odd
          (subst
          (λ (e : ℕ). (others : List (List ℕ))
          → ending hash c.args.index (hash (row_input (row c.args.index))) (c.levels.path.items ++ others)
          ≡ ending hash (node - 2 ^ e) (digest_at self node) others) (sym more) (c.levels.invariant.4 hash row tree))
          rest),
    )

pub returns-clause-rows : goal.returns-clause-rows
returns-clause-rows g c = λ hash row tree.
    let self = c.args.self.now in
    let last : c.levels.level ≡ c.args.levels = omega arith in
    let height : ℕ = self.depth - c.args.levels in
    let up : self.depth - c.levels.level ≡ height = ap (λ (n : ℕ). self.depth - n) last in
    let leaf : List ℕ = hash (row_input (row c.args.index)) in
    let at : c.levels.node ≡ 2 ^ height + c.args.index / 2 ^ c.args.levels =
    c.levels.invariant.3 ∙ ap₂ (λ (h n : ℕ). 2 ^ h + c.args.index / 2 ^ n) up last in
    let few : c.args.index / 2 ^ c.args.levels < 2 ^ height =
    let high = c.levels.invariant.2 in let power = ap (λ (h : ℕ). 2 ^ h) up in omega (arith, high, at, power) in
    let place : c.levels.node - 2 ^ (self.depth - c.levels.level) ≡ c.args.index / 2 ^ c.args.levels =
    let power = ap (λ (h : ℕ). 2 ^ h) up in omega (arith, at, power) in
    let room : 2 * 2 ^ height ≤ length self.nodes.items =
    let all = self.all in let counted = self.nodes.ok.0 in
    let within : 2 ^ height ≤ 2 ^ self.depth = pow-le-pow_right (lit< tt) (omega arith) in omega (arith, all, counted, within) in
    record {
      within = omega (arith, few, cap-length self.nodes.items (2 ^ height) room);
      whole = c.levels.invariant.0 ∙ last;
      ends =
          sym (ap (ending hash c.args.index leaf) (append-nil c.levels.path.items)) ∙ c.levels.invariant.4 hash row tree []
          ∙ sym (ending-none hash (c.levels.node - 2 ^ (self.depth - c.levels.level)) (digest_at self c.levels.node) [] refl)
          ∙ ap (digest_at self) at ∙ sym (cap-root self.nodes.items (2 ^ height) (c.args.index / 2 ^ c.args.levels) few);
    }

pub returns-clause-words : goal.returns-clause-words
returns-clause-words g c = λ hash words tree. returns-clause-rows g c hash (λ i. to_le_bytes w64 (slice_index words i)) tree.over
