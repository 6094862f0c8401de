use Rattle.std.proofs.Common.{◌≡◌, ◌+◌, ◌*◌, ◌^◌, ◌∷◌, ◌++◌, [], ℕ, List, map, length, slice_index, sym, ◌∙◌, ap, ap₂, subst, arith, rules}
use Rattle.std.specs.List.{range_with_len}
use Rattle.std.proofs.lemmas.List.FromFn.{map-range_with_len_more}
use Rattle.transcripts.specs.Commitments.{digest_at, root_of}
use Rattle.transcripts.specs.Openings.{leaves_at, Opens}
use Rattle.transcripts.proofs.OpeningTrees.{places-leaves, places-rows}
use Rattle.transcripts.proofs.merkle_tree.MerkleTree.open_many.Goals as goal

pub leaves-preserved : goal.leaves-preserved
leaves-preserved g c =
    let self = c.args.self.now in
    let places = c.args.places.now in
    let leaf : ℕ → ℕ × List ℕ = λ (k : ℕ). (slice_index places k, digest_at self (2 ^ self.depth + slice_index places k)) in
    c.in_ok-push.ensures.items
    ∙ ap₂ (λ (a : List (ℕ × List ℕ)) (d : List ℕ). a ++ (slice_index places c.leaves.index, d) ∷ []) c.leaves.invariant c.leaf_at-digest.ensures
    ∙ sym (map-range_with_len_more leaf 0 c.leaves.index c.leaves.index (omega arith))

pub push_nodes-requires : goal.push_nodes-requires
push_nodes-requires g c =
    let self = c.args.self.now in
    let places = c.args.places.now in
    let leaf : ℕ → ℕ × List ℕ = λ (k : ℕ). (slice_index places k, digest_at self (2 ^ self.depth + slice_index places k)) in
    let end : c.leaves.index ≡ length places = omega arith in
    let all = c.as_slice.ensures.value ∙ c.leaves.invariant ∙ ap (λ (n : ℕ). map leaf (range_with_len 0 n)) end in
    let are = places-leaves self places _ c.requires all in
    let few = self.few in
    let at : 1 * 2 ^ self.depth ≡ 2 ^ self.depth + 0 = omega arith in
    search rules

pub returns : goal.returns
returns g c = λ hash row holds.
    let self = c.args.self.now in
    let places = c.args.places.now in
    let leaf : ℕ → ℕ × List ℕ = λ (k : ℕ). (slice_index places k, digest_at self (2 ^ self.depth + slice_index places k)) in
    let end : c.leaves.index ≡ length places = omega arith in
    let all = c.as_slice.ensures.value ∙ c.leaves.invariant ∙ ap (λ (n : ℕ). map leaf (range_with_len 0 n)) end in
    let gained = c.in_ok-push_nodes.ensures in
    let sent : gained.0 ≡ c.push_nodes.new.nodes.items = sym (gained.1 ∙ ap (λ (l : List (List ℕ)). l ++ gained.0) c.new-nodes.ensures.items) in
    subst (λ (l : List (List ℕ)). Opens hash self.depth 0 (leaves_at hash places (λ (k : ℕ). row (slice_index places k))) l (root_of self)) sent
    (subst (λ (l : List (ℕ × List ℕ)). Opens hash self.depth 0 l gained.0 (root_of self))
    (places-rows self hash row places _ c.requires all holds) (gained.2 hash row holds))
