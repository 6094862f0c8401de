use Rattle.std.proofs.Common.{◌≡◌, ◌++◌, ◌∷◌, [], ℕ, List, map, length, slice_index, sym, ◌∙◌, ap, ap₂, subst, arith}
use Rattle.std.specs.List.{range_with_len}
use Rattle.std.specs.Prelude.{◌↔◌, IsTrue}
use Rattle.std.proofs.lemmas.List.FromFn.{map-range_with_len_more}
use Rattle.transcripts.specs.Commitments.{row_at}
use Rattle.transcripts.specs.MerkleTrees.{row_input}
use Rattle.transcripts.specs.Openings.{Opens}
use Rattle.transcripts.proofs.openings.verify_many.Goals as goal

pub leaves-preserved : goal.leaves-preserved
leaves-preserved g c =
    let hash = g.H.ByteHasher32.digest c.args.hasher.now in
    let leaf : ℕ → ℕ × List ℕ = λ (k : ℕ). (slice_index c.args.places.now k, hash (row_input (row_at c.args.size c.args.rows.now k))) in
    let digest = c.in_ok-digest.ensures ∙ ap (λ (r : List ℕ). hash (row_input r)) c.row_of.ensures in
    c.in_ok-push.ensures.items
    ∙ ap₂ (λ (a : List (ℕ × List ℕ)) (d : List ℕ). a ++ (slice_index c.args.places.now c.leaves.index, d) ∷ []) c.leaves.invariant digest
    ∙ sym (map-range_with_len_more leaf 0 c.leaves.index c.leaves.index (omega arith))

pub returns : goal.returns
returns g c =
    let hash = g.H.ByteHasher32.digest c.args.hasher.now in
    let leaf : ℕ → ℕ × List ℕ = λ (k : ℕ). (slice_index c.args.places.now k, hash (row_input (row_at c.args.size c.args.rows.now k))) in
    let end : c.leaves.index ≡ length c.args.places.now = omega arith in
    subst
    (λ (l : List (ℕ × List ℕ)). IsTrue c.opens_to-opens.result
    ↔ Opens hash c.args.commitment.depth 0 l c.args.nodes.now c.args.commitment.root)
    (c.as_slice.ensures.value ∙ c.leaves.invariant ∙ ap (λ (n : ℕ). map leaf (range_with_len 0 n)) end) c.opens_to-opens.ensures
