-- Openings of the same places have as many nodes.
use Rattle.std.proofs.Common.{◌≡◌, ℕ, zero, suc, ◌+◌, ◌^◌, List, [], ◌∷◌, length, map, refl, sym, ◌∙◌, ap, ap₂, arith}
use Rattle.std.specs.Prelude.{slice_index}
use Rattle.std.specs.List.{range_with_len}
use Rattle.std.proofs.lemmas.List.{length-append, map-append}
use Rattle.transcripts.specs.MerkleTrees.{row_input}
use Rattle.transcripts.specs.Openings.{Opens, OpeningsHaveOneCount, leaves_at}
use Rattle.transcripts.proofs.OpenedLeaves.{AreFrom, Leaves, cut-unique, opens-within}

-- a leaf without its digest
abbrev place : ℕ × List ℕ → ℕ × List ℕ
place leaf = (leaf.0, [])

bare-from : (low high : ℕ) (leaves : Leaves) → AreFrom low high leaves → AreFrom low high (map place leaves)
unfolding AreFrom
bare-from low high [] are = tt
bare-from low high (leaf ∷ leaves) are = (are.0, are.1, bare-from low high leaves are.2)

same-count : (hash other_hash : List ℕ → List ℕ) (n first : ℕ) (leaves others : Leaves) (nodes more : List (List ℕ)) (digest other : List ℕ)
    → map place leaves ≡ map place others → Opens hash n first leaves nodes digest → Opens other_hash n first others more other
    → length nodes ≡ length more
unfolding Opens
same-count hash other_hash zero first [] [] nodes more digest other same one two = ap length one ∙ sym (ap length two)
same-count hash other_hash (suc n) first [] [] nodes more digest other same one two = ap length one ∙ sym (ap length two)
same-count hash other_hash n first [] (x ∷ others) nodes more digest other same one two = let none = ap length same in absurd (omega (arith, none))
same-count hash other_hash n first (leaf ∷ leaves) [] nodes more digest other same one two = let none = ap length same in absurd (omega (arith, none))
same-count hash other_hash zero first (leaf ∷ leaves) (x ∷ others) nodes more digest other same one two = ap length one.2 ∙ sym (ap length two.2)
same-count hash other_hash (suc n) first (leaf ∷ leaves) (x ∷ others) nodes more digest other same one two =
    let cut =
    cut-unique first (first + 2 ^ n) (first + 2 ^ n + 2 ^ n) (map place one.0) (map place one.1) (map place two.0) (map place two.1)
    (bare-from first (first + 2 ^ n) one.0 (opens-within hash n first one.0 one.2 one.4 one.9))
    (bare-from (first + 2 ^ n) (first + 2 ^ n + 2 ^ n) one.1 (opens-within hash n (first + 2 ^ n) one.1 one.3 one.5 one.10))
    (bare-from first (first + 2 ^ n) two.0 (opens-within other_hash n first two.0 two.2 two.4 two.9))
    (bare-from (first + 2 ^ n) (first + 2 ^ n + 2 ^ n) two.1 (opens-within other_hash n (first + 2 ^ n) two.1 two.3 two.5 two.10))
    (sym (map-append place one.0 one.1) ∙ sym (ap (map place) one.6) ∙ same ∙ ap (map place) two.6 ∙ map-append place two.0 two.1) in
    ap length one.7 ∙ length-append one.2 one.3
    ∙ ap₂ (λ (a b : ℕ). a + b) (same-count hash other_hash n first one.0 two.0 one.2 two.2 one.4 two.4 cut.0 one.9 two.9)
    (same-count hash other_hash n (first + 2 ^ n) one.1 two.1 one.3 two.3 one.5 two.5 cut.1 one.10 two.10)
    ∙ sym (ap length two.7 ∙ length-append two.2 two.3)

-- leaves at places, without their digests, are the same whatever the rows are
bare-leaves : (hash : List ℕ → List ℕ) (places : List ℕ) (row : ℕ → List ℕ) (ks : List ℕ)
    → map place (map (λ k. (slice_index places k, hash (row_input (row k)))) ks) ≡ map (λ k. (slice_index places k, [])) ks
bare-leaves hash places row [] = refl
bare-leaves hash places row (k ∷ ks) = ap (λ (l : Leaves). (slice_index places k, []) ∷ l) (bare-leaves hash places row ks)

pub openings_have_one_count : OpeningsHaveOneCount
openings_have_one_count hash other_hash depth root other_root places row other nodes other_nodes =
    same-count hash other_hash depth 0 (leaves_at hash places row) (leaves_at other_hash places other) nodes other_nodes root other_root
    (bare-leaves hash places row (range_with_len 0 (length places)) ∙ sym (bare-leaves other_hash places other (range_with_len 0 (length places))))
