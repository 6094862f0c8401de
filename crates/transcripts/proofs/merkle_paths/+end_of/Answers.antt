use Rattle.std.proofs.Common.{◌≡◌, ◌+◌, ◌/◌, ◌<◌, ◌^◌, ℕ, List, length, drop, ◌∙◌, ap, arith}
use Rattle.std.proofs.lemmas.List.{length-drop}
use Rattle.std.proofs.lemmas.Nat.{shr-shr}
use Rattle.transcripts.specs.MerkleTrees.{ending}
use Rattle.transcripts.proofs.Paths.{ending-more, ending-none, rest-all}
use Rattle.transcripts.proofs.merkle_paths.+end_of.Goals as goal

pub returns-then-is_empty-clause-digest : goal.returns-then-is_empty-clause-digest
returns-then-is_empty-clause-digest g t c =
    ending-none (g.H.ByteHasher32.digest c.args.hasher.now) c.args.place c.args.digest c.args.path.now (search arith)

pub returns-clause-place : goal.returns-clause-place
returns-clause-place g t c =
    let some : 0 < length c.args.path.now = search arith in
    let all : 1 + length (drop 1 c.args.path.now) ≡ length c.args.path.now = omega (arith, length-drop 1 c.args.path.now) in
    c.end_of.ensures.place ∙ ap (λ (rest : List (List ℕ)). c.args.place / 2 / 2 ^ length rest) (rest-all c.args.path.now)
    ∙ shr-shr c.args.place 1 (length (drop 1 c.args.path.now))
    ∙ ap (λ (n : ℕ). c.args.place / 2 ^ n) all

pub returns-clause-digest : goal.returns-clause-digest
returns-clause-digest g t c =
    let some : 0 < length c.args.path.now = search arith in
    let hash = g.H.ByteHasher32.digest c.args.hasher.now in
    c.end_of.ensures.digest
    ∙ ap (ending hash (c.args.place / 2) c.pair_digest-above.result) (rest-all c.args.path.now)
    ∙ ap (λ (d : List ℕ). ending hash (c.args.place / 2) d (drop 1 c.args.path.now)) c.pair_digest-above.ensures
    ∙ ending-more hash c.args.place c.args.digest c.args.path.now some
