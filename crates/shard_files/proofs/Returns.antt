-- The files of shards, as far as they are left, give the file that was split.
use Rattle.std.proofs.Common.{◌≡◌, inl, inr, ℕ, ◌+◌, ◌*◌, ◌<◌, false, List, [], ◌++◌, get_or, take, drop, Some, refl, sym, ◌∙◌, ap, subst, arith}
use Rattle.std.proofs.Math.ListN.{get_or-eq_default}
use Rattle.std.proofs.lemmas.Bool.{cases_lt, true≢false}
use Rattle.std.proofs.lemmas.List.{drop-drop, drop_at, take_at}
use Rattle.reed_solomon.specs.Shards.{IsPresent}
use Rattle.shard_files.specs.Files.{AreShards, pieces_from, shard_file}
use Rattle.shard_files.specs.Groups.{GivesPiece, GivesStripe, Holdings, numbered, shard_at}
use Rattle.shard_files.specs.Heads.{head_file, IsOrigin}
use Rattle.shard_files.specs.RoundTrip.{DamageIsSeen, EnoughAreLeft, ShardsReturn}
use Rattle.shard_files.specs.Stripes.{IsPossible, piece_start, shard_total, stripe_content, stripe_total}
use Rattle.shard_files.specs.declared.head.Origin.{Origin}
use Rattle.shard_files.proofs.Heads.{bytes_count}
use Rattle.shard_files.proofs.Written.{piece_of, piece_there}

module _ (origin : Origin) (content : List ℕ) (wholes : List (List ℕ)) (files : Holdings) (possible : IsPossible origin) (fits : IsOrigin origin)
    (are : AreShards origin content wholes)
  where
    pub head_there : (index : ℕ) → index < shard_total origin → take 104 (shard_file origin wholes index) ≡ head_file (numbered origin index)
    unfolding shard_file
    head_there index inside =
        take_at (head_file (numbered origin index)) (pieces_from (numbered origin index) 0 wholes) 104
        (bytes_count (head_file (numbered origin index)) (numbered origin index) refl fits.identity_size)

    pub piece_at : (index stripe : ℕ) → index < shard_total origin → stripe < stripe_total origin
        → take (32 + origin.size) (drop (piece_start origin stripe) (shard_file origin wholes index))
        ≡ piece_of (numbered origin index) stripe (get_or wholes stripe [])
    unfolding shard_file
    piece_at index stripe inside within =
        let head = numbered origin index in
        let pieces = pieces_from head 0 wholes in
        let m = 32 + origin.size in
        let count = bytes_count (head_file head) head refl fits.identity_size in
        ap (λ (n : ℕ). take m (drop n (head_file head ++ pieces))) (turned (stripe * m))
        ∙ ap (take m) (sym (drop-drop (stripe * m) 104 (head_file head ++ pieces)))
        ∙ ap (λ (l : List ℕ). take m (drop (stripe * m) l)) (drop_at (head_file head) pieces 104 count)
        ∙ piece_there head (shard_total origin) inside 0 wholes stripe (subst (λ (n : ℕ). stripe < n) (sym are.count_is) within)
        (λ s below. are.long s (subst (λ (n : ℕ). s < n) are.count_is below))
        ∙ ap (λ (n : ℕ). piece_of head n (get_or wholes stripe [])) (zero_more stripe)
      where
        turned : (n : ℕ) → 104 + n ≡ 104 + n
        turned n = refl

        zero_more : (n : ℕ) → 0 + n ≡ n
        zero_more n = omega arith

    inside_of : (stripe : ℕ) (enough : EnoughAreLeft origin wholes files stripe) (index : ℕ) → IsPresent enough.left index → index < shard_total origin
    inside_of stripe enough index has =
        elim (cases_lt index (shard_total origin)) [
          | inl below ↦ below
          | inr above ↦ absurd (true≢false (sym has ∙ get_or-eq_default enough.left false (omega (arith, above, enough.left_long))))
        ]

    pub stripe_given : (stripe : ℕ) → stripe < stripe_total origin → EnoughAreLeft origin wholes files stripe → DamageIsSeen origin wholes files
        → GivesStripe origin files stripe (stripe_content origin stripe content) (get_or wholes stripe [])
    stripe_given stripe within enough seen =
        record {
          split = are.split stripe within;
          true_ones = λ index place shard inside at sized given. seen stripe index place shard within inside at sized given;
          given = record {
            long = are.long stripe within;
            left = enough.left;
            left_long = enough.left_long;
            enough = enough.enough;
            there = there;
          };
        }
      where
        there : (index : ℕ) → IsPresent enough.left index → (place : ℕ) × (place < files.places)
            × GivesPiece files place (numbered origin index) stripe (shard_at origin.size (get_or wholes stripe []) index)
        there index has =
            let inside = inside_of stripe enough index has in
            let is = enough.there index inside has in (
              is.0,
              is.1,
              (is.2 ∙ ap (λ (l : List ℕ). Some l) (head_there index inside), is.3 ∙ ap (λ (l : List ℕ). Some l) (piece_at index stripe inside within)),
            )

pub shards_return_law : ShardsReturn
shards_return_law origin content wholes files possible fits are enough seen =
    record {
      length_is = are.length_is;
      identity_is = are.identity_is;
      stripes = λ stripe within. stripe_given origin content wholes files possible fits are stripe within (enough stripe within) seen;
    }
