-- The file of a shard: it grows by a piece with each stripe, and each piece stands at its place.
use Rattle.std.proofs.Common.{◌≡◌, ◌≢◌, inl, inr, ℕ, zero, suc, ◌+◌, ◌*◌, ◌<◌, ◌≤◌, min, Bool, true, false, List, [], ◌∷◌, ◌++◌, length, get_or, take, drop, refl, sym, ◌∙◌, ap, ap₂, subst, arith}
use Rattle.std.proofs.Math.Nat.{mul-le-mul_right}
use Rattle.std.proofs.Math.Seq.{get_or-append_seam}
use Rattle.std.proofs.lemmas.Bool.{cases_lt, true≢false}
use Rattle.std.proofs.lemmas.List.{append_assoc, drop-append-le, drop-drop, drop_at, get_or_append_left, length-append, length-drop, take-append-le, take_at}
use Rattle.sha2.specs.Sha256.{sha256}
use Rattle.shard_files.specs.Files.{AreStripes, pieces_from, shard_file}
use Rattle.shard_files.specs.Groups.{numbered, shard_at}
use Rattle.shard_files.specs.Heads.{head_digest, head_file}
use Rattle.shard_files.specs.Pieces.{piece_bytes}
use Rattle.shard_files.specs.Stripes.{IsPossible, shard_total, stripe_content, stripe_length, stripe_total, stripe_width}
use Rattle.shard_files.specs.declared.head.Head.{Head}
use Rattle.shard_files.specs.declared.head.Origin.{Origin}
use Rattle.shard_files.proofs.Groups.{shard_long}
use Rattle.shard_files.proofs.Joined.{joined_length, none_long, take_all, whole_length}
use Rattle.shard_files.proofs.Pieces.{piece_size}
use Rattle.shard_files.proofs.Positions.{begins, ends, ends_at}

-- the piece of a stripe, by all shards of it
abbrev pub piece_of : Head → ℕ → List ℕ → List ℕ
piece_of head stripe whole = piece_bytes (head_digest head) stripe (shard_at head.origin.size whole head.index)

append_none : (l : List ℕ) → l ++ [] ≡ l
append_none [] = refl
append_none (x ∷ l) = ap (λ (r : List ℕ). x ∷ r) (append_none l)

pub pieces_more : (head : Head) (stripe : ℕ) (wholes : List (List ℕ)) (whole : List ℕ)
    → pieces_from head stripe (wholes ++ whole ∷ []) ≡ pieces_from head stripe wholes ++ piece_of head (stripe + length wholes) whole
pieces_more head stripe [] whole = append_none (piece_of head stripe whole) ∙ ap (λ (n : ℕ). piece_of head n whole) (omega arith)
pieces_more head stripe (first ∷ wholes) whole =
    ap (λ (l : List ℕ). piece_of head stripe first ++ l) (pieces_more head (stripe + 1) wholes whole)
    ∙ sym (append_assoc (piece_of head stripe first) (pieces_from head (stripe + 1) wholes) (piece_of head (stripe + 1 + length wholes) whole))
    ∙ ap (λ (n : ℕ). piece_of head stripe first ++ pieces_from head (stripe + 1) wholes ++ piece_of head n whole) (omega arith)

module _ (head : Head) (total : ℕ) (inside : head.index < total) where
  piece_long : (stripe : ℕ) (whole : List ℕ) → length whole ≡ total * head.origin.size → length (piece_of head stripe whole) ≡ 32 + head.origin.size
  piece_long stripe whole long =
      piece_size (head_digest head) stripe (shard_at head.origin.size whole head.index)
      ∙ ap (λ (n : ℕ). 32 + n) (shard_long head.origin.size total head.index whole long inside)

  -- the pieces end where their number says
  pub pieces_long : (stripe : ℕ) (wholes : List (List ℕ))
      → ((s : ℕ) → s < length wholes → length (get_or wholes s []) ≡ total * head.origin.size)
      → length (pieces_from head stripe wholes) ≡ length wholes * (32 + head.origin.size)
  pieces_long stripe [] long = omega arith
  pieces_long stripe (first ∷ wholes) long =
      let rest = pieces_long (stripe + 1) wholes (λ s below. long (suc s) (omega (arith, below))) in
      let one = piece_long stripe first (long zero (omega arith)) in
      let whole = length-append (piece_of head stripe first) (pieces_from head (stripe + 1) wholes) in
      whole ∙ ap₂ (λ (a b : ℕ). a + b) one rest ∙ more (length wholes) (32 + head.origin.size)
    where
      more : (n m : ℕ) → m + n * m ≡ suc n * m
      more n m = omega arith

  pub piece_there : (stripe : ℕ) (wholes : List (List ℕ)) (place : ℕ) → place < length wholes
      → ((s : ℕ) → s < length wholes → length (get_or wholes s []) ≡ total * head.origin.size)
      → take (32 + head.origin.size) (drop (place * (32 + head.origin.size)) (pieces_from head stripe wholes))
      ≡ piece_of head (stripe + place) (get_or wholes place [])
  piece_there stripe [] place below long = absurd (omega (arith, below))
  piece_there stripe (first ∷ wholes) zero below long =
      ap (λ (n : ℕ). take (32 + head.origin.size) (drop n (pieces_from head stripe (first ∷ wholes)))) (none (32 + head.origin.size))
      ∙ take_at (piece_of head stripe first) (pieces_from head (stripe + 1) wholes) (32 + head.origin.size)
      (piece_long stripe first (long zero (omega arith)))
      ∙ ap (λ (n : ℕ). piece_of head n first) (omega arith)
    where
      none : (m : ℕ) → zero * m ≡ 0
      none m = omega arith
  piece_there stripe (first ∷ wholes) (suc place) below long =
      let m = 32 + head.origin.size in
      let all = pieces_from head stripe (first ∷ wholes) in
      ap (λ (n : ℕ). take m (drop n all)) (more place m)
      ∙ ap (take m) (sym (drop-drop (place * m) m all))
      ∙ ap (λ (l : List ℕ). take m (drop (place * m) l))
      (drop_at (piece_of head stripe first) (pieces_from head (stripe + 1) wholes) m (piece_long stripe first (long zero (omega arith))))
      ∙ piece_there (stripe + 1) wholes place (omega (arith, below)) (λ s less. long (suc s) (omega (arith, less)))
      ∙ ap (λ (n : ℕ). piece_of head n (get_or wholes place [])) (omega arith)
    where
      more : (n m : ℕ) → suc n * m ≡ m + n * m
      more n m = omega arith

-- ---- stripe by stripe

-- the bytes of the first stripes stand in these shards: of each `are` is said
pub record AreSoFar (are : List ℕ → List ℕ → Type 0) (origin : Origin) (stripe : ℕ) (so_far : List ℕ) (wholes : List (List ℕ)) : Type 0 where
  pub long : length so_far ≡ min (stripe * stripe_width origin) origin.length
  pub count : length wholes ≡ stripe
  pub split : (s : ℕ) → s < stripe → are (stripe_content origin s so_far) (get_or wholes s [])
  pub whole_long : (s : ℕ) → s < stripe → length (get_or wholes s []) ≡ shard_total origin * origin.size

pub split_none : (are : List ℕ → List ℕ → Type 0) (origin : Origin) → AreSoFar are origin 0 [] []
split_none are origin =
    record {
      long = none_long (stripe_width origin) origin.length;
      count = refl;
      split = λ s below. absurd (omega (arith, below));
      whole_long = λ s below. absurd (omega (arith, below));
    }

-- what is said of the shards of each stripe is said once those of the next stand behind them
pub each_more : (says : ℕ → List ℕ → Type 0) (wholes : List (List ℕ)) (whole : List ℕ) (stripe : ℕ) → length wholes ≡ stripe
    → ((s : ℕ) → s < stripe → says s (get_or wholes s [])) → says stripe whole
    → (s : ℕ) → s < stripe + 1 → says s (get_or (wholes ++ whole ∷ []) s [])
each_more says wholes whole stripe count before now s below =
    elim (cases_lt s stripe) [
      | inl less ↦ subst (says s) (sym (get_or_append_left wholes (whole ∷ []) [] s (omega (arith, less, count)))) (before s less)
      | inr more ↦
          let same : stripe ≡ s = omega (arith, more, below) in
          subst (λ (n : ℕ). says n (get_or (wholes ++ whole ∷ []) n [])) same (subst (says stripe) (sym new) now)
    ]
  where
    new : get_or (wholes ++ whole ∷ []) stripe [] ≡ whole
    new = ap (λ (n : ℕ). get_or (wholes ++ whole ∷ []) n []) (sym count) ∙ get_or-append_seam wholes whole [] []

-- what stands before its end of a list is as it was once more stands behind it
part_before : (from count : ℕ) (a b : List ℕ) → from + count ≤ length a → take count (drop from (a ++ b)) ≡ take count (drop from a)
part_before from count a b room =
    ap (take count) (drop-append-le from a b (omega (arith, room)))
    ∙ take-append-le count (drop from a) b (omega (arith, room, length-drop from a))

-- and the bytes that are added are the next stripe
part_behind : (from count : ℕ) (a b : List ℕ) → length a ≡ from → length b ≤ count → take count (drop from (a ++ b)) ≡ b
part_behind from count a b long short =
    ap (take count) (drop_at a b from long) ∙ take_all count b short

module _ (are : List ℕ → List ℕ → Type 0) (origin : Origin) (possible : IsPossible origin) (stripe : ℕ) (within : stripe < stripe_total origin)
    (so_far bytes whole : List ℕ) (wholes : List (List ℕ)) (before : AreSoFar are origin stripe so_far wholes)
    (split : are bytes whole) (whole_long : length whole ≡ shard_total origin * origin.size)
    (long : length bytes ≡ stripe_length origin stripe)
  where
    -- the stripes before this one are whole
    full : length so_far ≡ stripe * stripe_width origin
    full = let early = begins origin possible stripe within in omega (arith, before.long, early)

    old_content : (s : ℕ) → s < stripe → stripe_content origin s (so_far ++ bytes) ≡ stripe_content origin s so_far
    old_content s less =
        let more = mul-le-mul_right (stripe_width origin) (next s stripe less) in
        part_before (s * stripe_width origin) (stripe_width origin) so_far bytes (omega (arith, more, full, step s (stripe_width origin)))
      where
        next : (a b : ℕ) → a < b → a + 1 ≤ b
        next a b h = omega (arith, h)

        step : (n w : ℕ) → (n + 1) * w ≡ n * w + w
        step n w = omega arith

    new_content : stripe_content origin stripe (so_far ++ bytes) ≡ bytes
    new_content =
        let least : stripe_length origin stripe ≤ stripe_width origin = omega arith in
        part_behind (stripe * stripe_width origin) (stripe_width origin) so_far bytes full (omega (arith, long, least))

    pub split_more : AreSoFar are origin (stripe + 1) (so_far ++ bytes) (wholes ++ whole ∷ [])
    split_more =
        record {
          long = joined_length stripe (stripe_width origin) origin.length so_far bytes before.long long;
          count = length-append wholes (whole ∷ []) ∙ ap (λ (n : ℕ). n + 1) before.count;
          split = each_more (λ s. are (stripe_content origin s (so_far ++ bytes))) wholes whole stripe before.count
              (λ s less. subst (λ (l : List ℕ). are l (get_or wholes s [])) (sym (old_content s less)) (before.split s less))
              (subst (λ (l : List ℕ). are l whole) (sym new_content) split);
          whole_long = each_more (λ _ l. length l ≡ shard_total origin * origin.size) wholes whole stripe before.count before.whole_long whole_long;
        }

    -- the file of a shard grows by its piece of the stripe
    pub file_more : (index : ℕ) → shard_file origin (wholes ++ whole ∷ []) index
        ≡ shard_file origin wholes index ++ piece_of (numbered origin index) stripe whole
    unfolding shard_file
    file_more index =
        let head = numbered origin index in
        ap (λ (l : List ℕ). head_file head ++ l) (pieces_more head 0 wholes whole)
        ∙ ap (λ (n : ℕ). head_file head ++ (pieces_from head 0 wholes ++ piece_of head n whole)) (zero_more (length wholes) ∙ before.count)
        ∙ sym (append_assoc (head_file head) (pieces_from head 0 wholes) (piece_of head stripe whole))
      where
        zero_more : (n : ℕ) → 0 + n ≡ n
        zero_more n = omega arith

-- the file of a shard of which no stripe was written is its head
pub file_none : (origin : Origin) (index : ℕ) → shard_file origin [] index ≡ head_file (numbered origin index)
unfolding shard_file
file_none origin index = append_none (head_file (numbered origin index))

-- once all stripes are split, the whole file is
pub split_all : (are : List ℕ → List ℕ → Type 0) (origin : Origin) (possible : IsPossible origin) (content : List ℕ) (wholes : List (List ℕ))
    (stripe : ℕ) → stripe_total origin ≤ stripe → stripe ≤ stripe_total origin → AreSoFar are origin stripe content wholes
    → sha256 content ≡ origin.identity → AreStripes are origin content wholes
split_all are origin possible content wholes stripe least most so_far named =
    let all : stripe ≡ stripe_total origin = omega (arith, least, most) in
    let done = subst (λ (n : ℕ). AreSoFar are origin n content wholes) all so_far in
    record {
      length_is = whole_length (stripe_total origin) (stripe_width origin) origin.length (length content) (ends origin possible) done.long;
      identity_is = named;
      count_is = done.count;
      split = done.split;
      long = done.whole_long;
    }

-- what was moved, once there are no more stripes, and has another digest, is as long as the origin says, and no file of it
pub moved_other : (are : List ℕ → List ℕ → Type 0) (origin : Origin) (possible : IsPossible origin) (moved : List ℕ → Type 0) (content : List ℕ)
    (wholes : List (List ℕ)) (stripe : ℕ) → stripe_total origin ≤ stripe → AreSoFar are origin stripe content wholes → moved content
    → (named : Bool) → (sha256 content ≡ origin.identity → named ≡ true) → named ≡ false
    → (other : List ℕ) × moved other × (length other ≡ origin.length) × (sha256 other ≢ origin.identity)
moved_other are origin possible moved content wholes stripe least so_far is named tells not = (
  content,
  is,
  whole_length stripe (stripe_width origin) origin.length (length content) (ends_at origin possible stripe least) so_far.long,
  λ same. true≢false (sym (tells same) ∙ not),
)
