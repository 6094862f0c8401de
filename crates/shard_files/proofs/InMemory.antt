-- Files of shards in memory: what is added to them, what is lost of them, and that what is left gives the file.
use Rattle.std.proofs.Common.{◌≡◌, ◌≢◌, ◌⊎◌, inl, inr, ℕ, zero, suc, ◌+◌, ◌*◌, ◌<◌, ◌≤◌, Bool, true, false, not, List, [], ◌∷◌, ◌++◌, length, get_or, map, set, take, drop, Some, None, refl, sym, ◌∙◌, ap, ap₂, subst, arith}
use Rattle.std.specs.Prelude.{Vec}
use Rattle.std.specs.List.{count_by}
use Rattle.std.specs.declared.alloc.Global.{Global}
use Rattle.std.proofs.Math.ListN.{get_or-eq_default}
use Rattle.std.proofs.lemmas.Bool.{cases_lt, true≢false}
use Rattle.std.proofs.lemmas.Bool.Decides.{nat_tests}
use Rattle.std.proofs.lemmas.List.{length-append, length-map, take_at}
use Rattle.reed_solomon.specs.Shards.{IsPresent, present_count}
use Rattle.shard_files.specs.Files.{AppendsToEach, AppendsToLost, AreShards, IsAppended, pieces_from, shard_file}
use Rattle.shard_files.specs.Groups.{GivesPiece, Holdings, numbered, shard_at}
use Rattle.shard_files.specs.Heads.{head_digest, head_file, IsOrigin}
use Rattle.shard_files.specs.Memory.{AreEnough, AreFiles, AreFilesLeft, bytes_from, FewAreLost, file_of, holdings_of, LossesLeaveEnough}
use Rattle.shard_files.specs.Pieces.{piece_bytes}
use Rattle.shard_files.specs.RoundTrip.{DamageIsSeen, EnoughAreLeft, IsLeft}
use Rattle.shard_files.specs.Stripes.{IsPossible, piece_start, shard_total, stripe_total}
use Rattle.shard_files.specs.declared.head.Origin.{Origin}
use Rattle.shard_files.proofs.Groups.{numbered_fits, same_bytes, same_or_not}
use Rattle.shard_files.proofs.Heads.{bytes_count, same_index}
use Rattle.shard_files.proofs.Joined.{take_all}
use Rattle.shard_files.proofs.Pieces.{piece_rest}
use Rattle.shard_files.proofs.PresentCounts.{with_one, without}
use Rattle.shard_files.proofs.Returns.{head_there, piece_at}
use Rattle.shard_files.proofs.ShardPlaces.{shard_room}
use Rattle.shard_files.proofs.Written.{piece_of, pieces_long}

-- ---- files by their numbers

pub file_beyond : (files : List (Vec ℕ Global)) (index : ℕ) → length files ≤ index → file_of files index ≡ []
file_beyond [] index all = refl
file_beyond (file ∷ files) zero all = absurd (omega (arith, all))
file_beyond (file ∷ files) (suc index) all = file_beyond files index (omega (arith, all))

pub file_at : (files : List (Vec ℕ Global)) (index : ℕ) (file : Vec ℕ Global) → index < length files
    → (get_or files index file).items ≡ file_of files index
file_at [] index file below = absurd (omega (arith, below))
file_at (first ∷ files) zero file below = refl
file_at (first ∷ files) (suc index) file below = file_at files index file (omega (arith, below))

-- what is read of files at a place, by the bytes of the file that is there
pub held-reads : (held : Holdings) (files : List (Vec ℕ Global)) (place start count : ℕ) (file : List ℕ) → held ≡ holdings_of files
    → file ≡ file_of files place → held.reads place start count ≡ bytes_from file start count
held-reads held files place start count file holds is =
    ap (λ (h : Holdings). h.reads place start count) holds ∙ ap (λ (l : List ℕ). bytes_from l start count) (sym is)

pub file_set : (files : List (Vec ℕ Global)) (index : ℕ) (file : Vec ℕ Global) → index < length files
    → file_of (set files index file) index ≡ file.items
file_set [] index file below = absurd (omega (arith, below))
file_set (first ∷ files) zero file below = refl
file_set (first ∷ files) (suc index) file below = file_set files index file (omega (arith, below))

pub file_others : (files : List (Vec ℕ Global)) (index other : ℕ) (file : Vec ℕ Global) → other ≢ index
    → file_of (set files index file) other ≡ file_of files other
file_others [] index other file apart = refl
file_others (first ∷ files) zero zero file apart = absurd (apart refl)
file_others (first ∷ files) zero (suc other) file apart = refl
file_others (first ∷ files) (suc index) zero file apart = refl
file_others (first ∷ files) (suc index) (suc other) file apart = file_others files index other file (λ same. apart (ap suc same))

-- one more file with no bytes
pub file_push : (files : List (Vec ℕ Global)) (file : Vec ℕ Global) → file.items ≡ [] → ((index : ℕ) → file_of files index ≡ [])
    → (index : ℕ) → file_of (files ++ file ∷ []) index ≡ []
file_push [] file none all zero = none
file_push [] file none all (suc index) = refl
file_push (first ∷ files) file none all zero = all zero
file_push (first ∷ files) file none all (suc index) = file_push files file none (λ i. all (suc i)) index

-- a file that grew
pub file_grown : (files : List (Vec ℕ Global)) (index : ℕ) (file : Vec ℕ Global) (bytes : List ℕ) → index < length files
    → file.items ≡ file_of files index ++ bytes → IsAppended index bytes (file_of files) (file_of (set files index file))
file_grown files index file bytes below is =
    record { grown = file_set files index file below ∙ is; others = λ other apart. file_others files index other file apart }

-- ---- files that are lost, one after the other

-- of the first so many files those have no bytes whose flag is set, and all others are as they were
pub record LosesBelow (count : ℕ) (lost : List Bool) (before now : List (Vec ℕ Global)) : Type 0 where
  pub long : length now ≡ length before
  pub gone : (index : ℕ) → index < count → get_or lost index false ≡ true → file_of now index ≡ []
  pub stays : (index : ℕ) → (get_or lost index false ≡ false) ⊎ (count ≤ index) → file_of now index ≡ file_of before index

pub loses_none : (lost : List Bool) (before : List (Vec ℕ Global)) → LosesBelow 0 lost before before
loses_none lost before = record { long = refl; gone = λ index below is. absurd (omega (arith, below)); stays = λ index other. refl }

pub loses_more : (count : ℕ) (lost : List Bool) (before now next : List (Vec ℕ Global)) (is_lost : Bool) → is_lost ≡ get_or lost count false
    → LosesBelow count lost before now → length next ≡ length now → (is_lost ≡ true → file_of next count ≡ [])
    → (is_lost ≡ false → file_of next count ≡ file_of now count)
    → ((other : ℕ) → other ≢ count → file_of next other ≡ file_of now other) → LosesBelow (count + 1) lost before next
loses_more count lost before now next is_lost flag so_far long empties leaves others =
    record { long = long ∙ so_far.long; gone = gone; stays = stays }
  where
    gone : (index : ℕ) → index < count + 1 → get_or lost index false ≡ true → file_of next index ≡ []
    gone index below is =
        elim (cases_lt index count) [
          | inl less ↦ others index (omega (arith, less)) ∙ so_far.gone index less is
          | inr more ↦
              let same : index ≡ count = omega (arith, more, below) in
              ap (file_of next) same ∙ empties (flag ∙ ap (λ (n : ℕ). get_or lost n false) (sym same) ∙ is)
        ]

    stays : (index : ℕ) → (get_or lost index false ≡ false) ⊎ (count + 1 ≤ index) → file_of next index ≡ file_of before index
    stays index other =
        elim other [
          | inr above ↦ others index (omega (arith, above)) ∙ so_far.stays index (inr (omega (arith, above)))
          | inl left ↦ elim (same_or_not index count) [
            | inl same ↦
                ap (file_of next) same ∙ leaves (flag ∙ ap (λ (n : ℕ). get_or lost n false) (sym same) ∙ left)
                ∙ ap (file_of now) (sym same) ∙ so_far.stays index (inl left)
            | inr apart ↦ others index apart ∙ so_far.stays index (inl left)
          ]
        ]

-- once all were looked at
pub loses_all : (count : ℕ) (lost : List Bool) (before now : List (Vec ℕ Global)) → LosesBelow count lost before now → length before ≤ count
    → (index : ℕ) → get_or lost index false ≡ true → file_of now index ≡ []
loses_all count lost before now done all index is =
    elim (cases_lt index count) [
      | inl below ↦ done.gone index below is
      | inr above ↦ file_beyond now index (omega (arith, above, all, done.long))
    ]

-- ---- parts of files

pub bytes_there : (file : List ℕ) (start count : ℕ) → start + count ≤ length file
    → bytes_from file start count ≡ Some (take count (drop start file))
bytes_there file start count room = grind (arith, nat_tests)

some_none : (bytes : List ℕ) → None ≡ Some bytes → ⊥
some_none bytes same = cc

-- ---- flags

-- a flag is set or not
flag_is : (flag : Bool) → (flag ≡ true) ⊎ (flag ≡ false)
flag_is true = inl refl
flag_is false = inr refl

-- those that are not set are the others
flags_count : (lost : List Bool) → present_count (map not lost) + count_by (λ is_lost. is_lost) lost ≡ length lost
flags_count [] = refl
flags_count (true ∷ rest) = let others = flags_count rest in omega (arith, others, without (map not rest), with_one rest)
flags_count (false ∷ rest) = let others = flags_count rest in omega (arith, others, with_one (map not rest), without rest)

flag_left : (lost : List Bool) (index : ℕ) → IsPresent (map not lost) index → get_or lost index false ≡ false
flag_left [] index has = refl
flag_left (true ∷ rest) zero has = absurd (true≢false (sym has))
flag_left (false ∷ rest) zero has = refl
flag_left (flag ∷ rest) (suc index) has = flag_left rest index has

-- ---- files of which some are lost

module _ (origin : Origin) (content : List ℕ) (wholes : List (List ℕ)) (files : List (Vec ℕ Global)) (possible : IsPossible origin)
    (fits : IsOrigin origin) (are : AreShards origin content wholes)
  where
    -- how long a shard's file is
    file_long : (index : ℕ) → index < shard_total origin
        → length (shard_file origin wholes index) ≡ 104 + stripe_total origin * (32 + origin.size)
    unfolding shard_file
    file_long index inside =
        let head = numbered origin index in
        length-append (head_file head) (pieces_from head 0 wholes)
        ∙ ap₂ (λ (a b : ℕ). a + b) (bytes_count (head_file head) head refl fits.identity_size)
        (pieces_long head (shard_total origin) inside 0 wholes (λ s below. are.long s (subst (λ (n : ℕ). s < n) are.count_is below))
        ∙ ap (λ (n : ℕ). n * (32 + origin.size)) are.count_is)

    -- what is read of a file that is as it was written
    module _ (index : ℕ) (inside : index < shard_total origin) (is : file_of files index ≡ shard_file origin wholes index) where
      there : index < length files
      there =
          elim (cases_lt index (length files)) [
            | inl below ↦ below
            | inr above ↦ absurd (omega (arith, ap length (sym is ∙ file_beyond files index above), file_long index inside))
          ]

      reads_head : bytes_from (file_of files index) 0 104 ≡ Some (take 104 (shard_file origin wholes index))
      reads_head =
          ap (λ (l : List ℕ). bytes_from l 0 104) is
          ∙ bytes_there (shard_file origin wholes index) 0 104 (omega (arith, file_long index inside))

      reads_piece : (stripe : ℕ) → stripe < stripe_total origin → bytes_from (file_of files index) (piece_start origin stripe) (32 + origin.size)
          ≡ Some (take (32 + origin.size) (drop (piece_start origin stripe) (shard_file origin wholes index)))
      reads_piece stripe within =
          let room = shard_room stripe (stripe_total origin) (32 + origin.size) (stripe_total origin * (32 + origin.size)) within refl in
          ap (λ (l : List ℕ). bytes_from l (piece_start origin stripe) (32 + origin.size)) is
          ∙ bytes_there (shard_file origin wholes index) (piece_start origin stripe) (32 + origin.size)
          (omega (arith, room, file_long index inside))

      left_there : (stripe : ℕ) → stripe < stripe_total origin → IsLeft origin wholes (holdings_of files) stripe index
      left_there stripe within = (index, there, reads_head, reads_piece stripe within)

    -- what such a file gives as a shard is the shard that it was written of
    true_piece : (place : ℕ) (own : place < shard_total origin) (is : file_of files place ≡ shard_file origin wholes place)
        (stripe index : ℕ) (shard : List ℕ) → stripe < stripe_total origin → index < shard_total origin
        → GivesPiece (holdings_of files) place (numbered origin index) stripe shard
        → shard ≡ shard_at origin.size (get_or wholes stripe []) index
    true_piece place own is stripe index shard within inside given =
        sym (piece_rest (head_digest (numbered origin index)) stripe shard) ∙ ap (drop 32) pieces
        ∙ piece_rest (head_digest (numbered origin place)) stripe (shard_at origin.size (get_or wholes stripe []) place)
        ∙ ap (shard_at origin.size (get_or wholes stripe [])) (sym same)
      where
        heads : head_file (numbered origin index) ≡ head_file (numbered origin place)
        heads =
            same_bytes (head_file (numbered origin index)) (head_file (numbered origin place))
            (sym given.0 ∙ reads_head place own is
            ∙ ap (λ (l : List ℕ). Some l) (head_there origin content wholes (holdings_of files) possible fits are place own))

        same : index ≡ place
        same =
            same_index (numbered origin index) (numbered origin place) (numbered_fits origin fits possible.few index inside)
            (numbered_fits origin fits possible.few place own) heads

        pieces : piece_bytes (head_digest (numbered origin index)) stripe shard ≡ piece_of (numbered origin place) stripe (get_or wholes stripe [])
        pieces =
            same_bytes (piece_bytes (head_digest (numbered origin index)) stripe shard)
            (piece_of (numbered origin place) stripe (get_or wholes stripe []))
            (sym given.1 ∙ reads_piece place own is stripe within
            ∙ ap (λ (l : List ℕ). Some l) (piece_at origin content wholes (holdings_of files) possible fits are place stripe own within))

    -- and one with no bytes gives none
    gives_none : (place index stripe : ℕ) (shard : List ℕ) → file_of files place ≡ []
        → GivesPiece (holdings_of files) place (numbered origin index) stripe shard → ⊥
    gives_none place index stripe shard is given =
        some_none (head_file (numbered origin index)) (sym (ap (λ (l : List ℕ). bytes_from l 0 104) is) ∙ given.0)

    module _ (lost : List Bool) (left : AreFilesLeft origin wholes lost files) where
      enough_left : (stripe : ℕ) → stripe < stripe_total origin → EnoughAreLeft origin wholes (holdings_of files) stripe
      enough_left stripe within =
          record {
            left = map not lost;
            left_long = length-map lost not ∙ left.few.flags;
            enough = omega (arith, flags_count lost, left.few.flags, left.few.few);
            there = λ index inside has. left_there index inside (left.left index inside (flag_left lost index has)) stripe within;
          }

      damage_seen : DamageIsSeen origin wholes (holdings_of files)
      damage_seen stripe index place shard within inside at sized given =
          elim (cases_lt place (shard_total origin)) [
            | inr above ↦ absurd (gives_none place index stripe shard (left.others place above) given)
            | inl own ↦ elim (flag_is (get_or lost place false)) [
              | inl gone ↦ absurd (gives_none place index stripe shard (left.gone place gone) given)
              | inr stays ↦ true_piece place own (left.left place own stays) stripe index shard within inside given
            ]
          ]

      pub losses_leave : AreEnough origin wholes (holdings_of files)
      losses_leave = record { enough = enough_left; seen = damage_seen }

pub losses_leave_enough_law : LossesLeaveEnough
losses_leave_enough_law origin content wholes lost files possible fits are left =
    losses_leave origin content wholes files possible fits are lost left

-- ---- what calls leave

-- files with no bytes to which those of all shards were added
pub files_are : (origin : Origin) (wholes : List (List ℕ)) (old new : List (Vec ℕ Global)) (now : ℕ → List ℕ)
    → ((index : ℕ) → file_of old index ≡ []) → now ≡ file_of new
    → AppendsToEach (shard_total origin) (shard_file origin wholes) (file_of old) now → AreFiles origin wholes new
files_are origin wholes old new now empty is added =
    record {
      are = λ index inside.
          ap (λ (f : ℕ → List ℕ). f index) (sym is) ∙ added.grown index inside
          ∙ ap (λ (l : List ℕ). l ++ shard_file origin wholes index) (empty index);
      others = λ index above. ap (λ (f : ℕ → List ℕ). f index) (sym is) ∙ added.others index above ∙ empty index;
    }

-- and to which those of lost shards were added
pub files_repaired : (origin : Origin) (wholes : List (List ℕ)) (lost : List Bool) (old new : List (Vec ℕ Global)) (now : ℕ → List ℕ)
    → ((index : ℕ) → file_of old index ≡ []) → now ≡ file_of new
    → AppendsToLost (length lost) lost (shard_file origin wholes) (file_of old) now
    → (index : ℕ) → get_or lost index false ≡ true → file_of new index ≡ shard_file origin wholes index
files_repaired origin wholes lost old new now empty is added index gone =
    ap (λ (f : ℕ → List ℕ). f index) (sym is) ∙ added.grown index inside gone
    ∙ ap (λ (l : List ℕ). l ++ shard_file origin wholes index) (empty index)
  where
    inside : index < length lost
    inside =
        elim (cases_lt index (length lost)) [
          | inl below ↦ below
          | inr above ↦ absurd (true≢false (sym gone ∙ get_or-eq_default lost false above))
        ]

-- files of which some were lost
pub files_left : (origin : Origin) (wholes : List (List ℕ)) (lost : List Bool) (old new : List (Vec ℕ Global)) → FewAreLost origin lost
    → AreFiles origin wholes old → ((index : ℕ) → get_or lost index false ≡ true → file_of new index ≡ [])
    → ((index : ℕ) → get_or lost index false ≡ false → file_of new index ≡ file_of old index) → AreFilesLeft origin wholes lost new
files_left origin wholes lost old new few files gone stays =
    record {
      few = few;
      gone = gone;
      left = λ index inside is. stays index is ∙ files.are index inside;
      others = λ index above. stays index (get_or-eq_default lost false (omega (arith, above, few.flags))) ∙ files.others index above;
    }

-- what was read of bytes, and is as long as they are, is all of them
pub whole_read : (all part rest : List ℕ) → all ≡ part ++ rest → length part ≡ length all → part ≡ all
whole_read all part rest is long =
    sym (take_at part rest (length part) refl) ∙ ap (take (length part)) (sym is) ∙ take_all (length part) all (omega (arith, long))
