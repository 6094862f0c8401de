-- Files of shards that are lost, to which bytes are added one after the other.
use Rattle.std.proofs.Common.{◌≡◌, ℕ, ◌+◌, ◌<◌, Bool, List, [], ◌++◌, length, get_or, take, refl, sym, ◌∙◌, ap, append_assoc, arith}
use Rattle.std.proofs.lemmas.List.{length-take-le, take_more}
use Rattle.shard_files.specs.Files.{AppendsToLost, pieces_from, shard_file}
use Rattle.shard_files.specs.Groups.{numbered}
use Rattle.shard_files.specs.Heads.{head_file}
use Rattle.shard_files.specs.declared.head.Origin.{Origin}
use Rattle.shard_files.proofs.Written.{piece_of, pieces_more}

pub lost_none : (lost : List Bool) (bytes before : ℕ → List ℕ) → AppendsToLost 0 lost bytes before before
lost_none lost bytes before = record { grown = λ index below is. absurd (omega (arith, below)); others = λ index other. refl }

-- `appends_twice` for files of lost shards
pub lost_twice : (count : ℕ) (lost : List Bool) (one two both before now next : ℕ → List ℕ)
    → ((index : ℕ) → index < count → both index ≡ one index ++ two index)
    → AppendsToLost count lost one before now → AppendsToLost count lost two now next → AppendsToLost count lost both before next
lost_twice count lost one two both before now next same first second =
    record {
      grown = λ index below is.
          second.grown index below is ∙ ap (λ (l : List ℕ). l ++ two index) (first.grown index below is)
          ∙ append_assoc (before index) (one index) (two index) ∙ ap (λ (l : List ℕ). before index ++ l) (sym (same index below));
      others = λ index other. second.others index other ∙ first.others index other;
    }

-- `appends_same` for files of lost shards
pub lost_same : (count : ℕ) (lost : List Bool) (one other before now : ℕ → List ℕ) → ((index : ℕ) → index < count → other index ≡ one index)
    → AppendsToLost count lost one before now → AppendsToLost count lost other before now
lost_same count lost one other before now same added =
    record {
      grown = λ index below is. added.grown index below is ∙ ap (λ (l : List ℕ). before index ++ l) (sym (same index below));
      others = added.others;
    }

-- the file of a shard, as far as stripe `stripe`, grows by its piece
pub file_taken : (origin : Origin) (wholes : List (List ℕ)) (stripe : ℕ) → stripe < length wholes → (index : ℕ)
    → shard_file origin (take (stripe + 1) wholes) index
    ≡ shard_file origin (take stripe wholes) index ++ piece_of (numbered origin index) stripe (get_or wholes stripe [])
unfolding shard_file
file_taken origin wholes stripe below index =
    let head = numbered origin index in
    let whole = get_or wholes stripe [] in
    let before = take stripe wholes in
    ap (λ (l : List (List ℕ)). head_file head ++ pieces_from head 0 l) (take_more wholes stripe [] below)
    ∙ ap (λ (l : List ℕ). head_file head ++ l) (pieces_more head 0 before whole)
    ∙ ap (λ (n : ℕ). head_file head ++ (pieces_from head 0 before ++ piece_of head n whole))
    (zero_more (length before) ∙ length-take-le stripe wholes (omega (arith, below)))
    ∙ sym (append_assoc (head_file head) (pieces_from head 0 before) (piece_of head stripe whole))
  where
    zero_more : (n : ℕ) → 0 + n ≡ n
    zero_more n = omega arith
