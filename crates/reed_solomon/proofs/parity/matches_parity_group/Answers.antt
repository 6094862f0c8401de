use Rattle.std.proofs.Common.{◌≡◌, ◌+◌, ◌-◌, ◌<◌, ℕ, List, length, take, drop, refl, ◌∙◌, ap, arith}
use Rattle.std.proofs.lemmas.List.{length-drop, take_rest}
use Rattle.reed_solomon.proofs.GroupWriting.{place_inside}
use Rattle.reed_solomon.proofs.ParityWords.{group_equal, group_matches}
use Rattle.reed_solomon.proofs.parity.matches_parity_group.Goals as goal

-- what is left of the shards from a column on
rest_length : (column : ℕ) (shards : List ℕ) → length (take (length shards - column) (drop column shards)) ≡ length shards - column
rest_length column shards = ap (λ (l : List ℕ). length l) (take_rest shards column) ∙ length-drop column shards

pub matches_group-requires-clause-inside : goal.matches_group-requires-clause-inside
matches_group-requires-clause-inside c = λ j below.
    let k = length c.args.starts.now in
    let inside : j < k + (c.args.first + c.args.count) = omega (arith, below) in
    omega (
      arith,
      rest_length c.args.columns.first c.args.shards.now,
      c.requires.begun j below,
      c.requires.within,
      c.requires.room,
      place_inside c.args.size (k + (c.args.first + c.args.count)) j inside,
    )

pub matches_group-requires-clause-room : goal.matches_group-requires-clause-room
matches_group-requires-clause-room c = λ row below.
    let k = length c.args.starts.now in
    let inside : k + c.args.first + row < k + (c.args.first + c.args.count) = omega (arith, below) in
    omega (
      arith,
      rest_length c.args.columns.first c.args.shards.now,
      c.requires.within,
      c.requires.room,
      place_inside c.args.size (k + (c.args.first + c.args.count)) (k + c.args.first + row) inside,
    )

pub returns : goal.returns
returns c = λ set.
    let k = length c.args.starts.now in
    let first = c.args.columns.first in
    let shards = c.args.shards.now in
    let part_is = take_rest shards first in (
      (λ right.
          group_matches k c.args.size c.args.first c.args.count first c.args.columns.width c.args.entries.now shards _ c.args.starts.now part_is refl
          c.requires.begun set c.bytes_fit.ensures (c.matches_group.ensures.0 right)),
      λ all.
          c.matches_group.ensures.1
          (group_equal k c.args.size c.args.first c.args.count first c.args.columns.width c.args.entries.now shards _ c.args.starts.now part_is refl
          c.requires.begun set c.bytes_fit.ensures all),
    )
