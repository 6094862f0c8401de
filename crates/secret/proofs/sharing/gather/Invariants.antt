use Rattle.std.proofs.Common.{◌+◌, ◌≤◌, List, ◌++◌, ℕ, length}
use Rattle.secret.specs.Texts.{AreGathered, TextSays}
use Rattle.secret.proofs.OneReading.{Begins}
use Rattle.secret.proofs.sharing.gather.Given as goal

-- there are no more lines than bytes before the rest, and the shares are those of the records so far, with which all records of the text begin
abbrev pub invariant-lines : goal.invariant-lines
invariant-lines l =
    (l.number + length l.rest ≤ length l.fn.text)
    × (entries : List (List ℕ)) × AreGathered entries l.shares.first.items l.shares.indexes.items l.shares.bytes.items
    × ((more : List (List ℕ)) → TextSays l.rest more → TextSays l.fn.text (entries ++ more))
    × ((all : List (List ℕ)) → TextSays l.fn.text all → Begins l.rest entries all)

abbrev pub decreases-lines : goal.decreases-lines
decreases-lines l = length l.rest
