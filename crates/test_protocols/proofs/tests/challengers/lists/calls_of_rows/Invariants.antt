use Rattle.std.proofs.Common.{All}
use Rattle.transcript_elements.specs.Calls.{MayCall}
use Rattle.test_protocols.proofs.tests.challengers.lists.calls_of_rows.Given as goal

-- every call so far may be made
abbrev pub invariant-rows : goal.invariant-rows
invariant-rows g l = All MayCall l.calls.items
