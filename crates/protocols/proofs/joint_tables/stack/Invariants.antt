use Rattle.std.proofs.Common.{◌≡◌, ◌*◌, ◌^◌, map}
use Rattle.std.specs.List.{range_with_len}
use Rattle.protocols.proofs.HonestTables.{stack_entry}
use Rattle.protocols.proofs.joint_tables.stack.Given as goal

-- the elements so far
abbrev pub invariant-elements : goal.invariant-elements
invariant-elements g l =
    map g.F.Represented.repr l.list.items
    ≡ map (stack_entry g.F.Represented.repr (map (λ list. list.items) l.lists) (2 ^ l.levels * l.height) l.height) (range_with_len 0 l.index)
