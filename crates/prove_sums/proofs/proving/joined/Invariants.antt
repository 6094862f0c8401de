use Rattle.std.proofs.Common.{◌≡◌, List, map, take}
use Rattle.std.specs.List.{flat_map}
use Rattle.prove_sums.proofs.proving.joined.Given as goal

-- the lists before the index are written
abbrev pub invariant-lists : goal.invariant-lists
invariant-lists g l = l.all.items ≡ flat_map (λ (list : List _). list) (take l.index (map (λ list. list.items) l.lists))
