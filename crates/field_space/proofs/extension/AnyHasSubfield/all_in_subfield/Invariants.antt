use Rattle.std.proofs.Common.{ℕ, ◌<◌, ◌^◌, slice_index_or}
use Rattle.field_space.proofs.extension.AnyHasSubfield.all_in_subfield.Given as goal

-- the elements so far lie in the subfield
abbrev pub invariant-loop-place : goal.invariant-loop-place
invariant-loop-place g l =
    (k : ℕ) → (d : g.row.E.Denot) → k < l.place → g.E.Represented.repr (slice_index_or l.values k d) < 2 ^ g.F.Represented.width
