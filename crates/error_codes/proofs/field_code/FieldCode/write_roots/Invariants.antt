use Rattle.std.proofs.Common.{◌≡◌, ◌<◌, ◌+◌, ℕ, length, slice_index}
use Rattle.field_base.specs.Powers.{power}
use Rattle.error_codes.proofs.field_code.FieldCode.write_roots.Given as goal

-- the root whose turn it is, and those before it
abbrev pub invariant-loop-m : goal.invariant-loop-m
invariant-loop-m g l =
    let times = g.F.SymbolField.product l.self.field in
    (l.x ≡ power 1 times l.self.root (l.self.first_root + l.m)) × (length l.roots ≡ length l.initial.roots)
    × ((n : ℕ) → n < l.m → slice_index l.roots n ≡ power 1 times l.self.root (l.self.first_root + n))
