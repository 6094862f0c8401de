use Rattle.std.proofs.Common.{◌≡◌, ◌+◌, length}
use Rattle.field_base.specs.Powers.{power}
use Rattle.error_codes.proofs.FieldEncoding.{HasFirstRoots}
use Rattle.error_codes.proofs.field_code.FieldCode.write_generator.Given as goal

abbrev pub invariant-loop-m : goal.invariant-loop-m
invariant-loop-m g l =
    let s = g.F.SymbolField in
    let field = l.self.field in
    let times = s.product field in
    (l.x ≡ power 1 times l.self.root (l.self.first_root + l.m)) × (length l.generator ≡ length l.fn.generator)
    × HasFirstRoots times (λ m. power 1 times l.self.root (l.self.first_root + m)) l.m l.generator
