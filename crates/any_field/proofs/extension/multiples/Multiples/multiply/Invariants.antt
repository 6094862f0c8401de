use Rattle.std.proofs.Common.{map}
use Rattle.field_base.proofs.Written.{WrittenTo}
use Rattle.any_field.specs.Contexts.{field_product}
use Rattle.any_field.proofs.extension.multiples.Multiples.multiply.Given as goal

-- the places before this one are done
abbrev pub invariant-loop-place : goal.invariant-loop-place
invariant-loop-place l =
    WrittenTo (λ x. x) (map (λ x. field_product l.self.field.degree l.self.field.tail x l.self.scalar) (map (λ x. x) l.fn.words)) l.fn.words l.words l.place
