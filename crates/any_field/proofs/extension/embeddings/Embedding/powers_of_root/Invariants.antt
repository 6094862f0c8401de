use Rattle.any_field.specs.Contexts.{field_product}
use Rattle.any_field.proofs.RootTables.{ArePowers}
use Rattle.any_field.proofs.extension.embeddings.Embedding.powers_of_root.Given as goal

-- the places before this one are done
abbrev pub invariant-loop-place : goal.invariant-loop-place
invariant-loop-place l =
    ArePowers (field_product l.fn.self.target.degree l.fn.self.target.tail) l.fn.self.root l.place l.powers l.power
