use Rattle.std.proofs.Common.{ℕ, ◌∙◌, ap₂, arith}
use Rattle.field_base.specs.Quadratic.{pair}
use Rattle.field_element.proofs.TripleBytes.{of_three_words}
use Rattle.field_element.proofs.triple_bytes.words_of.Goals as goal

pub returns : goal.returns
returns c =
    ap₂ (λ (x y : ℕ). pair 64 x y) c.from_le_bytes.ensures
    (ap₂ (λ (x y : ℕ). pair 64 x y) c.from_le_bytes-2.ensures c.from_le_bytes-3.ensures)
    ∙ of_three_words c.args.bytes _ _ (omega (arith, c.as_chunks.type_inv)) c.as_chunks.ensures.front
