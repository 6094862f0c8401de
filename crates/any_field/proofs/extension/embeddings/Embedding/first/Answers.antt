use Rattle.std.proofs.Common.{◌≡◌, ℕ, ◌+◌, ◌^◌, sym, ◌∙◌, arith}
use Rattle.std.proofs.lemmas.Nat.{pow_pos}
use Rattle.any_field.specs.Contexts.{field_product, with_top}
use Rattle.any_field.specs.Values.{binary_value}
use Rattle.any_field.proofs.ContextFields.{field-at, irreducible-of}
use Rattle.any_field.proofs.Isomorphic.{fields_have_roots}
use Rattle.any_field.proofs.OrderFactors.{ones-are}
use Rattle.any_field.proofs.SearchSteps.{found-at, some-of}
use Rattle.any_field.proofs.WordRemainders.{top-degree}
use Rattle.any_field.proofs.extension.embeddings.Embedding.first.Goals as goal
use Rattle.any_field.proofs.extension.embeddings.Embedding.first.Goals.{then-loop-root-test+else-value-ne0, else-loop-root-test}

pub returns-clause-some : goal.returns-clause-some
returns-clause-some c =
    let s = c.args.source in
    let t = c.args.target in
    let times = field_product t.degree t.tail in
    let modulus = with_top s.degree s.tail in
    let root =
    fields_have_roots t.degree s.degree modulus times t.context.wide c.requires (top-degree s.degree s.tail s.context.tail_below)
    (irreducible-of modulus s.irreducible) (field-at t.degree t.tail t.ratio t.context t.irreducible) in
    let ones = ones-are t.degree c.low_bits-last.result t.context.narrow c.low_bits-last.ensures in
    let count : c.low_bits-last.result + 1 ≡ 2 ^ t.degree = omega (arith, ones, pow_pos t.degree) in
    some-of _ c.new.result c.new.ensures.none
    (λ other. elim c.loop-root-test.branch [
      | then-loop-root-test+else-value-ne0 w ↦ other (sym w.value.ensures ∙ w.if-value-ne0.false)
      | else-loop-root-test w ↦
          other
          (found-at (λ (r : ℕ). binary_value times r modulus ≡ 0) (2 ^ t.degree) c.loop-root.root c.low_bits-last.result root.0 root.1 root.2 count
          c.loop-root.invariant.before (omega (arith, w.loop-root-test.false)))
    ])
