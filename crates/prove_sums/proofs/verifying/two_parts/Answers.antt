use Rattle.std.proofs.Common.{◌∷◌, [], ◌++◌, List, map, ◌∙◌, ap, ap₂, arith}
use Rattle.prove_sums.proofs.verifying.two_parts.Goals as goal

pub part-requires : goal.part-requires
part-requires g c = omega (arith, c.requires)

pub part-requires-2 : goal.part-requires-2
part-requires-2 g c = omega (arith, c.requires)

pub returns : goal.returns
returns g c =
    ap (map (λ list. list.items))
    (c.in_ok-push-2.ensures.items
    ∙ ap (λ (l : List _). l ++ c.in_ok-other.other ∷ []) (c.in_ok-push.ensures.items ∙ ap (λ (l : List _). l ++ c.in_ok-one.one ∷ []) c.new-lists.ensures.items))
    ∙ ap₂ (λ (a b : List _). a ∷ b ∷ []) (c.in_ok-one.ensures.items ∙ c.part.ensures.values) (c.in_ok-other.ensures.items ∙ c.part-2.ensures.values)
