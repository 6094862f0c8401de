use Rattle.std.proofs.Common.{◌≡◌, ◌+◌, ◌++◌, ℕ, suc, List, map, take, ◌∙◌, sym, ap, arith}
use Rattle.std.specs.List.{flat_map}
use Rattle.std.proofs.lemmas.List.{length-map}
use Rattle.prove_sums.proofs.SumSteps.{flat-more, take-whole}
use Rattle.prove_sums.proofs.proving.joined.Goals as goal

pub lists-preserved : goal.lists-preserved
lists-preserved g c =
    let lists = c.args.lists.now in
    let index = c.lists.index in
    let one = c.index-lists-index.result in
    let next : index + 1 ≡ suc index = omega arith in
    c.in_ok-extend_from_slice.ensures.items ∙ ap (λ (l : List _). c.lists.all.items ++ l) c.as_slice.ensures.value
    ∙ ap (λ (l : List _). l ++ one.items) c.lists.invariant
    ∙ sym (flat-more (λ list. list.items) lists index one (omega arith) c.index-lists-index.is)
    ∙ ap (λ (n : ℕ). flat_map (λ (list : List _). list) (take n (map (λ list. list.items) lists))) (sym next)

pub returns : goal.returns
returns g c =
    let lists = c.args.lists.now in
    let long = length-map lists (λ list. list.items) in
    c.lists.invariant
    ∙ ap (flat_map (λ (list : List _). list)) (take-whole (map (λ list. list.items) lists) c.lists.index (omega (arith, long)))
