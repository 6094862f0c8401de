use Rattle.std.proofs.Common.{◌≡◌, ◌+◌, ◌*◌, ◌%◌, ◌^◌, ◌∷◌, ◌++◌, [], ℕ, List, map, length, slice_index, sym, ◌∙◌, ap, ap₂, arith}
use Rattle.std.specs.List.{range_with_len}
use Rattle.std.proofs.lemmas.List.FromFn.{map-range_with_len_more}
use Rattle.protocols.proofs.commitment_scheme.Parameters.places.Goals as goal

pub power_of_two-size-requires : goal.power_of_two-size-requires
power_of_two-size-requires g c = omega (arith, c.args.self.now.few_levels, c.args.self.now.levels_are, c.args.self.now.bits_are)

pub numbers-preserved : goal.numbers-preserved
numbers-preserved g c =
    let numbers = c.args.numbers.now in
    let size = c.power_of_two-size.result in
    let place : ℕ → ℕ = λ (i : ℕ). i * size + slice_index numbers i % size in
    c.in_ok-push.ensures.items ∙ ap (λ (l : List ℕ). l ++ place c.numbers.index ∷ []) c.numbers.invariant
    ∙ sym (map-range_with_len_more place 0 c.numbers.index c.numbers.index (omega arith))

pub returns : goal.returns
returns g c =
    let numbers = c.args.numbers.now in
    let end : c.numbers.index ≡ length numbers = omega arith in
    c.numbers.invariant
    ∙ ap₂ (λ (s n : ℕ). map (λ (i : ℕ). i * s + slice_index numbers i % s) (range_with_len 0 n))
    (c.power_of_two-size.ensures.power ∙ ap (λ (b : ℕ). 2 ^ b) c.args.self.now.bits_are) end
