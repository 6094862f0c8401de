use Rattle.std.proofs.Common.{◌≡◌, ℕ, ◌<◌, ◌≤◌, List, [], ◌∷◌, ◌++◌, length, map, sym, ◌∙◌, ap, ap₂, arith, rules, take}
use Rattle.std.proofs.lemmas.List.{map_more, take_all, take_more_set}
use Rattle.c_calls.specs.Fields.{wide_number}
use Rattle.c_calls.proofs.numbers.numbers_of.Goals as goal

pub loop-place-preserved : goal.loop-place-preserved
loop-place-preserved g c =
    let place = c.loop-place.place in
    let words = c.args.words.now in
    let within : place < length words = omega arith in
    let room : place < length c.loop-place.numbers = omega (arith, c.loop-place.invariant.0) in (
      search (rules, c.loop-place.invariant.0),
      take_more_set c.loop-place.numbers place c.stored.result room
          ∙ ap₂ (λ (xs : List ℕ) (v : ℕ). xs ++ v ∷ []) c.loop-place.invariant.1 (c.stored.ensures ∙ ap wide_number c.index-words-place.is)
          ∙ sym (map_more wide_number words place c.index-words-place.result within),
    )

pub returns-clause-first : goal.returns-clause-first
returns-clause-first g c =
    let place = c.loop-place.place in
    let words = c.args.words.now in
    let all : place ≡ length words = omega arith in
    let all_read : length words ≤ place = omega arith in
    ap (λ (n : ℕ). take n c.loop-place.numbers) (sym all) ∙ c.loop-place.invariant.1 ∙ ap (map wide_number) (take_all place words all_read)

pub returns-clause-whole : goal.returns-clause-whole
returns-clause-whole g c whole =
    let place = c.loop-place.place in
    let words = c.args.words.now in
    let all_written : length c.loop-place.numbers ≤ place = omega (arith, whole, c.loop-place.invariant.0) in
    let all_read : length words ≤ place = omega arith in
    sym (take_all place c.loop-place.numbers all_written) ∙ c.loop-place.invariant.1 ∙ ap (map wide_number) (take_all place words all_read)
