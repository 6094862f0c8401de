use Rattle.std.proofs.Common.{◌≡◌, ℕ, Bool, List, length, replicate, slice_index, false, sym, ◌∙◌, ap, arith}
use Rattle.std.specs.Prelude.{nat_eq, not}
use Rattle.std.proofs.lemmas.List.{length-replicate, length-take-le}
use Rattle.error_codes.specs.Filling.{is_marked}
use Rattle.error_codes.proofs.ByteWords.{behind-left, front-written}
use Rattle.error_codes.proofs.Meanings.{marks-same}
use Rattle.error_codes.proofs.code.CorrectingCode.correct.Goals as goal

pub returns-clause-within : goal.returns-clause-within
returns-clause-within c = λ i below.
    let n = c.args.self.now.word_length in
    let long : length c.correct.new.changed ≡ n =
    c.correct.ensures.flags
    ∙ length-take-le n (replicate 256 false) (let size = length-replicate {A = Bool} 256 false in omega (arith, size, c.args.self.now.short)) in
    front-written n (replicate 256 false) c.correct.new.changed i false long below
    ∙ c.in_ok-count.ensures.within i below
    ∙ ap (λ (w : List ℕ). not (nat_eq (slice_index w i) (slice_index c.correct.new.word i))) c.widen.ensures
    ∙ ap (λ (w : List ℕ). not (nat_eq (slice_index c.args.word.now i) (slice_index w i))) (sym c.narrow.ensures)

pub returns-clause-behind : goal.returns-clause-behind
returns-clause-behind c = λ i above.
    let n = c.args.self.now.word_length in
    let long : length c.correct.new.changed ≡ n =
    c.correct.ensures.flags
    ∙ length-take-le n (replicate 256 false) (let size = length-replicate {A = Bool} 256 false in omega (arith, size, c.args.self.now.short)) in
    behind-left 256 n c.correct.new.changed i false long above

pub returns-clause-count : goal.returns-clause-count
returns-clause-count c =
    let n = c.args.self.now.word_length in
    let long : length c.correct.new.changed ≡ n =
    c.correct.ensures.flags
    ∙ length-take-le n (replicate 256 false) (let size = length-replicate {A = Bool} 256 false in omega (arith, size, c.args.self.now.short)) in
    c.in_ok-count.ensures.count
    ∙ marks-same (is_marked c.correct.new.changed) _ n
    (λ i below. sym (front-written n (replicate 256 false) c.correct.new.changed i false long below))
