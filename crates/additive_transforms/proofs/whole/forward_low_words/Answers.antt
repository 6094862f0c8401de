use Rattle.std.proofs.Common.{◌≡◌, ℕ, ◌-◌, ◌^◌, ◌<◌, ◌≤◌, length, map, refl, sym, take, ◌∙◌, ap, subst, arith}
use Rattle.std.proofs.lemmas.List.{length-map, take_all}
use lib.Seq.{length-take-le}
use Rattle.additive_transforms.specs.Transform.{HoldPolynomialValues}
use Rattle.additive_transforms.specs.Words.{low_word}
use Rattle.additive_transforms.proofs.Counts.{block_count, pairs_fit, whole_blocks}
use Rattle.additive_transforms.proofs.StagesFrom.{forward_leaves}
use Rattle.additive_transforms.proofs.whole.forward_low_words.Goals as goal

pub upper_stages-requires-clause-room : goal.upper_stages-requires-clause-room
upper_stages-requires-clause-room g c =
    let fits = pairs_fit c.stages_of-stages.result c.stages_of-stages.ensures.stages.0 in omega (arith, fits, c.new-kernel.ensures)

pub run_low_words-requires-clause-whole : goal.run_low_words-requires-clause-whole
run_low_words-requires-clause-whole g c =
    whole_blocks c.stages_of-stages.result 3 (length c.upper_stages.new.values) (omega arith)
    (c.upper_stages.ensures.length ∙ c.stages_of-stages.ensures.stages.1)

pub run_low_words-requires-clause-numbered : goal.run_low_words-requires-clause-numbered
run_low_words-requires-clause-numbered g c some =
    let m = c.stages_of-stages.result in
    let basis = c.new-twiddles.result.basis in
    let above : 3 < m = omega arith in
    let few : m - 1 ≤ length basis = omega (arith, c.new-twiddles.result.reach, c.stages_of-stages.ensures.stages.0) in
    let elements = length-take-le (m - 1) basis few in
    let same : length (take (m - 1) basis) - 3 ≡ m - 4 = omega (arith, elements) in
    let runs = block_count m 3 (length c.upper_stages.new.values) above (c.upper_stages.ensures.length ∙ c.stages_of-stages.ensures.stages.1)
    ∙ ap (λ (n : ℕ). 2 ^ n) (sym same) in
    omega (arith, runs)

pub returns-clause-values : goal.returns-clause-values
returns-clause-values g c =
    let value = low_word g.W.Reads.number in
    let twiddles = c.new-twiddles.result in
    let upper = c.upper_stages.new.values in
    let is = c.stages_of-stages.ensures.stages in
    subst (λ (z : ℕ). HoldPolynomialValues z (map value c.args.words.now) (map value c.run_low_words.new.words)) c.new-twiddles.ensures
    (forward_leaves twiddles.shifts twiddles.basis twiddles.z twiddles.are twiddles.reach c.stages_of-stages.result is.0
    (omega arith) _ _ (map value c.args.words.now) (map value upper) _ (sym (take_all 4 twiddles.shifts (omega (arith, twiddles.four)))) refl
    (length-map c.args.words.now value ∙ is.1) (length-map upper value ∙ c.upper_stages.ensures.length ∙ is.1) c.upper_stages.ensures.left
    c.run_low_words.ensures.sums)
