use Rattle.std.proofs.Common.{◌≡◌, ℕ, ◌<◌, ◌^◌, get_or, length, below_more, sym, ◌∙◌, ap, subst, arith}
use Rattle.std.proofs.lemmas.List.{get_or_default}
use Rattle.std.proofs.lemmas.Nat.{le_or_l, le_or_r, or_lt, pow_pos}
use Rattle.c_calls.specs.Fields.{wide_number}
use Rattle.c_calls.specs.declared.wide.Wide.{Wide}
use Rattle.c_calls.proofs.chosen_words.ChosenWordsScalarWords.are_elements.Goals as goal

pub loop-place-init : goal.loop-place-init
loop-place-init c = (λ _ k below. absurd (omega (arith, below)), λ _. pow_pos c.args.self.named.degree)

pub loop-place-preserved : goal.loop-place-preserved
loop-place-preserved c =
    let d = c.args.self.named.degree in
    let loop = c.loop-place in
    let bits = loop.bits in
    let number = c.stored-bits.result in
    let word = c.index-words-place.result in
    let at : (e : Wide) → number ≡ wide_number (get_or c.args.words.now loop.place e) =
    λ e. c.stored-bits.ensures
    ∙ ap wide_number (c.index-words-place.is ∙ sym (get_or_default c.args.words.now loop.place e word (omega arith))) in (
      λ below.
          below_more (λ k. (e : Wide) → wide_number (get_or c.args.words.now k e) < 2 ^ d) loop.place
          (loop.invariant.0 (omega (arith, le_or_l bits number, below)))
          (λ e. subst (λ (n : ℕ). n < 2 ^ d) (at e) (omega (arith, le_or_r bits number, below))),
      λ all.
          or_lt d bits number (loop.invariant.1 (λ k before. all k (omega (arith, before))))
          (subst (λ (n : ℕ). n < 2 ^ d) (sym (at word)) (all loop.place (omega arith) word)),
    )

pub returns : goal.returns
returns c =
    let all : c.loop-place.place ≡ length c.args.words.now = omega arith in (
      λ yes k within e. c.loop-place.invariant.0 (c.fits.ensures.0 yes) k (omega (arith, all, within)) e,
      λ each. c.fits.ensures.1 (c.loop-place.invariant.1 (λ k before e. each k (omega (arith, all, before)) e)),
    )
