use Rattle.std.proofs.Common.{◌≡◌, ◌+◌, ◌*◌, inl, inr, ℕ, get_or, sym, ◌∙◌, ap, subst, arith}
use Rattle.std.proofs.lemmas.Bool.{cases_lt, false≢true}
use Rattle.additive_transforms.specs.Words.{level_element}
use Rattle.reed_solomon.specs.Codes.{shard_symbol}
use Rattle.reed_solomon.proofs.comparing.are_of_strip.Goals as goal

-- a word of row i of a strip
place_of : (i size start k : ℕ) → i * size + start + k ≡ i * size + (start + k)
place_of i size start k = omega arith

pub returns-then-not-same_words : goal.returns-then-not-same_words
returns-then-not-same_words g c =
    let element = level_element g.R.Stored.number g.L.Level.LEVEL in
    let strip = c.args.strip in
    let i = c.loop-i.i in (
      (λ wrong. absurd (false≢true wrong)),
      λ all. absurd (false≢true (sym c.if-not-same_words.true ∙ c.same_words.ensures.1
          (λ k inside.
          ap (λ (p : ℕ). element (get_or c.args.shards.now p g.R.Stored.ZERO)) (place_of i strip.size strip.start k)
          ∙ all i k (omega (arith, c.loop-i-test.true)) inside))),
    )

pub loop-i-preserved : goal.loop-i-preserved
loop-i-preserved g c =
    let zero = g.R.Stored.ZERO in
    let element = level_element g.R.Stored.number g.L.Level.LEVEL in
    let strip = c.args.strip in
    let shards = c.args.shards.now in
    let symbols = c.args.symbols.now in
    let i = c.loop-i.i in
    λ j k below inside.
    elim (cases_lt j i) [
      | inl early ↦ c.loop-i.invariant j k early inside
      | inr late ↦
          let same : i ≡ j = omega (arith, below, late) in
          subst (λ (s : ℕ). shard_symbol element zero strip.size shards (strip.start + k) s ≡ shard_symbol element zero strip.width symbols k s) same
          (ap (λ (p : ℕ). element (get_or shards p zero)) (sym (place_of i strip.size strip.start k))
          ∙ c.same_words.ensures.0 c.if-not-same_words.false k inside)
    ]
