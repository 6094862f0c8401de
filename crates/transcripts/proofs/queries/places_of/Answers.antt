use Rattle.std.proofs.Common.{ℕ, ◌∷◌, [], ◌∙◌, ap, arith, length, rules}
use Rattle.std.proofs.lemmas.List.{length-append}
use Rattle.transcripts.proofs.ListLemmas.{empty_in_turn, grown_in_turn}
use Rattle.transcripts.proofs.Drawn.{below-in_turn}
use Rattle.transcripts.proofs.queries.places_of.Goals as goal

pub places-init : goal.places-init
places-init g c = (
  search rules,
  empty_in_turn (λ old (place : ℕ) new. g.C.CanSampleBits.gives_bits old c.args.depth place new) _ c.args.challenger.now (search rules),
  c.requires.going,
)

pub places-preserved : goal.places-preserved
places-preserved g c =
    let more = length-append c.places.places.items (c.in_ok-place.place ∷ []) in (
      ap length c.in_ok-push.ensures.items ∙ omega (arith, more, c.places.invariant.0),
      grown_in_turn (λ old (place : ℕ) new. g.C.CanSampleBits.gives_bits old c.args.depth place new) c.places.places.items
          c.push.new.self.items c.in_ok-place.place c.args.challenger.now c.places.challenger c.sample_uniform_bits.new.self
          c.in_ok-push.ensures.items c.places.invariant.1 c.in_ok-place.ensures.ok,
      c.in_ok-place.ensures.answer.goes_on,
    )

pub returns-clause-below : goal.returns-clause-below
returns-clause-below g c =
    below-in_turn g.C.CanSampleBits.gives_bits c.args.depth c.places.places.items c.args.challenger.now c.places.challenger c.places.invariant.1
