use Rattle.std.proofs.Common.{◌≡◌, ◌+◌, ℕ, length, slice_index, sym, ◌∙◌, subst, arith}
use Rattle.reed_solomon.specs.Adding.{MakeShard}
use Rattle.reed_solomon.proofs.MissingFactors.{made_symbol, not_sampled}
use Rattle.reed_solomon.proofs.codec.ReedSolomon.factors_of.Goals as goal

pub returns-clause-made : goal.returns-clause-made
returns-clause-made c =
    let code = c.args.self.now in
    let k : ℕ = code.data_shards in
    let present = c.args.present.now in
    let total : ℕ = length present in
    let sample = c.of_present-sample.result in
    let chosen = c.of_present-sample.ensures in
    let flags : total ≡ k + code.parity_shards = c.requires.flags in
    let whole : sample.count ≡ k = omega (arith, c.if-sample-self.false, chosen.at_most) in
    subst (λ (n : ℕ). MakeShard k n present c.args.shard c.at_places.result) flags
    record {
      others = λ i other. c.at_places.ensures.others i (not_sampled k total present sample.places sample.count chosen i other);
      sums = λ symbol word bytes.
          made_symbol k total present sample.places sample.count chosen symbol c.args.shard (slice_index c.factors.result) whole
          (omega (arith, flags, code.few)) c.requires.within word bytes c.factors.ensures
          ∙ sym (c.at_places.ensures.sums total symbol chosen.inside);
    }
