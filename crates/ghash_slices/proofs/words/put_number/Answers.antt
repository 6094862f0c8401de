use Rattle.std.proofs.Common.{ℕ, map, ap, ◌∙◌}
use Rattle.std.proofs.Math.ListN.{set}
use Rattle.std.proofs.lemmas.List.{map-set}
use Rattle.ghash_slices.proofs.words.put_number.Goals as goal

pub returns : goal.returns
returns g c =
    let value = g.W.Reads.number in
    map-set value c.args.words.now c.args.place c.of_stored.result
    ∙ ap (λ (v : ℕ). set (map value c.args.words.now) c.args.place v) c.of_stored.ensures
