use Rattle.std.proofs.Common.{◌≡◌, length, take, arith}
use Rattle.std.proofs.lemmas.List.{length-take-le}
use Rattle.reed_solomon.proofs.ParityWords.{parity_row}
use Rattle.reed_solomon.proofs.parity.set_parity_rows.Goals as goal

pub returns-clause-set : goal.returns-clause-set
returns-clause-set c = λ row below.
    let listed : length (take c.args.count c.places_from-points.result) ≡ c.args.count =
    length-take-le c.args.count c.places_from-points.result (omega (arith, c.requires.rows)) in
    parity_row c.args.sample.now.count c.args.first c.args.count row row c.args.sample.now.places c.places_from-points.result _ below c.requires.of_data
    c.places_from-points.ensures (c.set_rows.ensures.set row (omega (arith, below, listed)))
