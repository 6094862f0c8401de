use Rattle.std.proofs.lemmas.Nat.{pow_below}
use Rattle.any_field.proofs.SearchSteps.{primitive-there}
use Rattle.any_field.proofs.search.is_primitive_modulus.Goals as goal

pub times_x-requires-clause-fits : goal.times_x-requires-clause-fits
times_x-requires-clause-fits c = pow_below 0 c.args.degree c.in-Ok.ensures.field.2.0

pub returns-in-Ok-clause-complete : goal.returns-in-Ok-clause-complete
returns-in-Ok-clause-complete c =
    let found = c.in-Ok.field in
    let made = c.in-Ok.ensures.field in
    λ is.
    c.is_primitive.ensures.complete
    ((primitive-there c.args.degree c.args.tail found.degree found.tail c.times_x.result made.0 made.1 c.times_x.ensures).1 is.1)

pub returns-in-Ok-clause-sound : goal.returns-in-Ok-clause-sound
returns-in-Ok-clause-sound c =
    let found = c.in-Ok.field in
    let made = c.in-Ok.ensures.field in
    λ prime yes. (
      made.2,
      (primitive-there c.args.degree c.args.tail found.degree found.tail c.times_x.result made.0 made.1 c.times_x.ensures).0
          (c.is_primitive.ensures.sound prime yes),
    )

pub returns-in-Err-clause-complete : goal.returns-in-Err-clause-complete
returns-in-Err-clause-complete c = λ is. absurd (c.in-Err.ensures.refused is.0)

pub returns-in-Ok-clause-field : goal.returns-in-Ok-clause-field
returns-in-Ok-clause-field c = λ yes. c.in-Ok.ensures.field.2
