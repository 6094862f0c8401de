use Rattle.c_calls.proofs.fields.known_logarithm.Goals as goal

pub returns-in-None : goal.returns-in-None
returns-in-None c = absurd (c.in-None.ensures.none c.requires.power.0 c.requires.power.1)
