use Rattle.prove_sums.proofs.SoundBits.{sound-bits}
use Rattle.prove_sums.proofs.security.soundness_bits.Goals as goal

pub returns-clause-sound : goal.returns-clause-sound
returns-clause-sound c =
    sound-bits c.errors_are_small.ensures c.args.queries c.args.rounds c.most_bits.result c.requires.some_queries c.requires.few_queries
    c.requires.few c.most_bits.ensures
