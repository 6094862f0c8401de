use Rattle.std.specs.Prelude.{bit_and}
use Rattle.std.proofs.lemmas.Simd.{zip2_splat}
use Rattle.word_carryless.proofs.word_vector.SimdU64WordVector.masked.Goals as goal

pub returns : goal.returns
returns g c = zip2_splat bit_and _ _ c.args.mask c.fits-self.0
