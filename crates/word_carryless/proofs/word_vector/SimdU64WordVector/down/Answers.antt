use Rattle.std.proofs.Common.{◌/◌, ◌^◌}
use Rattle.std.proofs.lemmas.Simd.{shifts_fit_splat, zip2_splat}
use Rattle.word_carryless.proofs.word_vector.SimdU64WordVector.down.Goals as goal

pub overflow_shr-result : goal.overflow_shr-result
overflow_shr-result g c = shifts_fit_splat 64 c.args.self g.row.N c.args.places c.requires

pub returns : goal.returns
returns g c = zip2_splat (λ a b. a / 2 ^ b) _ _ c.args.places c.fits-self.0
