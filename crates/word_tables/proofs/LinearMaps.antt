-- The laws of additive maps, from the linear map of given images.
use Rattle.std.proofs.Common.{sym}
use Rattle.field_base.proofs.AdditiveMaps.{maps_agree}
use Rattle.field_base.proofs.LinearMapLemmas.{the_linear_map}
use Rattle.word_tables.specs.Linear.{AgreeAtPowers, ColumnsGiveTheMap}

-- two additive maps that agree at the powers of two are one
pub agree_at_powers : AgreeAtPowers
agree_at_powers f g f_additive g_additive width agree x fits = maps_agree f g f_additive g_additive width agree x fits

-- an additive map is the sum of its images of the powers of two at the set bits
pub columns_give_the_map : ColumnsGiveTheMap
columns_give_the_map f additive columns values x fits =
    sym ((the_linear_map columns).only f additive (λ j below. sym (values j below)) x fits)
