use Rattle.std.proofs.Common.{◌≡◌, ℕ, map, subst, ◌∙◌, ap}
use Rattle.std.specs.List.{range_with_len}
use Rattle.std.specs.Prelude.{IfOk}
use Rattle.field_base.proofs.PowerLemmas.{power_start}
use Rattle.field_slices.proofs.powers.powers_vec.Goals as goal

-- the one times a power is the power
pub returns : goal.returns
returns g c =
    let ring = g.R.Represented in
    let base = ring.repr c.args.base in
    let is_one = ap ring.repr c.ONE.ensures ∙ g.met.R.PrimeCharacteristicRing.one_law in
    subst (λ (f : ℕ → ℕ). IfOk c.shifted_powers_vec.result (λ powers. map ring.repr powers.items ≡ map f (range_with_len 0 c.args.count)))
    (λ i n. power_start ring.width ring.unit ring.product ring.ring_law ring.unit_fits _ base n is_one i)
    c.shifted_powers_vec.ensures
