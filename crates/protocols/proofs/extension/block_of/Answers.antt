use Rattle.std.proofs.Common.{◌≡◌, ◌*◌, ◌^◌, ℕ, ◌∙◌, ap, ap₂, rules}
use Rattle.ghash_slices.specs.Cantor.{point}
use Rattle.protocols.proofs.Words.{fits-held, values-written}
use Rattle.protocols.proofs.extension.block_of.Goals as goal

pub forward_elements-requires : goal.forward_elements-requires
forward_elements-requires g c = fits-held _ _ c.args.coefficients.now _ (search rules) c.requires.few c.requires.points c.requires.count

pub returns-clause-values : goal.returns-clause-values
returns-clause-values g c =
    let ring = g.F.Represented in
    let vector : ℕ → ℕ = λ (i : ℕ). g.F.TowerLevel.basis (g.F.TowerLevel.cantor i) in
    let zero = ap ring.repr c.ZERO.ensures ∙ g.met.F.PrimeCharacteristicRing.zero_law in
    let shift : ring.repr c.element_point.result ≡ point ring.width vector 0 (c.args.block * 2 ^ c.args.levels) =
    c.element_point.ensures ∙ ap₂ (point ring.width vector) zero (ap (λ (n : ℕ). c.args.block * n) c.requires.count) in
    values-written ring.repr ring.width ring.product vector (ring.repr c.element_point.result)
    (point ring.width vector 0 (c.args.block * 2 ^ c.args.levels)) shift c.as_mut_slice.result.now c.args.coefficients.now
    c.forward_elements.new.values _ (search rules) _ (c.forward_elements.ensures.length ∙ c.as_mut_slice.ensures.len)
    c.forward_elements.ensures.values
