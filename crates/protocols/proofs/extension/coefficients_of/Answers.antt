use Rattle.std.proofs.Common.{◌≡◌, length, drop, ◌∙◌, ap, rules}
use Rattle.std.proofs.lemmas.List.{take_at}
use Rattle.protocols.proofs.Words.{coefficients-written, fits-held}
use Rattle.protocols.proofs.extension.coefficients_of.Goals as goal

pub inverse_elements-requires : goal.inverse_elements-requires
inverse_elements-requires g c = fits-held _ _ c.args.values.now _ (search rules) c.requires.few c.requires.points c.requires.count

pub returns-clause-count : goal.returns-clause-count
returns-clause-count g c =
    let after = c.inverse_elements.new.values in
    let old : c.as_mut_slice.result.now ≡ c.args.values.now = search rules in
    ap length
    (take_at after (drop (length after) c.in_ok-coefficients.coefficients.items) c.in_ok-coefficients.coefficients.len
    (c.inverse_elements.ensures.length ∙ c.as_mut_slice.ensures.len))
    ∙ c.inverse_elements.ensures.length ∙ ap length old ∙ c.requires.count

pub returns-clause-values : goal.returns-clause-values
returns-clause-values g c =
    let ring = g.F.Represented in
    let zero = ap ring.repr c.ZERO.ensures ∙ g.met.F.PrimeCharacteristicRing.zero_law in
    coefficients-written ring.repr ring.width ring.product _ (ring.repr c.ZERO.result) 0 zero c.as_mut_slice.result.now c.args.values.now
    c.inverse_elements.new.values _ (search rules) _ (c.inverse_elements.ensures.length ∙ c.as_mut_slice.ensures.len)
    c.inverse_elements.ensures.coefficients.have
