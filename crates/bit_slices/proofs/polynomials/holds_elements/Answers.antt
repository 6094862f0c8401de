use Rattle.bit_slices.proofs.polynomials.holds_elements.Goals as goal

pub returns : goal.returns
returns g c l = g.T.Sliced.fits_law c.args.block.now l
