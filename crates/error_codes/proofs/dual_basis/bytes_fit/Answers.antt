use Rattle.error_codes.proofs.dual_basis.bytes_fit.Goals as goal

pub returns : goal.returns
returns c = λ i. (c.type_inv.bytes i).fits
