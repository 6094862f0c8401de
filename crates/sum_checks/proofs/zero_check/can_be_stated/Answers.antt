use Rattle.sum_checks.proofs.ZeroSums.{within-four}
use Rattle.sum_checks.proofs.zero_check.can_be_stated.Goals as goal

pub returns : goal.returns
returns g c = (
  λ holds.
      let fits = c.has_counts.ensures.0 holds in
      record { field = fits.0; within = within-four; rounds_fit = fits.1; count_fits = fits.2; terms_fit = fits.3 },
  λ can. c.has_counts.ensures.1 (can.field, can.rounds_fit, can.count_fits, can.terms_fit),
)
