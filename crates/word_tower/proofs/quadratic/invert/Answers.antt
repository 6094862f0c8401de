-- The norm of a nonzero element is not 0, and the quotients of the conjugate's halves by it are the halves of the inverse.
use Rattle.std.proofs.Common.{◌≡◌, ◌^◌, refl}
use Rattle.field_base.specs.Norm.{norm}
use Rattle.field_base.specs.Quadratic.{low_half, high_half}
use Rattle.field_base.specs.Tower.{root, tower_mul}
use Rattle.word_tower.proofs.Halves.{inverse_of_quotients, inverse_of_zero, joined_lt, low_lt, norm_by_conjugate, norm_is_nonzero, product_lt, sum_lt}
use Rattle.word_tower.proofs.quadratic.invert.Goals as goal

pub divide_both-halves-requires-clause-first : goal.divide_both-halves-requires-clause-first
divide_both-halves-requires-clause-first g c =
    let k = g.E.Below.Level.LEVEL in
    sum_lt k _ _ _ (low_lt k (g.R.Stored.number c.args.a) _ c.low-low.ensures) (product_lt k _ _ _ refl) c.conjugate_low-other_low.ensures

pub returns-clause-fits : goal.returns-clause-fits
returns-clause-fits g c =
    let k = g.E.Below.Level.LEVEL in
    joined_lt k _ _ _ c.divide_both-halves.ensures.first_fits c.divide_both-halves.ensures.second_fits c.join.ensures

pub returns-clause-zero : goal.returns-clause-zero
returns-clause-zero g c none =
    let halves = c.divide_both-halves.ensures in
    inverse_of_zero g.E.Below.Level.LEVEL (g.R.Stored.number c.args.a) _ _ _ _ _
    (cc (c.conjugate_low-other_low.ensures, c.low-low.ensures, c.high-high.ensures)) c.high-high.ensures
    halves.first_zero halves.second_zero c.join.ensures none

pub returns-clause-inverse : goal.returns-clause-inverse
returns-clause-inverse g c nonzero =
    let k = g.E.Below.Level.LEVEL in
    let a = g.R.Stored.number c.args.a in
    let halves = c.divide_both-halves.ensures in
    let by_conjugate = norm_by_conjugate k (low_half (2 ^ k) a) (high_half (2 ^ k) a) in
    let is_norm : g.E.Half.Stored.number c.norm_by_conjugate-norm.result ≡ norm (2 ^ k) (tower_mul k) (root k) a =
    cc (by_conjugate, c.norm_by_conjugate-norm.ensures, c.conjugate_low-other_low.ensures, c.low-low.ensures, c.high-high.ensures) in
    let norm_nonzero = norm_is_nonzero k a _ c.requires is_norm nonzero in
    let first = halves.first norm_nonzero in
    let second = halves.second norm_nonzero in
    inverse_of_quotients k a _ _ _ _ c.requires is_norm
    halves.first_fits halves.second_fits
    (cc (first, c.conjugate_low-other_low.ensures, c.low-low.ensures, c.high-high.ensures))
    (cc (second, c.high-high.ensures))
    c.join.ensures nonzero
