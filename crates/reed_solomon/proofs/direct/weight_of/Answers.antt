use Rattle.std.proofs.Common.{◌≡◌, ◌∙◌, ℕ, sym, ap, subst}
use native.Mathlib.Nat.{mod-eq_of_lt}
use Rattle.field_base.specs.Tower.{tower_mul}
use Rattle.reed_solomon.proofs.KnownSums.{weight_is}
use Rattle.reed_solomon.proofs.direct.weight_of.Goals as goal

pub returns : goal.returns
returns g c rest fits nonzero factor_is =
    let number = g.R.Stored.number in
    let level = g.L.Level.LEVEL in
    let cut : number c.truncate.result ≡ number c.args.difference = c.truncate.ensures ∙ mod-eq_of_lt fits in
    c.multiply-2.ensures
    ∙ ap (tower_mul level (number c.args.own)) c.multiply.ensures
    ∙ weight_is level (number c.args.own) (number c.args.factor) (number c.args.difference) (number c.invert-inverse.result) rest
    (subst (λ (d : ℕ). tower_mul level d (number c.invert-inverse.result) ≡ 1) cut (c.invert-inverse.ensures.inverse (λ none. nonzero (sym cut ∙ none))))
    factor_is
