use Rattle.std.proofs.Common.{◌≡◌, ℕ, List, ◌++◌, ◌-◌, ◌%◌, length, replicate, ◌∙◌, ap, arith, subst}
use Rattle.std.proofs.lemmas.List.{take-replicate}
use Rattle.tags.specs.Absorbed.{Holds}
use Rattle.tags.proofs.Absorbing.{Holds_used}
use Rattle.tags.proofs.absorber.Absorber.pad.Goals as goal

pub returns : goal.returns
returns g c = λ key m held.
    let used = Holds_used g.E.Encoding.element key c.args.self.now m held in
    let few : (16 - c.args.self.now.used % 16) % 16 ≡ (16 - length m % 16) % 16 = omega (arith, used) in
    subst (λ (z : List ℕ). Holds g.E.Encoding.element key c.update.new.self (m ++ z))
    (take-replicate ((16 - c.args.self.now.used % 16) % 16) 16 0 (omega arith) ∙ ap (λ (n : ℕ). replicate n 0) few)
    (c.update.ensures key m held)
