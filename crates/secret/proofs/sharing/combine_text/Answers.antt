use Rattle.std.proofs.Common.{◌≢◌, List, ℕ, IfErr, subst, sym}
use Rattle.std.proofs.lemmas.Result.{IfErr-weaker}
use Rattle.secret.specs.Texts.{IsSecretOfText}
use Rattle.secret.specs.declared.fault.Fault.{Fault}
use Rattle.secret.specs.declared.fault.Fault.TheVariants.{Memory}
use Rattle.secret.proofs.TextRecords.{gathered-secret, one-set}
use Rattle.secret.proofs.sharing.combine_text.Goals as goal
use Rattle.secret.proofs.sharing.combine_text.Goals.{in-Err, in-Ok}

-- the text has no secret, or memory was refused
abbrev HasNone : List ℕ → Fault → Type 0
HasNone text fault = fault ≢ Memory → (secret wrong : List ℕ) → IsSecretOfText text secret wrong → ⊥

pub returns-clause-refused : goal.returns-clause-refused
returns-clause-refused c =
    let text = c.args.text.now in
    elim c.match-gather.branch [
      | in-Ok w ↦
          let gathered = w.in-Ok.ensures.gathered in
          subst (λ r. IfErr r (HasNone text)) (sym w.said-is)
          (IfErr-weaker w.combined-said.result _ (HasNone text)
          (λ fault refused other secret wrong is.
          let both = gathered-secret text secret wrong is gathered.0 _ _ _ (gathered.3 is.entries is.said) gathered.2 in
          refused other secret wrong both.0 both.1) w.combined-said.ensures.refused)
      | in-Err w ↦
          subst (λ r. IfErr r (HasNone text)) (sym w.said-is)
          (λ other secret wrong is. w.in-Err.ensures.refused other is.entries is.said (one-set text secret wrong is))
    ]
