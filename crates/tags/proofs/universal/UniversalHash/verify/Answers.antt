use Rattle.std.proofs.Common.{◌≡◌, ◌↔◌, List, ℕ, subst}
use Rattle.std.specs.Prelude.{true}
use Rattle.tags.proofs.universal.UniversalHash.verify.Goals as goal

pub returns : goal.returns
returns g c = λ key m held.
    subst (λ (hash : List ℕ). (c.tags_are_equal.result ≡ true) ↔ (c.args.tag.now ≡ hash)) (c.finalize.ensures key m held) c.tags_are_equal.ensures
