use Rattle.std.proofs.Common.{inl, inr, refl, sym, ◌∙◌, ap}
use Rattle.std.proofs.lemmas.Bool.{true≢false}
use Rattle.shard_files.specs.Heads.{format_name}
use Rattle.shard_files.proofs.head.older_format.Goals as goal

pub returns-then-has_name-clause-named : goal.returns-then-has_name-clause-named
returns-then-has_name-clause-named c = (inl refl, c.has_name.ensures.0 c.if-has_name.true)

pub returns-then-has_name-2-clause-named : goal.returns-then-has_name-2-clause-named
returns-then-has_name-2-clause-named c = (inr refl, c.has_name-else-has_name.ensures.0 c.if-has_name-2.true)

pub returns-else-has_name-2-clause-none : goal.returns-else-has_name-2-clause-none
returns-else-has_name-2-clause-none c =
    λ none version which is.
    elim which [
      | inl one ↦ true≢false (sym (c.has_name.ensures.1 (is ∙ ap format_name one)) ∙ c.if-has_name.false)
      | inr two ↦ true≢false (sym (c.has_name-else-has_name.ensures.1 (is ∙ ap format_name two)) ∙ c.if-has_name-2.false)
    ]
