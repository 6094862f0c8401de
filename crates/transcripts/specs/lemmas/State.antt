-- What a transcript does depends on its state alone. It stands here since implementations of the traits cite it.
use Rattle.std.proofs.Common.{◌≡◌, ap, sym, ◌∙◌}

-- two values that one function gives at equal arguments are equal
pub same_value : {A B : Type 0} (f : A → B) (one other : A) (value another : B) → one ≡ other → value ≡ f one → another ≡ f other
    → value ≡ another
same_value f one other value another same is are = is ∙ ap f same ∙ sym are
