use Rattle.std.proofs.Common.{◌≡◌, List, ℕ, ◌++◌, drop, length, take, refl, sym, ◌∙◌, ap, subst}
use Rattle.std.proofs.lemmas.Bool.Decides.{Decides-eqb}
use Rattle.std.proofs.lemmas.List.{take-append-drop, take_at}
use Rattle.std.proofs.lemmas.Slice.Eq.{starts_is}
use Rattle.shard_files.proofs.head.has_name.Goals as goal

pub returns : goal.returns
returns c =
    let bytes = c.args.bytes.now in
    let name = c.args.name.now in
    let is = starts_is Decides-eqb bytes name c.starts_with.result c.starts_with.ensures.value in (
      λ begins. ap (take (length name)) (is.0 begins) ∙ take_at name (drop (length name) bytes) (length name) refl,
      λ same. is.1 (drop (length name) bytes)
          (subst (λ (l : List ℕ). bytes ≡ l) (ap (λ (l : List ℕ). l ++ drop (length name) bytes) same) (sym (take-append-drop (length name) bytes))),
    )
