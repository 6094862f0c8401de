use Rattle.std.proofs.Common.{◌≡◌, ℕ, List, [], ◌∷◌, ◌++◌, length, drop, refl, arith, ap, ap₂, ◌∙◌, length-append, length-drop}
use Rattle.std.proofs.lemmas.List.{append-nil, drop_all, take_at}
use Rattle.tags.proofs.short.joined.Goals as goal

pub returns : goal.returns
returns c =
    let zeros : List ℕ = 0 ∷ 0 ∷ 0 ∷ 0 ∷ 0 ∷ 0 ∷ 0 ∷ 0 ∷ [] in
    let eight : length zeros ≡ 8 = refl in
    let one : List ℕ = c.copy_from_slice.new.self in
    let two : List ℕ = c.copy_from_slice-2.new.self in
    let first_is : one ≡ c.args.first = c.copy_from_slice.ensures.after in
    let few : length one ≡ 8 = omega (arith, ap length first_is) in
    ap₂ (λ (x z : List ℕ). x ++ (two ++ z)) (take_at one zeros 8 few)
    (drop_all 8 (drop 8 (one ++ zeros)) (omega (arith, length-drop 8 (one ++ zeros), length-append one zeros, eight, few)))
    ∙ ap (λ (z : List ℕ). one ++ z) (append-nil two)
    ∙ ap₂ (λ (x y : List ℕ). x ++ y) first_is c.copy_from_slice-2.ensures.after
