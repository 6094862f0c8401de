use Rattle.std.proofs.Common.{◌≡◌, ◌<◌, ℕ, ◌∙◌, List, [], ◌∷◌, length, get_or, sym, subst, ap, arith, rules}
use Rattle.std.specs.Prelude.{replicate}
use Rattle.std.specs.Simd.Lanes.{Each1, zip2}
use Rattle.std.proofs.lemmas.List.{get_or-replicate, length-replicate}
use Rattle.std.proofs.lemmas.Simd.{Each2-splat, get_or-zip2, length-zip2}
use Rattle.packed_lanes.specs.Parts.{HasFirstBlocks, HasSecondBlocks}
use Rattle.packed_lanes.proofs.LaneLemmas.{first_blocks, second_blocks}
use Rattle.packed_lanes.proofs.block.interleave_lanes.Goals as goal

every : {A : Type 0} (P : A → Type 0) → ((x : A) → P x) → (xs : List A) → Each1 P xs
every P holds [] = tt
every P holds (x ∷ xs) = (holds x, every P holds xs)

pub overflow_shr-change : goal.overflow_shr-change
overflow_shr-change g c = Each2-splat _ _ _ _ (every _ (λ x. let less = c.requires.2 in omega (arith, less)) _)

pub overflow_shl-first : goal.overflow_shl-first
overflow_shl-first g c = Each2-splat _ _ _ _ (every _ (λ x. let less = c.requires.2 in omega (arith, less)) _)

-- lane k of an operation with one value in every lane, and of one on two vectors
splat_at : (f : ℕ → ℕ → ℕ) (xs : List ℕ) (n y k : ℕ) → length xs ≡ n → k < n → get_or (zip2 f xs (replicate n y)) k 0 ≡ f (get_or xs k 0) y
splat_at f xs n y k long less =
    let all = length-replicate n y in
    get_or-zip2 f xs (replicate n y) k 0 0 0 (omega arith) (omega arith) ∙ ap (f (get_or xs k 0)) (get_or-replicate n k y 0 less)

both_at : (f : ℕ → ℕ → ℕ) (xs ys : List ℕ) (n k : ℕ) → length xs ≡ n → length ys ≡ n → k < n → get_or (zip2 f xs ys) k 0 ≡ f (get_or xs k 0) (get_or ys k 0)
both_at f xs ys n k left right less = get_or-zip2 f xs ys k 0 0 0 (omega arith) (omega arith)

-- lane k of each vector that the function makes
change_at : (f1 f2 f3 : ℕ → ℕ → ℕ) (l r : List ℕ) (n b e k : ℕ) → length l ≡ n → length r ≡ n → k < n
    → get_or (zip2 f3 (zip2 f2 (zip2 f1 l (replicate n b)) r) (replicate n e)) k 0 ≡ f3 (f2 (f1 (get_or l k 0) b) (get_or r k 0)) e
change_at f1 f2 f3 l r n b e k left right less =
    let all = length-replicate n b in
    let one = length-zip2 f1 l (replicate n b) (left ∙ sym all) in
    let two = length-zip2 f2 (zip2 f1 l (replicate n b)) r (one ∙ left ∙ sym right) in
    splat_at f3 (zip2 f2 (zip2 f1 l (replicate n b)) r) n e k (two ∙ one ∙ left) less
    ∙ ap (λ (x : ℕ). f3 x e) (both_at f2 (zip2 f1 l (replicate n b)) r n k (one ∙ left) right less ∙ ap (λ (x : ℕ). f2 x (get_or r k 0)) (splat_at f1 l n b k left less))

change_long : (f1 f2 f3 : ℕ → ℕ → ℕ) (l r : List ℕ) (n b e : ℕ) → length l ≡ n → length r ≡ n
    → length (zip2 f3 (zip2 f2 (zip2 f1 l (replicate n b)) r) (replicate n e)) ≡ n
change_long f1 f2 f3 l r n b e left right =
    let one = length-zip2 f1 l (replicate n b) (left ∙ sym (length-replicate n b)) in
    let two = length-zip2 f2 (zip2 f1 l (replicate n b)) r (one ∙ left ∙ sym right) in
    length-zip2 f3 (zip2 f2 (zip2 f1 l (replicate n b)) r) (replicate n e) (two ∙ one ∙ left ∙ sym (length-replicate n e)) ∙ two ∙ one ∙ left

first_at : (f1 f2 f3 f4 f5 : ℕ → ℕ → ℕ) (l r : List ℕ) (n b e k : ℕ) → length l ≡ n → length r ≡ n → k < n
    → get_or (zip2 f5 l (zip2 f4 (zip2 f3 (zip2 f2 (zip2 f1 l (replicate n b)) r) (replicate n e)) (replicate n b))) k 0
    ≡ f5 (get_or l k 0) (f4 (f3 (f2 (f1 (get_or l k 0) b) (get_or r k 0)) e) b)
first_at f1 f2 f3 f4 f5 l r n b e k left right less =
    let change = zip2 f3 (zip2 f2 (zip2 f1 l (replicate n b)) r) (replicate n e) in
    let long = change_long f1 f2 f3 l r n b e left right in
    let moved = length-zip2 f4 change (replicate n b) (long ∙ sym (length-replicate n b)) in
    both_at f5 l (zip2 f4 change (replicate n b)) n k left (moved ∙ long) less
    ∙ ap (f5 (get_or l k 0)) (splat_at f4 change n b k long less ∙ ap (λ (x : ℕ). f4 x b) (change_at f1 f2 f3 l r n b e k left right less))

second_at : (f1 f2 f3 f4 : ℕ → ℕ → ℕ) (l r : List ℕ) (n b e k : ℕ) → length l ≡ n → length r ≡ n → k < n
    → get_or (zip2 f4 r (zip2 f3 (zip2 f2 (zip2 f1 l (replicate n b)) r) (replicate n e))) k 0
    ≡ f4 (get_or r k 0) (f3 (f2 (f1 (get_or l k 0) b) (get_or r k 0)) e)
second_at f1 f2 f3 f4 l r n b e k left right less =
    both_at f4 r (zip2 f3 (zip2 f2 (zip2 f1 l (replicate n b)) r) (replicate n e)) n k right (change_long f1 f2 f3 l r n b e left right) less
    ∙ ap (f4 (get_or r k 0)) (change_at f1 f2 f3 l r n b e k left right less)

pub returns-clause-first : goal.returns-clause-first
returns-clause-first g c k less =
    subst (HasFirstBlocks 64 c.args.block _ _)
    (sym (first_at _ _ _ _ _ c.args.left.now.words c.args.right.now.words g.row.N c.args.block c.even_word-even.result k (search rules) (search rules) less))
    (first_blocks 64 c.args.block c.even_word-even.result _ _ c.even_word-even.ensures.some c.even_word-even.ensures.even)

pub returns-clause-second : goal.returns-clause-second
returns-clause-second g c k less =
    subst (HasSecondBlocks 64 c.args.block _ _)
    (sym (second_at _ _ _ _ c.args.left.now.words c.args.right.now.words g.row.N c.args.block c.even_word-even.result k (search rules) (search rules) less))
    (second_blocks 64 c.args.block c.even_word-even.result _ _ c.even_word-even.ensures.even)
