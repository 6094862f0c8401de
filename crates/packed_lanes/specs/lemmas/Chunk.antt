-- The digits of a number, from the front. These lemmas stand here since those on joined words, which the
-- impls of blocks name, depend on them.
use Rattle.std.proofs.Common.{◌≡◌, ℕ, zero, suc, ◌+◌, ◌*◌, ◌/◌, ◌%◌, ◌^◌, ◌<◌, List, [], ◌∷◌, ◌++◌, get_or, length, refl, sym, ap, ap₂, ◌∙◌, arith}
use Rattle.std.proofs.Math.Nat.{div-one}
use Rattle.std.proofs.lemmas.Nat.{shr-shr}
use Rattle.field_base.specs.Chunks.{chunk, chunks}

-- digit 0 is the remainder
pub chunk-zero : (w n : ℕ) → n % 2 ^ w ≡ chunk w 0 n
chunk-zero w n =
    let none : w * 0 ≡ 0 = omega arith in
    ap (λ (x : ℕ). x % 2 ^ w) (sym (div-one n)) ∙ ap (λ (k : ℕ). n / 2 ^ k % 2 ^ w) (sym none)

-- digit i of the quotient is digit i + 1 of the number
pub chunk-later : (w n i : ℕ) → chunk w i (n / 2 ^ w) ≡ chunk w (suc i) n
chunk-later w n i =
    let more : w * suc i ≡ w + w * i = omega arith in
    ap (λ (x : ℕ). x % 2 ^ w) (shr-shr n w (w * i) ∙ ap (λ (k : ℕ). n / 2 ^ k) (sym more))

-- the first i + 1 digits are the remainder and the first i of the quotient
pub chunks-front : (w i n : ℕ) → chunks w (suc i) n ≡ n % 2 ^ w ∷ chunks w i (n / 2 ^ w)
unfolding chunks
chunks-front w zero n = ap (λ (x : ℕ). x ∷ []) (sym (chunk-zero w n))
chunks-front w (suc i) n =
    ap₂ (λ (xs : List ℕ) (x : ℕ). xs ++ x ∷ []) (chunks-front w i n) (sym (chunk-later w n i))

-- there are n digits in a list of the first n
pub chunks-length : (w n a : ℕ) → length (chunks w n a) ≡ n
unfolding chunks
chunks-length w zero a = refl
chunks-length w (suc n) a = ap length (chunks-front w n a) ∙ ap suc (chunks-length w n (a / 2 ^ w))

-- entry i of a list of digits is digit i
pub chunks-get : (w n a i d : ℕ) → i < n → get_or (chunks w n a) i d ≡ chunk w i a
chunks-get w zero a i d less = absurd (omega arith)
chunks-get w (suc n) a zero d less = ap (λ (xs : List ℕ). get_or xs 0 d) (chunks-front w n a) ∙ chunk-zero w a
chunks-get w (suc n) a (suc i) d less =
    ap (λ (xs : List ℕ). get_or xs (suc i) d) (chunks-front w n a) ∙ chunks-get w n (a / 2 ^ w) i d (omega arith) ∙ chunk-later w a i

-- numbers of the same digits have the same list of them
pub chunks-same : (w i a b : ℕ) → ((k : ℕ) → k < i → chunk w k a ≡ chunk w k b) → chunks w i a ≡ chunks w i b
unfolding chunks
chunks-same w zero a b same = refl
chunks-same w (suc i) a b same =
    ap₂ (λ (xs : List ℕ) (x : ℕ). xs ++ x ∷ []) (chunks-same w i a b (λ k less. same k (omega arith))) (same i (omega arith))
