-- What is read or written stripe by stripe is the whole file.
use Rattle.std.proofs.Common.{◌≡◌, ℕ, zero, suc, ◌+◌, ◌-◌, ◌*◌, ◌≤◌, min, List, [], ◌∷◌, ◌++◌, length, take, drop, refl, sym, ◌∙◌, ap, ap₂, arith}
use Rattle.std.proofs.Math.Seq.{take-add}
use Rattle.std.proofs.lemmas.List.{length-append}

one_more : (n w : ℕ) → (n + 1) * w ≡ n * w + w
one_more n w = omega arith

-- the bytes of the first stripes and of the next are as many as those of one stripe more
pub joined_length : (n w long : ℕ) (so_far bytes : List ℕ) → length so_far ≡ min (n * w) long → length bytes ≡ min w (long - n * w)
    → length (so_far ++ bytes) ≡ min ((n + 1) * w) long
joined_length n w long so_far bytes before next =
    length-append so_far bytes ∙ ap₂ (λ (a b : ℕ). a + b) before next ∙ sums (n * w) w long ∙ ap (λ (m : ℕ). min m long) (sym (one_more n w))
  where
    sums : (m w long : ℕ) → min m long + min w (long - m) ≡ min (m + w) long
    sums m w long = omega arith

-- and they are its bytes
pub joined_content : (n w : ℕ) (content so_far bytes : List ℕ) → so_far ≡ take (n * w) content → bytes ≡ take w (drop (n * w) content)
    → so_far ++ bytes ≡ take ((n + 1) * w) content
joined_content n w content so_far bytes before next =
    ap₂ (λ (a b : List ℕ). a ++ b) before next ∙ sym (take-add (n * w) w content) ∙ ap (λ (m : ℕ). take m content) (sym (one_more n w))

-- all stripes are the file
pub whole_length : (n w long count : ℕ) → long ≤ n * w → count ≡ min (n * w) long → count ≡ long
whole_length n w long count all is = omega (arith, all, is)

module _ {X : Type 0} where
  pub take_all : (n : ℕ) (content : List X) → length content ≤ n → take n content ≡ content
  take_all zero [] all = refl
  take_all (suc n) [] all = refl
  take_all zero (x ∷ content) all = absurd (omega (arith, all))
  take_all (suc n) (x ∷ content) all = ap (λ (l : List X). x ∷ l) (take_all n content (omega (arith, all)))

-- no stripe is no byte
pub none_yet : (w : ℕ) (content : List ℕ) → [] ≡ take (0 * w) content
none_yet w content = ap (λ (n : ℕ). take n content) (nothing w)
  where
    nothing : (w : ℕ) → 0 ≡ 0 * w
    nothing w = omega arith

pub none_long : (w long : ℕ) → 0 ≡ min (0 * w) long
none_long w long = let nothing : 0 * w ≡ 0 = omega arith in omega (arith, nothing)
