-- The chunks of a number, and the list of the first of them, from the back: what one chunk more makes of it.
use Rattle.std.proofs.Common.{◌≡◌, ℕ, zero, suc, ◌+◌, ◌*◌, ◌-◌, ◌/◌, ◌%◌, ◌^◌, ◌<◌, ◌≤◌, List, [], ◌∷◌, ◌++◌, map, refl, sym, ◌∙◌, ap, ap₂, subst, arith}
use Rattle.std.specs.Prelude.{bit_xor}
use Rattle.std.proofs.lemmas.Nat.{xor_shr, xor_mod, mod-pow-add, shr_high, pow-add, pow_pos}
use Rattle.std.proofs.lemmas.List.{append-nil, append_assoc, map-append}
use native.Mathlib.Nat.{pow-suc, mul-add, mod-eq_of_lt, mod-lt, mul-suc, mul-zero, mul_assoc, div-one, add-mul-mod_self_right}
use native.Mathlib.Numerals.{add-one}
use lib.Arith.{digits_lt}
use Rattle.field_base.specs.Chunks.{chunk, chunks}

-- a power of 256 is one of 2
pub pow-256 : (n : ℕ) → 256 ^ n ≡ 2 ^ (8 * n)
pow-256 zero = refl
pow-256 (suc n) =
    let next : 8 * suc n ≡ 8 * n + 8 = omega arith in
    pow-suc 256 n ∙ ap (λ (x : ℕ). x * 256) (pow-256 n) ∙ sym (pow-add 2 (8 * n) 8) ∙ ap (λ (e : ℕ). 2 ^ e) (sym next)

-- the lowest chunk is the low bits
pub chunk-first : (width a : ℕ) → chunk width 0 a ≡ a % 2 ^ width
chunk-first width a =
    ap (λ (k : ℕ). a / 2 ^ k % 2 ^ width) (mul-zero width) ∙ ap (λ (x : ℕ). x % 2 ^ width) (div-one a)

-- a chunk of a sum is the sum of the chunks
pub chunk_xor : (width i a b : ℕ) → chunk width i (bit_xor a b) ≡ bit_xor (chunk width i a) (chunk width i b)
chunk_xor width i a b =
    ap (λ (x : ℕ). x % 2 ^ width) (xor_shr a b (width * i)) ∙ xor_mod (a / 2 ^ (width * i)) (b / 2 ^ (width * i)) width

-- a chunk is that of the low bits up to its end
chunk-low : (width i a : ℕ) → a % 2 ^ (width + width * i) / 2 ^ (width * i) ≡ chunk width i a
chunk-low width i a =
    ap (λ (x : ℕ). x / 2 ^ (width * i)) (mod-pow-add a width (width * i))
    ∙ shr_high (chunk width i a) (width * i) (a % 2 ^ (width * i)) (mod-lt a (pow_pos (width * i)))

-- so bits above it do not change it
pub chunk_above : (width n i high low : ℕ) → i < n → chunk width i (high * 2 ^ (width * n) + low) ≡ chunk width i low
chunk_above width n i high low fits =
    let parts : width * n ≡ width * (n - suc i) + (width + width * i) =
    ap (λ (x : ℕ). width * x) (omega (arith, fits)) ∙ mul-sum (n - suc i) ∙ ap (λ (x : ℕ). width * (n - suc i) + x) (mul-suc width i ∙ omega arith) in
    let shifted : high * 2 ^ (width * n) ≡ high * 2 ^ (width * (n - suc i)) * 2 ^ (width + width * i) =
    ap (λ (x : ℕ). high * 2 ^ x) parts ∙ ap (λ (x : ℕ). high * x) (pow-add 2 (width * (n - suc i)) (width + width * i))
    ∙ sym (mul_assoc high (2 ^ (width * (n - suc i))) (2 ^ (width + width * i))) in
    sym (chunk-low width i (high * 2 ^ (width * n) + low))
    ∙ ap (λ (x : ℕ). x / 2 ^ (width * i))
    (ap (λ (x : ℕ). (x + low) % 2 ^ (width + width * i)) shifted
    ∙ low_stays (high * 2 ^ (width * (n - suc i))) (2 ^ (width + width * i)))
    ∙ chunk-low width i low
  where
    mul-sum : (k : ℕ) → width * (k + suc i) ≡ width * k + width * suc i
    mul-sum k = mul-add width k (suc i)

    low_stays : (a b : ℕ) → (a * b + low) % b ≡ low % b
    low_stays a b = ap (λ (x : ℕ). x % b) (omega arith) ∙ add-mul-mod_self_right low a b

-- a chunk fits its width
pub chunk-lt : (width i a : ℕ) → chunk width i a < 2 ^ width
chunk-lt width i a = mod-lt (a / 2 ^ (width * i)) (pow_pos width)

-- what stands above n chunks does not change the first i, for i at most n
chunks_above : (width n i high low : ℕ) → i ≤ n → chunks width i (high * 2 ^ (width * n) + low) ≡ chunks width i low
unfolding chunks
chunks_above width n zero high low fits = refl
chunks_above width n (suc i) high low fits =
    ap₂ (λ xs x. xs ++ x ∷ []) (chunks_above width n i high low (omega (arith, fits))) (chunk_above width n i high low (omega (arith, fits)))

-- one chunk more
pub chunks-put : (width i a c x : ℕ) → x < 2 ^ (width * i) → c < 2 ^ width → a ≡ c * 2 ^ (width * i) + x
    → chunks width (suc i) a ≡ chunks width i x ++ c ∷ []
unfolding chunks
chunks-put width i a c x low_fits high_fits is =
    ap (λ (y : ℕ). chunks width i y ++ chunk width i y ∷ []) is
    ∙ ap₂ (λ xs y. xs ++ y ∷ []) (chunks_above width i i c x (omega arith))
    (ap (λ (y : ℕ). y % 2 ^ width) (shr_high c (width * i) x low_fits) ∙ mod-eq_of_lt high_fits)

-- with a chunk put above i chunks, the list has it behind them
pub chunks-more : (width i a c x : ℕ) → x < 2 ^ (width * i) → c < 2 ^ width → a ≡ c * 2 ^ (width * i) + x
    → chunks width (i + 1) a ≡ chunks width i x ++ c ∷ []
chunks-more width i a c x low_fits high_fits is =
    ap (λ (k : ℕ). chunks width k a) (add-one i) ∙ chunks-put width i a c x low_fits high_fits is

-- a chunk put above i chunks leaves i + 1 of them
pub put-lt : (width i a c x : ℕ) → x < 2 ^ (width * i) → c < 2 ^ width → a ≡ c * 2 ^ (width * i) + x
    → a < 2 ^ (width * suc i)
put-lt width i a c x low_fits high_fits is =
    let bits : 2 ^ (width * suc i) ≡ 2 ^ width * 2 ^ (width * i) =
    ap (λ (k : ℕ). 2 ^ k) (mul-suc width i ∙ omega arith) ∙ pow-add 2 width (width * i) in
    omega (arith, bits, is, digits_lt high_fits low_fits)

-- so that the number has one chunk more
pub more-lt : (width i a c x : ℕ) → x < 2 ^ (width * i) → c < 2 ^ width → a ≡ c * 2 ^ (width * i) + x
    → a < 2 ^ (width * (i + 1))
more-lt width i a c x low_fits high_fits is =
    subst (λ (k : ℕ). a < 2 ^ (width * k)) (sym (add-one i)) (put-lt width i a c x low_fits high_fits is)

-- no chunks
pub chunks-none : (width a : ℕ) → chunks width 0 a ≡ []
unfolding chunks
chunks-none width a = refl

-- the first i + 1 chunks are the first i and the next
pub chunks-next : (width i a : ℕ) → chunks width (i + 1) a ≡ chunks width i a ++ chunk width i a ∷ []
unfolding chunks
chunks-next width i a = ap (λ (k : ℕ). chunks width k a) (add-one i)

-- a number that fits is its only chunk
pub chunk-whole : (width a : ℕ) → a < 2 ^ width → chunk width 0 a ≡ a
chunk-whole width a fits =
    ap (λ (k : ℕ). a / 2 ^ k % 2 ^ width) (mul-zero width) ∙ ap (λ (x : ℕ). x % 2 ^ width) (div-one a) ∙ mod-eq_of_lt fits

-- and its list of chunks has that one
pub chunks-whole : (width a : ℕ) → a < 2 ^ width → a ∷ [] ≡ chunks width 1 a
unfolding chunks
chunks-whole width a fits = ap (λ x. x ∷ []) (sym (chunk-whole width a fits))

-- before the first chunk of a number is pushed
pub none_pushed : (width x : ℕ) (ys : List ℕ) → ys ≡ ys ++ chunks width 0 x
none_pushed width x ys = sym (ap (λ zs. ys ++ zs) (chunks-none width x) ∙ append-nil ys)

-- one chunk more of the number that is being taken apart, behind what others began
pub chunk_pushed : {A : Type 0} (repr : A → ℕ) (width i x : ℕ) (items new : List A) (v : A) (begun : List ℕ) → new ≡ items ++ v ∷ []
    → map repr items ≡ begun ++ chunks width i x → repr v ≡ chunk width i x → map repr new ≡ begun ++ chunks width (i + 1) x
chunk_pushed repr width i x items new v begun is so_far value =
    ap (map repr) is ∙ map-append repr items (v ∷ []) ∙ ap₂ (λ ys y. ys ++ y ∷ []) so_far value
    ∙ append_assoc begun (chunks width i x) (chunk width i x ∷ []) ∙ ap (λ ys. begun ++ ys) (sym (chunks-next width i x))
