-- Three coefficients and their number, and three words and theirs. They stand here since what stores an element of the cubic extension
-- cites them.
use Rattle.std.proofs.Common.{◌≡◌, ℕ, ◌+◌, ◌*◌, ◌/◌, ◌%◌, ◌^◌, ◌<◌, sym, ◌∙◌, ap, subst, arith, [], ◌∷◌}
use Rattle.std.specs.Prelude.{◌↔◌, bit_xor}
use Rattle.std.proofs.lemmas.Nat.{xor_lt, mod-pow-add, shr_high, shr-shr, pow-add}
use native.Mathlib.Bridge.{le_prop}
use native.Mathlib.Nat.{mul-one}
use mathlib.Core.HLevel.{is_prop→PathP}
use lib.Arith.{digits_lt}
use Rattle.field_base.specs.Quadratic.{pair}
use Rattle.field_base.specs.Chunks.{chunk, chunks}
use Rattle.field_base.proofs.QuadraticProducts.{pair-low}
use Rattle.field_base.proofs.QuadraticRing.{high_half-pair, low_half-pair, pair-halves, pair-lt, pair_xor}
use Rattle.word_polynomial.specs.Cubic.{triple}
use Rattle.word_polynomial.specs.Triple.{triple_number}
use Rattle.word_polynomial.specs.declared.triple.Triple.{Triple}
use Rattle.field_base.proofs.ChunkLists.{chunk-lt, chunk-first}

-- a function of three numbers has one value at equal numbers
pub same₃ : (f : ℕ → ℕ → ℕ → ℕ) → {x x' y y' z z' : ℕ} → x ≡ x' → y ≡ y' → z ≡ z' → f x y z ≡ f x' y' z'
same₃ f ex ey ez = λ i. f (ex i) (ey i) (ez i)

-- chunk 1 is the next w bits
pub chunk-second : (width a : ℕ) → chunk width 1 a ≡ a / 2 ^ width % 2 ^ width
chunk-second width a = ap (λ (k : ℕ). a / 2 ^ k % 2 ^ width) (mul-one width)

-- chunk 2 is the w bits after these
pub chunk-third : (width a : ℕ) → chunk width 2 a ≡ a / 2 ^ width / 2 ^ width % 2 ^ width
chunk-third width a =
    let bits : width * 2 ≡ width + width = omega arith in
    ap (λ (k : ℕ). a / 2 ^ k % 2 ^ width) bits ∙ ap (λ (x : ℕ). x % 2 ^ width) (sym (shr-shr a width width))

-- chunk 0 of x + y Y + z Y² is x
pub first-triple : (width x y z : ℕ) → x < 2 ^ width → chunk width 0 (triple width x y z) ≡ x
first-triple width x y z x_fits = chunk-first width (triple width x y z) ∙ low_half-pair width x (pair width y z) x_fits

-- chunk 1 is y
pub second-triple : (width x y z : ℕ) → x < 2 ^ width → y < 2 ^ width → chunk width 1 (triple width x y z) ≡ y
second-triple width x y z x_fits y_fits =
    chunk-second width (triple width x y z)
    ∙ ap (λ (r : ℕ). r % 2 ^ width) (shr_high (pair width y z) width x x_fits) ∙ low_half-pair width y z y_fits

-- chunk 2 is z
pub third-triple : (width x y z : ℕ) → x < 2 ^ width → y < 2 ^ width → z < 2 ^ width → chunk width 2 (triple width x y z) ≡ z
third-triple width x y z x_fits y_fits z_fits =
    chunk-third width (triple width x y z)
    ∙ ap (λ (r : ℕ). r / 2 ^ width % 2 ^ width) (shr_high (pair width y z) width x x_fits)
    ∙ high_half-pair width y z y_fits z_fits

-- the list of its coefficients
pub chunks-triple : (width x y z : ℕ) → x < 2 ^ width → y < 2 ^ width → z < 2 ^ width
    → chunks width 3 (triple width x y z) ≡ x ∷ y ∷ z ∷ []
unfolding chunks
chunks-triple width x y z x_fits y_fits z_fits =
    λ i. first-triple width x y z x_fits i ∷ second-triple width x y z x_fits y_fits i
    ∷ third-triple width x y z x_fits y_fits z_fits i ∷ []

-- the coefficients of a number are those of its low bits
pub triple-chunks : (width a : ℕ) → triple width (chunk width 0 a) (chunk width 1 a) (chunk width 2 a) ≡ a % 2 ^ (width + width + width)
triple-chunks width a =
    same₃ (triple width) (chunk-first width a) (chunk-second width a) (chunk-third width a)
    ∙ ap (pair width (a % 2 ^ width)) (pair-halves width (a / 2 ^ width)) ∙ sym (mod-pow-add a (width + width) width)

-- three numbers of w bits are a number of 3 w bits
pub triple-lt : (width x y z : ℕ) → x < 2 ^ width → y < 2 ^ width → z < 2 ^ width → triple width x y z < 2 ^ (width + width + width)
triple-lt width x y z x_fits y_fits z_fits =
    subst (λ (n : ℕ). triple width x y z < n) (sym (pow-add 2 (width + width) width))
    (digits_lt (pair-lt width y z y_fits z_fits) x_fits)

-- an element of the ring below
pub triple-low : (width x : ℕ) → triple width x 0 0 ≡ x
triple-low width x = ap (pair width x) (pair-low width 0) ∙ pair-low width x

-- triples are added coefficient by coefficient
pub triple_sum : (width x y z x' y' z' : ℕ) → x < 2 ^ width → x' < 2 ^ width → y < 2 ^ width → y' < 2 ^ width
    → bit_xor (triple width x y z) (triple width x' y' z') ≡ triple width (bit_xor x x') (bit_xor y y') (bit_xor z z')
triple_sum width x y z x' y' z' x_fits x'_fits y_fits y'_fits =
    sym (ap (pair width (bit_xor x x')) (pair_xor width y z y' z' y_fits y'_fits)
    ∙ pair_xor width x (pair width y z) x' (pair width y' z') x_fits x'_fits)

-- so are three triples
pub three_sums : (width x y z x' y' z' x'' y'' z'' : ℕ) → x < 2 ^ width → x' < 2 ^ width → x'' < 2 ^ width
    → y < 2 ^ width → y' < 2 ^ width → y'' < 2 ^ width
    → bit_xor (bit_xor (bit_xor 0 (triple width x y z)) (triple width x' y' z')) (triple width x'' y'' z'')
    ≡ triple width (bit_xor (bit_xor x x') x'') (bit_xor (bit_xor y y') y'') (bit_xor (bit_xor z z') z'')
three_sums width x y z x' y' z' x'' y'' z'' x_fits x'_fits x''_fits y_fits y'_fits y''_fits =
    ap (λ (s : ℕ). bit_xor s (triple width x'' y'' z'')) (triple_sum width x y z x' y' z' x_fits x'_fits y_fits y'_fits)
    ∙ triple_sum width (bit_xor x x') (bit_xor y y') (bit_xor z z') x'' y'' z'' (xor_lt width x x' x_fits x'_fits) x''_fits
    (xor_lt width y y' y_fits y'_fits) y''_fits

-- the three words of the low 192 bits of a number
abbrev pub triple_of_number : ℕ → Triple
triple_of_number n = record {
  c0 = chunk 64 0 n;
  c1 = chunk 64 1 n;
  c2 = chunk 64 2 n;
  in_range = record { first = chunk-lt 64 0 n; second = chunk-lt 64 1 n; third = chunk-lt 64 2 n };
}

-- three words are an element of 192 bits
pub fits_192 : (x : Triple) → triple_number x < 2 ^ 192
fits_192 x = triple-lt 64 x.c0 x.c1 x.c2 x.in_range.first x.in_range.second x.in_range.third

-- two triples of words that have one number are one
pub same_number : (x y : Triple) → triple_number x ≡ triple_number y → x ≡ y
same_number x y same =
    let e0 = sym (first-triple 64 x.c0 x.c1 x.c2 x.in_range.first) ∙ ap (chunk 64 0) same
    ∙ first-triple 64 y.c0 y.c1 y.c2 y.in_range.first in
    let e1 = sym (second-triple 64 x.c0 x.c1 x.c2 x.in_range.first x.in_range.second) ∙ ap (chunk 64 1) same
    ∙ second-triple 64 y.c0 y.c1 y.c2 y.in_range.first y.in_range.second in
    let e2 = sym (third-triple 64 x.c0 x.c1 x.c2 x.in_range.first x.in_range.second x.in_range.third) ∙ ap (chunk 64 2) same
    ∙ third-triple 64 y.c0 y.c1 y.c2 y.in_range.first y.in_range.second y.in_range.third in
    λ i. record {
      c0 = e0 i;
      c1 = e1 i;
      c2 = e2 i;
      in_range = record {
        first = is_prop→PathP (λ j. e0 j < 2 ^ 64) (λ j. le_prop) x.in_range.first y.in_range.first i;
        second = is_prop→PathP (λ j. e1 j < 2 ^ 64) (λ j. le_prop) x.in_range.second y.in_range.second i;
        third = is_prop→PathP (λ j. e2 j < 2 ^ 64) (λ j. le_prop) x.in_range.third y.in_range.third i;
      };
    }

-- a proposition that says that the words are equal says that the numbers are
pub words_law : (x y : Triple) {P : Type 0} → (P ↔ ((x.c0 ≡ y.c0) × (x.c1 ≡ y.c1) × (x.c2 ≡ y.c2))) → P ↔ (triple_number x ≡ triple_number y)
words_law x y parts = (
  (λ p. let same = parts.0 p in λ i. triple 64 (same.0 i) (same.1 i) (same.2 i)),
  (λ e.
      let same = same_number x y e in
      parts.1 (ap (λ (z : Triple). z.c0) same, ap (λ (z : Triple). z.c1) same, ap (λ (z : Triple). z.c2) same)),
)
