-- Three coefficients of 64 bits, as one number and as text.
use Rattle.std.proofs.Common.{◌≡◌, ℕ, ◌+◌, ◌*◌, ◌/◌, ◌%◌, ◌^◌, ◌<◌, ◌≤◌, List, [], ◌∷◌, ◌++◌, Some, refl, sym, subst, ◌∙◌, ap, arith, lit<}
use Rattle.std.specs.Option.{option_map}
use Rattle.std.specs.Int.{bytes_high_first}
use Rattle.std.proofs.Math.Nat.{mod-eq_of_lt, pow-le-pow_right}
use Rattle.hex.specs.Hex.{lower_digits, encode_with}
use Rattle.field_base.specs.Chunks.{chunk}
use Rattle.field_base.specs.Remainder.{aes_modulus, poly64_modulus, ghash_modulus}
use Rattle.word_polynomial.specs.Cubic.{triple}
use Rattle.word_polynomial.specs.lemmas.Triple.{same₃, first-triple, second-triple, third-triple, triple-chunks, triple-lt}
use Rattle.calculator.specs.Digits.{low_digits}
use Rattle.calculator.specs.Elements.{CoefficientsStandInOrder, ElementIsReadBack}
use Rattle.calculator.specs.Fields.{WrittenField, bytes_of, lowest_first, tower_level, polynomials_modulo, cubic_extension, field_named}
use Rattle.calculator.proofs.DigitLemmas.{encode_with-bytes, operand_value-hex_text}
use Rattle.calculator.proofs.NamedFields.{all_named}
use Rattle.calculator.proofs.NumberLemmas.{bytes-joined}
use Rattle.field_base.proofs.ChunkLists.{pow-256, chunk-lt}

-- ---- the number that is written and that of the element

-- the text of c0 + c1 y + c2 y² writes the number of c2 + c1 y + c0 y², and the other way round
lowest_first-triple : (c0 c1 c2 : ℕ) → c0 < 2 ^ 64 → c1 < 2 ^ 64 → c2 < 2 ^ 64
    → lowest_first (triple 64 c0 c1 c2) ≡ triple 64 c2 c1 c0
lowest_first-triple c0 c1 c2 fits0 fits1 fits2 =
    same₃ (triple 64) (third-triple 64 c0 c1 c2 fits0 fits1 fits2) (second-triple 64 c0 c1 c2 fits0 fits1)
    (first-triple 64 c0 c1 c2 fits0)

-- it has 192 bits
pub lowest_first-lt : (n : ℕ) → lowest_first n < 2 ^ 192
lowest_first-lt n =
    triple-lt 64 (chunk 64 2 n) (chunk 64 1 n) (chunk 64 0 n) (chunk-lt 64 2 n) (chunk-lt 64 1 n) (chunk-lt 64 0 n)

-- the element of the coefficients that a number writes
pub element-written : (high low : ℕ) → high < 2 ^ 64 → low < 2 ^ 128
    → triple 64 high (low / 2 ^ 64) (low % 2 ^ 64) ≡ lowest_first (high * 2 ^ 128 + low)
element-written high low high_fits low_fits =
    let written = high * 2 ^ 128 + low in
    let place0 : high ≡ chunk 64 2 written = omega (arith, high_fits, low_fits) in
    let place1 : low / 2 ^ 64 ≡ chunk 64 1 written = omega (arith, low_fits) in
    let place2 : low % 2 ^ 64 ≡ chunk 64 0 written = omega arith in
    same₃ (triple 64) place0 place1 place2

-- ---- elements are read back

-- the change of order keeps numbers within the bits of the field, and undoes itself
abbrev TurnsBack : WrittenField → Type 0
TurnsBack field = (x : ℕ) → x < 2 ^ field.bits → (field.order x < 2 ^ field.bits) × (field.order (field.order x) ≡ x)

-- a level of the tower changes nothing, and so turns back
tower-back : (k : ℕ) → TurnsBack (tower_level k)
tower-back k x fits = (fits, refl)

-- polynomials modulo one change nothing, and so turn back
polynomials-back : (bits modulus : ℕ) → TurnsBack (polynomials_modulo bits modulus)
polynomials-back bits modulus x fits = (fits, refl)

-- three coefficients turned round twice stand as before
cubic-back : TurnsBack cubic_extension
cubic-back x fits =
    let below = λ (i : ℕ). chunk-lt 64 i x in (
      lowest_first-lt x,
      lowest_first-triple (chunk 64 2 x) (chunk 64 1 x) (chunk 64 0 x) (below 2) (below 1) (below 0)
          ∙ triple-chunks 64 x ∙ mod-eq_of_lt fits,
    )

-- the order of each field that a line may name turns back
named-back : (name : List ℕ) (field : WrittenField) → field_named name ≡ Some field → TurnsBack field
named-back =
    all_named TurnsBack tower-back (polynomials-back 8 aes_modulus) (polynomials-back 64 poly64_modulus)
    (polynomials-back 128 ghash_modulus) cubic-back (λ m p pass. polynomials-back m p)

-- in each field that a line may name, the text of an element writes that element
pub element-read_back : ElementIsReadBack
element-read_back name field is x fits =
    let back = named-back name field is x fits in
    let room : 2 ^ field.bits ≤ 2 ^ (8 * bytes_of field) = pow-le-pow_right {n = 2} (lit< tt) {i = field.bits} {j = 8 * bytes_of field} (omega arith) in
    let fits_bytes : field.order x < 256 ^ bytes_of field =
    subst (λ (m : ℕ). field.order x < m) (sym (pow-256 (bytes_of field))) (omega (arith, back.0, room)) in
    ap (option_map field.order) (operand_value-hex_text (bytes_of field) (field.order x) fits_bytes) ∙ ap Some back.1

-- ---- the text of coefficients

-- the digits of bytes that are joined are their digits, joined
encode_with-append : (table front back : List ℕ) → encode_with table (front ++ back) ≡ encode_with table front ++ encode_with table back
unfolding encode_with
encode_with-append table [] back = refl
encode_with-append table (byte ∷ front) back = rw (encode_with-append table front back) refl

-- the text of an element of the cubic extension is the texts of c0, c1 and c2, in this order
pub coefficients-in_order : CoefficientsStandInOrder
unfolding low_digits
coefficients-in_order c0 c1 c2 fits0 fits1 fits2 =
    let text = λ (count n : ℕ). sym (encode_with-bytes count n) in
    let low = c1 * 256 ^ 8 + c2 in
    let written : lowest_first (triple 64 c0 c1 c2) ≡ c0 * 256 ^ 16 + low =
    lowest_first-triple c0 c1 c2 fits0 fits1 fits2 ∙ omega arith in
    let all : bytes_high_first 24 (c0 * 256 ^ 16 + low) ≡ bytes_high_first 8 c0 ++ bytes_high_first 16 low =
    bytes-joined 8 16 c0 low (omega arith) in
    let last : bytes_high_first 16 low ≡ bytes_high_first 8 c1 ++ bytes_high_first 8 c2 = bytes-joined 8 8 c1 c2 fits2 in
    ap (low_digits 48) written ∙ text 24 (c0 * 256 ^ 16 + low) ∙ ap (encode_with lower_digits) all
    ∙ encode_with-append lower_digits (bytes_high_first 8 c0) (bytes_high_first 16 low)
    ∙ (λ i. encode_with-bytes 8 c0 i ++ (ap (encode_with lower_digits) last
    ∙ encode_with-append lower_digits (bytes_high_first 8 c1) (bytes_high_first 8 c2)
    ∙ (λ j. encode_with-bytes 8 c1 j ++ encode_with-bytes 8 c2 j)) i)
