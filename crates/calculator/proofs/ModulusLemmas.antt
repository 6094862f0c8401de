-- The polynomials that have a field are those of degree 1 to 128 that are irreducible.
use Rattle.std.proofs.Common.{◌≡◌, ◌≢◌, ◌↔◌, ℕ, zero, suc, ◌+◌, ◌-◌, ◌*◌, ◌/◌, ◌^◌, ◌<◌, ◌≤◌, ◌&&◌, ◌||◌, Bool, true, false, not, nat_lt, nat_le, nat_eq, List, [], ◌++◌, length, drop, get_or, drop-cons, replicate, append-nil, length-append, length-drop, Option, Some, None, Result, Ok, Err, ⊎_elim, refl, sym, subst, ◌∙◌, ap, ap₂, arith}
use Rattle.std.specs.Option.{option_and_then, option_map}
use Rattle.std.specs.Prelude.{IfErr, IfOk}
use Rattle.std.specs.Result.{result_ok}
use Rattle.std.proofs.lemmas.Bool.{cond-true, cond-false, cases_eq, false_from_ne_true, eq-eqb, leb-true, le-leb, or_left, or_right, true≢false}
use Rattle.std.proofs.lemmas.Bool.Decides.{Decides-and, Decides-not, Decides-eqb, Decides-ltb}
use Rattle.std.proofs.lemmas.List.{drop_all, length-replicate, take-replicate}
use Rattle.std.proofs.Math.Nat.{pow-suc}
use Rattle.std.proofs.Math.Pow.{pow_mono}
use borrow.Rule.Slice.PartMut.{put_mid, post_of}
use Rattle.field_base.specs.Carryless.{carryless}
use Rattle.field_base.specs.Field.{IsField}
use Rattle.field_base.specs.Remainder.{HasDegree, mul_mod}
use Rattle.field_base.proofs.CarrylessProduct.{carryless_comm, one_carryless}
use Rattle.any_field.specs.Contexts.{IsFieldModulus, with_top}
use Rattle.any_field.specs.Irreducible.{IsIrreducible}
use Rattle.any_field.specs.declared.extension.BinaryExtension.{BinaryExtension}
use Rattle.any_field.proofs.Degrees.{degree-least, degree-most}
use Rattle.any_field.proofs.IrreducibleFields.{degree-fits, irreducible-by, irreducible_gives_field}
use Rattle.any_field.proofs.WordRemainders.{top-degree}
use Rattle.calculator.specs.Digits.{decimal_after, decimal_digit, number_after, operand_value}
use Rattle.calculator.specs.Fields.{field_modulo, polynomials_modulo}
use Rattle.calculator.specs.Moduli.{some_below, has_factors, has_field, FieldsAreOfIrreducibles}

-- ---- searches

-- a number that passes the test is found
some_below-found : (n k : ℕ) (test : ℕ → Bool) → k < n → test k ≡ true → some_below n test ≡ true
unfolding some_below
some_below-found zero k test less pass = absurd (omega arith)
some_below-found (suc n) k test less pass =
    ⊎_elim
    (λ last. or_left (test n) (some_below n test) (subst (λ (z : ℕ). test z ≡ true) last pass))
    (λ other. or_right (test n) (some_below n test) (some_below-found n k test (omega (arith, less, other)) pass))
    (cases_eq k n)

-- what is found passes it
found-below : (n : ℕ) (test : ℕ → Bool) → some_below n test ≡ true → (k : ℕ) × (k < n) × (test k ≡ true)
unfolding some_below
found-below zero test found = absurd (true≢false (sym found))
found-below (suc n) test found = by (test n) refl found (found-below n test)
  where
    by : (b : Bool) → test n ≡ b → (b || some_below n test) ≡ true
        → (some_below n test ≡ true → (k : ℕ) × (k < n) × (test k ≡ true)) → (k : ℕ) × (k < suc n) × (test k ≡ true)
    by true here all before = (n, omega arith, here)
    by false here later before = let found = before later in (found.0, omega (arith, found.1), found.2)

-- ---- factors

module _ (m p : ℕ) (some : 0 < m) (degree : HasDegree m p) where
  -- two factors of lower degree are found
  factors-found : (g h : ℕ) → g < 2 ^ m → h < 2 ^ m → carryless g h ≡ p → has_factors m p ≡ true
  unfolding has_factors
  factors-found g h g_fits h_fits is =
      some_below-found (2 ^ m) g (λ a. some_below (2 ^ m) (λ b. nat_eq (carryless a b) p)) g_fits
      (some_below-found (2 ^ m) h (λ b. nat_eq (carryless g b) p) h_fits ((Decides-eqb (carryless g h) p).1 is))

  -- a factor 1 leaves the polynomial, whose degree is not lower
  not_below : (h : ℕ) → h < 2 ^ m → carryless 1 h ≡ p → ⊥
  not_below h fits is =
      let same : h ≡ p = sym (one_carryless h) ∙ is in
      let least : 2 ^ m ≤ p = degree-least m p degree in
      absurd (omega (arith, same, least, fits))

  -- an irreducible polynomial has none
  no_factors : IsIrreducible p → has_factors m p ≡ true → ⊥
  unfolding has_factors
  no_factors irreducible found =
      let left = found-below (2 ^ m) (λ a. some_below (2 ^ m) (λ b. nat_eq (carryless a b) p)) found in
      let right = found-below (2 ^ m) (λ b. nat_eq (carryless left.0 b) p) left.2 in
      let product : carryless left.0 right.0 ≡ p = (Decides-eqb (carryless left.0 right.0) p).0 right.2 in
      ⊎_elim
      (λ e. not_below right.0 right.1 (ap (λ (z : ℕ). carryless z right.0) (sym e) ∙ product))
      (λ e. not_below left.0 left.1 (carryless_comm 1 left.0 ∙ ap (carryless left.0) (sym e) ∙ product))
      (irreducible left.0 right.0 product)

  -- and a polynomial that has none is irreducible
  irreducible-without : (has_factors m p ≡ true → ⊥) → IsIrreducible p
  irreducible-without none =
      irreducible-by m p degree
      (λ i j g h i_some j_some total left right is.
      none (factors-found g h (degree-fits i m g left (omega (arith, j_some, total))) (degree-fits j m h right (omega (arith, i_some, total))) is))

-- ---- which polynomials have a field

-- the test decides the four facts that it asks for
has_field-parts : (m p : ℕ)
    → (has_field m p ≡ true) ↔ ((((0 < m) × (m ≤ 128)) × HasDegree m p) × (has_factors m p ≡ true → ⊥))
has_field-parts m p =
    Decides-and (nat_lt 0 m && nat_le m 128 && nat_eq (p / 2 ^ m) 1) (not (has_factors m p))
    (Decides-and (nat_lt 0 m && nat_le m 128) (nat_eq (p / 2 ^ m) 1)
    (Decides-and (nat_lt 0 m) (nat_le m 128) (Decides-ltb 0 m) (leb-true m 128, le-leb m 128)) (Decides-eqb (p / 2 ^ m) 1))
    (Decides-not (has_factors m p) ((λ e. e), (λ e. e)))

-- where it passes, the polynomial is the modulus of a field
pub has_field-field : (m p : ℕ) → has_field m p ≡ true → (0 < m) × IsField m (mul_mod m p)
has_field-field m p pass =
    let parts = (has_field-parts m p).0 pass in
    let some = parts.0.0.0 in
    let degree = parts.0.1 in
    (some, irreducible_gives_field m p some degree (irreducible-without m p some degree parts.1))

-- it passes exactly where x^m + tail is irreducible and the degree is 1 to 128
pub fields_of_irreducibles : FieldsAreOfIrreducibles
fields_of_irreducibles m tail fits = (
  (λ pass. let parts = (has_field-parts m (with_top m tail)).0 pass in
      (parts.0.0.0, parts.0.0.1, fits, irreducible-without m (with_top m tail) parts.0.0.0 parts.0.1 parts.1)),
  (λ modulus. let degree = top-degree m tail fits in
      (has_field-parts m (with_top m tail)).1 (((modulus.0, modulus.1), degree), no_factors m (with_top m tail) modulus.0 degree modulus.3)),
)

-- ---- what the code answers

-- what the field is made of, where the polynomial is the modulus of one; and none where it is not
pub modulo-result : {E : Type 0} (m tail p : ℕ) (result : Result BinaryExtension E) → p ≡ 2 ^ m + tail → tail < 2 ^ m
    → IfOk result (λ field. (field.degree ≡ m) × (field.tail ≡ tail) × IsFieldModulus m tail)
    → IfErr result (λ error. IsFieldModulus m tail → ⊥)
    → option_map (λ field. polynomials_modulo field.degree (with_top field.degree field.tail)) (result_ok result) ≡ field_modulo (m, p)
modulo-result m tail p (Ok field) is fits made refused =
    ap Some (ap₂ (λ (d t : ℕ). polynomials_modulo d (with_top d t)) made.0 made.1 ∙ ap (polynomials_modulo m) (sym is))
    ∙ sym (cond-true (has_field m p) (Some (polynomials_modulo m p)) None
    (ap (has_field m) is ∙ (fields_of_irreducibles m tail fits).1 made.2))
modulo-result m tail p (Err error) is fits made refused =
    sym (cond-false (has_field m p) (Some (polynomials_modulo m p)) None
    (false_from_ne_true (has_field m p) (λ pass. refused ((fields_of_irreducibles m tail fits).0 (ap (has_field m) (sym is) ∙ pass)))))

-- ---- degrees of numbers in two words

-- a number with a high word has more than 128 bits, and so no degree below 128
pub high-degree : (m high low : ℕ) → m ≤ 128 → m ≢ 128 → high ≢ 0 → (high * 2 ^ 128 + low) / 2 ^ m ≡ 1 → ⊥
high-degree m high low narrow other some degree =
    let most = degree-most m (high * 2 ^ 128 + low) degree in
    let room : 2 ^ suc m ≤ 2 ^ 128 = pow_mono {i = suc m} {j = 128} (omega (arith, narrow, other)) in
    some (omega (arith, most, room))

-- ---- decimal digits

-- a digit more
pub decimal-step : (n i v : ℕ) (word : List ℕ) (want : Option ℕ) → i < length word → Some v ≡ decimal_digit (get_or word i 0)
    → decimal_after n (drop i word) ≡ want → decimal_after (n * 10 + v) (drop (suc i) word) ≡ want
unfolding decimal_after
decimal-step n i v word want inside digit rest =
    ap (option_and_then (λ value. decimal_after (n * 10 + value) (drop (suc i) word))) digit
    ∙ sym (ap (decimal_after n) (drop-cons word i 0 inside)) ∙ rest

-- a character that is no digit
pub decimal-stop : (n i : ℕ) (word : List ℕ) (want : Option ℕ) → i < length word → None ≡ decimal_digit (get_or word i 0)
    → decimal_after n (drop i word) ≡ want → None ≡ want
unfolding decimal_after
decimal-stop n i word want inside digit rest =
    ap (option_and_then (λ value. decimal_after (n * 10 + value) (drop (suc i) word))) digit
    ∙ sym (ap (decimal_after n) (drop-cons word i 0 inside)) ∙ rest

-- no digit more
pub decimal-end : (n i : ℕ) (word : List ℕ) (want : Option ℕ) → length word ≤ i → decimal_after n (drop i word) ≡ want → Some n ≡ want
unfolding decimal_after
decimal-end n i word want past rest = sym (ap (decimal_after n) (drop_all i word past)) ∙ rest

-- the number of one digit more has room
pub decimal-room : (n v i : ℕ) → n < 10 ^ i → v < 10 → n * 10 + v < 10 ^ suc i
decimal-room n v i fits digit = let next = pow-suc 10 i in omega (arith, fits, digit, next)

-- ---- hexadecimal digits

-- zeros in front change nothing
pub number_after-zeros : (count : ℕ) (word : List ℕ) → number_after 0 (replicate count 48 ++ word) ≡ number_after 0 word
unfolding number_after
number_after-zeros zero word = refl
number_after-zeros (suc count) word = number_after-zeros count word

-- so that an operand of 24 bytes, zeros that a word is put behind, has the number of the word
pub operand-padded : (a k : ℕ) (word : List ℕ) → length word ≤ 48 → a ≡ 48 - length word → k ≡ 48 - a
    → operand_value 24 (put_mid a k (replicate 48 48) word) ≡ number_after 0 word
unfolding operand_value
operand-padded a k word short front back =
    cond-true (nat_eq (length (put_mid a k (replicate 48 48) word)) 48) (number_after 0 (put_mid a k (replicate 48 48) word)) None
    (eq-eqb (length (put_mid a k (replicate 48 48) word)) 48 long) ∙ ap (number_after 0) text ∙ number_after-zeros a word
  where
    rest : post_of {X = ℕ} a k (replicate 48 48) ≡ []
    rest =
        let zeros : List ℕ = replicate 48 48 in
        drop_all k (drop a zeros) (omega (arith, length-drop a zeros, length-replicate {A = ℕ} 48 48, back))

    text : put_mid a k (replicate 48 48) word ≡ replicate a 48 ++ word
    text =
        ap₂ (λ (x y : List ℕ). x ++ y) (take-replicate a 48 48 (omega (arith, front)))
        (ap (λ (y : List ℕ). word ++ y) rest ∙ append-nil word)

    long : length (put_mid a k (replicate 48 48) word) ≡ 48
    long =
        ap length text ∙ length-append (replicate a 48) word ∙ ap (λ (n : ℕ). n + length word) (length-replicate {A = ℕ} a 48)
        ∙ omega (arith, front, short)
