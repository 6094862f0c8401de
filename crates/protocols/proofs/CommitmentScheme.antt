-- Openings of committed tables: the value of an honest row, and for how many draws an opening is accepted that is false.
use Rattle.std.proofs.Common.{◌≡◌, inl, inr, ℕ, zero, suc, ◌+◌, ◌-◌, ◌*◌, ◌/◌, ◌^◌, ◌<◌, ◌≤◌, List, ◌++◌, length, map}
use Rattle.std.proofs.Common.{sym, ◌∙◌, ap, subst, arith, lit<}
use Rattle.std.specs.Prelude.{Bool, true}
use Rattle.std.specs.List.{range_with_len}
use Rattle.std.proofs.lemmas.List.{length-map, map-append}
use Rattle.std.proofs.lemmas.Nat.{mul-pow, pow-add, pow_pos}
use Rattle.std.proofs.Math.Nat.{mul-le-mul_left, mul-le-mul_right, pow-le-pow_right, pow-suc, pow-zero}
use Rattle.std.proofs.lemmas.Bool.{cases_lt}
use Rattle.field_base.specs.Field.{IsField}
use Rattle.field_base.specs.Orders.{AreCantorVectors}
use Rattle.field_base.specs.Ring.{IsRing}
use Rattle.field_base.proofs.Places.{numbers-lt}
use Rattle.field_slices.specs.Multilinear.{multilinear_value}
use Rattle.transcripts.specs.Commitments.{row_at}
use Rattle.field_slices.specs.Blocks.{cheats_in_blocks}
use Rattle.field_slices.specs.Codes.{HaveSymbols, IsWordOf}
use Rattle.field_slices.specs.Openings.{IsOpened}
use Rattle.protocols.specs.CodeDistances.{FewQuarterRateCheats, point_generator}
use Rattle.protocols.specs.CommitmentScheme.{matrix_rows}
use Rattle.protocols.specs.CommitmentScheme.{place_bits, row_levels, word_levels}
use Rattle.protocols.specs.JointTables.{FewTablesCheat}
use Rattle.protocols.specs.Tables.{AreExtendedColumns, column_values}
use Rattle.protocols.proofs.HonestColumns.{row-is-values}
use Rattle.protocols.proofs.TableLaws.{column_values_evaluate}

-- ---- honest openings

-- the value of a row of the columns' values at the other coordinates is that of the table
pub value-opened : {F : Type 0} (repr : F → ℕ) (width : ℕ) (times : ℕ → ℕ → ℕ) (vector : ℕ → ℕ) → 0 < width → IsRing width 1 times
    → ((x : F) → repr x < 2 ^ width) → (k r h : ℕ) (columns table point row first others : List F) → length first ≡ h → length others ≡ k
    → point ≡ first ++ others → length table ≡ 2 ^ length point
    → AreExtendedColumns repr width times vector k r (2 ^ h) (map repr table) columns
    → map repr row ≡ map (λ p. multilinear_value times (map repr (row_at (2 ^ h) columns p)) (map repr first)) (range_with_len 0 (2 ^ k))
    → multilinear_value times (map repr row) (map repr others) ≡ multilinear_value times (map repr table) (map repr point)
value-opened repr width times vector wide ring range k r h columns table point row first others long other_long is size extended row_is =
    ap (λ (l : List ℕ). multilinear_value times l (map repr others))
    (row_is
    ∙ row-is-values repr width times vector wide ring columns k r (2 ^ h) (map repr first) (map repr table)
    (ap (λ (b : ℕ). 2 ^ b) (sym (length-map first repr ∙ long))) extended
    ∙ ap (λ (b : ℕ). column_values times (map repr first) (2 ^ b) (map repr table)) (sym (length-map others repr ∙ other_long)))
    ∙ sym
    (column_values_evaluate width times (map repr first) (map repr others) (map repr table) ring wide
    (record {
      count = length-map table repr ∙ size
          ∙ ap (λ (b : ℕ). 2 ^ b) (sym (ap length whole ∙ length-map point repr));
      each_fits = numbers-lt repr width range table;
    }))
    ∙ ap (multilinear_value times (map repr table)) whole
  where
    whole : map repr first ++ map repr others ≡ map repr point
    whole = sym (map-append repr first others) ∙ ap (map repr) (sym is)

-- ---- how many draws

-- a power of a number that is not 0
some-power : (p c : ℕ) → 0 < p → 0 < p ^ c
some-power p zero some = let one = pow-zero p in omega (arith, one)
some-power p (suc c) some =
    joined (p ^ c) (p ^ suc c) (some-power p c some) (pow-suc p c)
  where
    joined : (a next : ℕ) → 0 < a → next ≡ a * p → 0 < next
    joined a next before is = let grown = mul-le-mul_right p before in omega (arith, grown, some, is)

-- a bound on what is accepted, as a share
share : (two f q accepted lucky points wrong right scale blocks : ℕ) → 0 < f → 0 < q
    → f * (q * accepted) ≤ lucky * points * (right * scale) + f * (points * (wrong * scale))
    → two * (lucky * right + f * wrong) ≤ f * right → right * scale ≡ q * blocks → two * accepted ≤ points * blocks
share two f q accepted lucky points wrong right scale blocks some many few bound whole = elim (cases_lt (points * blocks) (two * accepted)) [
  | inr less ↦ less
  | inl more ↦
      let twice = mul-le-mul_left two few in
      let scaled = mul-le-mul_left (points * scale) bound in
      let turned : f * (points * (right * scale)) ≡ f * (points * (q * blocks)) = ap (λ (x : ℕ). f * (points * x)) whole in
      let grown = mul-le-mul_left (f * q) more in
      let positive = product-some f q some many in
      absurd (omega (arith, twice, scaled, turned, grown, positive))
]
  where
    product-some : (a b : ℕ) → 0 < a → 0 < b → 0 < a * b
    product-some a b one other = let both = mul-le-mul_left a other in omega (arith, both, one)

module _ (h m n : ℕ) (least : 6 ≤ m) (most : m ≤ 8) (many : 6 ≤ n) (little : n ≤ 39) where
  abbrev k : ℕ
  k = row_levels m n

  abbrev j : ℕ
  j = 2 ^ row_levels m n / 64

  abbrev block : ℕ
  block = 2 ^ place_bits m n

  long : 6 ≤ k
  long = omega (arith, least, many)

  whole : 2 ^ k ≡ 64 * j
  whole =
      let split : 2 ^ k ≡ 2 ^ 6 * 2 ^ (k - 6) = ap (λ (l : ℕ). 2 ^ l) (joined k long) ∙ pow-add 2 6 (k - 6) in
      omega (arith, split)
    where
      joined : (l : ℕ) → 6 ≤ l → l ≡ 6 + (l - 6)
      joined l enough = omega (arith, enough)

  places : 2 ^ word_levels m n ≡ 256 * j
  places = pow-add 2 2 k ∙ (let is = whole in omega (arith, is))

  points : 4 * 2 ^ k ≤ 2 ^ 128
  points =
      subst (λ (x : ℕ). x ≤ 2 ^ 128) (pow-add 2 2 k)
      (pow-le-pow_right (lit< tt) (let low : word_levels m n ≤ 128 = omega (arith, little) in low))

  blocks : 2 ^ m * block ≡ 4 * 2 ^ k
  blocks =
      sym (pow-add 2 m (place_bits m n))
      ∙ ap (λ (b : ℕ). 2 ^ b) (let above = long in let deep : m + place_bits m n ≡ 2 + k = omega (arith, above, most) in deep)
      ∙ pow-add 2 2 k

  scaled : 256 ^ 2 ^ m * j ^ 2 ^ m ≡ (2 ^ m) ^ 2 ^ m * block ^ 2 ^ m
  scaled =
      sym (mul-pow 256 j (2 ^ m)) ∙ ap (λ (x : ℕ). x ^ 2 ^ m) (sym places ∙ pow-add 2 2 k ∙ sym blocks)
      ∙ mul-pow (2 ^ m) block (2 ^ m)

  pub openings-cheat : FewQuarterRateCheats → (times : ℕ → ℕ → ℕ) (vector : ℕ → ℕ) → IsField 128 times → AreCantorVectors 128 times vector
      → ((b : ℕ) → b < 128 → vector b < 2 ^ 128)
      → (bits : ℕ) → 2 ^ bits * (h * (34 * 2 ^ word_levels m n) * 256 ^ 2 ^ m + 2 ^ 128 * 163 ^ 2 ^ m) ≤ 2 ^ 128 * 256 ^ 2 ^ m
      → (word : ℕ → ℕ → ℕ) (prover : List ℕ → ℕ → ℕ) (cheats : List ℕ → Bool)
      → HaveSymbols 128 (2 ^ m * block) (2 ^ h) word
      → ((point : List ℕ) → length point ≡ h → IsWordOf times (2 ^ k) (2 ^ m * block) (point_generator 128 times vector k) (prover point))
      → ((point : List ℕ) → length point ≡ h → cheats point ≡ true
      → IsOpened times (2 ^ k) (2 ^ m * block) (point_generator 128 times vector k) (93 * j) h word point (prover point) → ⊥)
      → 2 ^ bits * cheats_in_blocks 128 times block h m word prover cheats ≤ (2 ^ 128) ^ h * block ^ 2 ^ m
  openings-cheat few times vector field vectors fit bits bound word prover cheats fits sends false_is =
      share (2 ^ bits) (2 ^ 128) ((2 ^ m) ^ 2 ^ m) (cheats_in_blocks 128 times block h m word prover cheats) (h * (34 * (256 * j)))
      ((2 ^ 128) ^ h) (163 ^ 2 ^ m) (256 ^ 2 ^ m) (j ^ 2 ^ m) (block ^ 2 ^ m) (lit< tt) (some-power (2 ^ m) (2 ^ m) (pow_pos m))
      (subst (λ (x : ℕ). 2 ^ 128 * ((2 ^ m) ^ 2 ^ m * cheats_in_blocks 128 times block h m word prover cheats)
      ≤ h * (34 * (256 * j)) * (2 ^ 128) ^ h * x + 2 ^ 128 * ((2 ^ 128) ^ h * (163 ^ 2 ^ m * j ^ 2 ^ m))) (mul-pow 256 j (2 ^ m))
      (subst (λ (x : ℕ). 2 ^ 128 * ((2 ^ m) ^ 2 ^ m * cheats_in_blocks 128 times block h m word prover cheats)
      ≤ h * (34 * (256 * j)) * (2 ^ 128) ^ h * (256 * j) ^ 2 ^ m + 2 ^ 128 * ((2 ^ 128) ^ h * x)) (mul-pow 163 j (2 ^ m))
      (few 128 times vector (lit< tt) field vectors fit k j m block h word prover cheats whole points blocks fits sends false_is)))
      (subst (λ (x : ℕ). 2 ^ bits * (h * (34 * x) * 256 ^ 2 ^ m + 2 ^ 128 * 163 ^ 2 ^ m) ≤ 2 ^ 128 * 256 ^ 2 ^ m) places bound)
      scaled

-- each challenge that combines tables is one coordinate more
pub few_tables_cheat : FewQuarterRateCheats → FewTablesCheat
few_tables_cheat few times vector field vectors fit levels m n bits least most many little bound word prover cheats fits sends false_is =
    openings-cheat (levels + matrix_rows m n) m n least most many little few times vector field vectors fit bits bound word prover cheats fits sends
    false_is
