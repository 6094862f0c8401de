-- Numbers of which the first are multiplied, block by block, and the others as they were.
use Rattle.std.proofs.Common.{◌≡◌, ◌⊎◌, inl, inr, ℕ, ◌+◌, ◌-◌, ◌*◌, ◌/◌, ◌%◌, ◌^◌, ◌<◌, ◌≤◌, List, refl, sym, ◌∙◌, ap, ap₂, subst, arith}
use Rattle.std.specs.Prelude.{bit_xor, slice_index}
use Rattle.std.proofs.Math.Nat.{lt-div-mul-add, mul-le-mul_right, mul-lt-mul_of_pos_right}
use Rattle.std.proofs.lemmas.Bool.{cases_lt}
use Rattle.std.proofs.lemmas.Nat.{pow_pos}
use native.Mathlib.Nat.{mod-eq_of_lt}
use lib.Bits.{xor_comm}
use Rattle.field_base.specs.Tower.{tower_mul}
use Rattle.field_base.proofs.RingLemmas.{times-mod}
use Rattle.field_base.proofs.TowerRing.{tower_ring}
use Rattle.additive_transforms.specs.Rows.{level_of}
use Rattle.additive_transforms.specs.Units.{ArePut, AreUnits, FirstAre, byte_of, unit_of}
use Rattle.additive_transforms.proofs.UnitFacts.{unit-modulo, unit-whole}

-- before the first place all are as they were
pub none_first : (n : ℕ) (value : ℕ → ℕ) (numbers : List ℕ) → n ≡ 0 → FirstAre n value numbers numbers
none_first n value numbers none =
    record {
      done = λ k below. absurd (omega (arith, none, below));
      kept = λ k past. refl;
    }

-- after the last block
pub last_first : (value : ℕ → ℕ) (old new : List ℕ) (count block blocks : ℕ) → block ≡ blocks → FirstAre (count * block) value old new
    → FirstAre (count * blocks) value old new
last_first value old new count block blocks last are = subst (λ (b : ℕ). FirstAre (count * b) value old new) last are

-- what fills no block
pub rest_below : (words count lanes : ℕ) → count ≡ lanes → 0 < count → words < count * (words / count) + lanes
rest_below words count lanes same some =
    let less : words < words / count * count + count = lt-div-mul-add some in
    let turned : words / count * count ≡ count * (words / count) = omega arith in
    omega (arith, less, turned, same)

-- ---- units that are whole numbers

-- those that were read
pub numbers_read : (d size n lanes : ℕ) (units : ℕ → ℕ) (numbers : List ℕ) → size ≡ d → AreUnits d size n lanes units numbers
    → (l : ℕ) → l < lanes → units l ≡ slice_index numbers (n + l) % 2 ^ 2 ^ level_of d
numbers_read d size n lanes units numbers same are l below =
    are n (ap (λ (e : ℕ). n * 2 ^ e) same) l below
    ∙ subst (λ (e : ℕ). unit_of e (byte_of size numbers) (n + l) ≡ slice_index numbers (n + l) % 2 ^ 2 ^ level_of e) same
    (unit-modulo size (n + l) numbers)

-- those that were put
pub numbers_put : (d size n lanes : ℕ) (units : ℕ → ℕ) (old new : List ℕ) → size ≡ d → ArePut d size n lanes units old new
    → (l : ℕ) → l < lanes → slice_index new (n + l) ≡ units l
numbers_put d size n lanes units old new same are l below =
    let less : l * 2 ^ size < lanes * 2 ^ size = mul-lt-mul_of_pos_right below (pow_pos size) in
    let bytes = ap (λ (e : ℕ). lanes * 2 ^ e) same in
    sym (are.put n (ap (λ (e : ℕ). n * 2 ^ e) same) l below
    ∙ subst (λ (e : ℕ). unit_of e (byte_of size new) (n + l) ≡ slice_index new (n + l)) same
    (unit-whole size (n + l) new (are.fit (n + l) (omega arith) (omega (arith, less, bytes)))))

-- the products of those
pub products_read : (d size n lanes s : ℕ) (factors products : ℕ → ℕ) (numbers : List ℕ) → size ≡ d → AreUnits d size n lanes factors numbers
    → ((l : ℕ) → l < lanes → products l ≡ tower_mul (level_of d) s (factors l))
    → (l : ℕ) → l < lanes → products l ≡ tower_mul (level_of d) s (slice_index numbers (n + l))
products_read d size n lanes s factors products numbers same read times l below =
    times l below
    ∙ ap (tower_mul (level_of d) s) (numbers_read d size n lanes factors numbers same read l below)
    ∙ times-mod (2 ^ level_of d) 1 (tower_mul (level_of d)) (tower_ring (level_of d)) s (slice_index numbers (n + l))

-- ---- one block more

module _ (d size lanes count block s : ℕ) (same : size ≡ d) (counted : count ≡ lanes) where
  next : count * (block + 1) ≡ count * block + lanes
  next = omega (arith, counted)

  -- a block that is put has its values, those before it had theirs, and the others are as they were
  pub block_put : (value units : ℕ → ℕ) (old mid new : List ℕ) → FirstAre (count * block) value old mid
      → ArePut d size (count * block) lanes units mid new → ((l : ℕ) → l < lanes → units l ≡ value (count * block + l))
      → FirstAre (count * (block + 1)) value old new
  block_put value units old mid new before put here = record { done = λ k below. pick k below (cases_lt k (count * block)); kept = kept }
    where
      pick : (k : ℕ) → k < count * (block + 1) → (k < count * block) ⊎ (count * block ≤ k) → slice_index new k ≡ value k
      pick k below (inl early) = put.kept k (inl early) ∙ before.done k early
      pick k below (inr past) =
          let more = next in
          let at : count * block + (k - count * block) ≡ k = omega (arith, past) in
          let inside : k - count * block < lanes = omega (arith, below, more, past) in
          subst (λ (p : ℕ). slice_index new p ≡ value p) at
          (numbers_put d size (count * block) lanes units mid new same put (k - count * block) inside ∙ here (k - count * block) inside)

      kept : (k : ℕ) → count * (block + 1) ≤ k → slice_index new k ≡ slice_index old k
      kept k past =
          let more = next in
          let late : count * block + lanes ≤ k = omega (arith, past, more) in
          let less : (count * block + lanes) * 2 ^ size ≤ k * 2 ^ size = mul-le-mul_right (2 ^ size) late in
          let bytes = ap (λ (e : ℕ). lanes * 2 ^ e) same in
          put.kept k (inr (omega (arith, less, bytes))) ∙ before.kept k (omega (arith, late))

  -- a block that is multiplied
  pub block_multiplied : (products : ℕ → ℕ) (old mid new : List ℕ)
      → FirstAre (count * block) (λ k. tower_mul (level_of d) s (slice_index old k)) old mid
      → ((l : ℕ) → l < lanes → products l ≡ tower_mul (level_of d) s (slice_index mid (count * block + l)))
      → ArePut d size (count * block) lanes products mid new
      → FirstAre (count * (block + 1)) (λ k. tower_mul (level_of d) s (slice_index old k)) old new
  block_multiplied products old mid new before times put =
      block_put (λ k. tower_mul (level_of d) s (slice_index old k)) products old mid new before put
      (λ l below. times l below ∙ ap (tower_mul (level_of d) s) (before.kept (count * block + l) (omega arith)))

  -- and one that is added
  pub block_added : (products addends sums : ℕ → ℕ) (words old mid new : List ℕ)
      → ((k : ℕ) → slice_index old k < 2 ^ 2 ^ level_of d)
      → FirstAre (count * block) (λ k. bit_xor (slice_index old k) (tower_mul (level_of d) s (slice_index words k))) old mid
      → ((l : ℕ) → l < lanes → products l ≡ tower_mul (level_of d) s (slice_index words (count * block + l)))
      → AreUnits d size (count * block) lanes addends mid
      → ((l : ℕ) → l < lanes → sums l ≡ bit_xor (products l) (addends l))
      → ArePut d size (count * block) lanes sums mid new
      → FirstAre (count * (block + 1)) (λ k. bit_xor (slice_index old k) (tower_mul (level_of d) s (slice_index words k))) old new
  block_added products addends sums words old mid new fit before times also sum put =
      block_put (λ k. bit_xor (slice_index old k) (tower_mul (level_of d) s (slice_index words k))) sums old mid new before put each
    where
      each : (l : ℕ) → l < lanes
          → sums l ≡ bit_xor (slice_index old (count * block + l)) (tower_mul (level_of d) s (slice_index words (count * block + l)))
      each l below =
          let place = count * block + l in
          sum l below
          ∙ ap₂ bit_xor (times l below)
          (numbers_read d size (count * block) lanes addends mid same also l below
          ∙ ap (λ (x : ℕ). x % 2 ^ 2 ^ level_of d) (before.kept place (omega arith)) ∙ mod-eq_of_lt (fit place))
          ∙ xor_comm (tower_mul (level_of d) s (slice_index words place)) (slice_index old place)
