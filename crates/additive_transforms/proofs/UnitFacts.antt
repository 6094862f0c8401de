-- Units of bytes of numbers: two rows of them one behind the other, and units of the next level by their halves.
use Rattle.std.proofs.Common.{◌≡◌, ◌⊎◌, inl, inr, ℕ, zero, suc, ◌+◌, ◌-◌, ◌*◌, ◌/◌, ◌%◌, ◌^◌, ◌<◌, ◌≤◌, List, refl, sym, ◌∙◌, ap, ap₂, subst, arith}
use Rattle.std.specs.Prelude.{slice_index}
use Rattle.std.proofs.Math.Nat.{div-div-eq-div-mul, div-lt_iff_lt-mul, mul-le-mul_right, pow-suc}
use Rattle.std.proofs.lemmas.Bool.{cases_lt}
use Rattle.std.proofs.lemmas.Nat.{div-mul-add, mod-mul-add, mod-pow-add, pow-add, pow_pos}
use native.Mathlib.Nat.{mod-eq_of_lt}
use Rattle.field_base.specs.Quadratic.{pair}
use Rattle.additive_transforms.specs.Rows.{level_of}
pub use Rattle.additive_transforms.specs.Units.{joint}
use Rattle.additive_transforms.specs.Units.{ArePut, AreUnits, AreUnwoven, byte_of, joint_at, unit_of}
use Rattle.field_base.proofs.ChunkLists.{pow-256}

-- ---- two rows, one behind the other

pub joint-first : (n : ℕ) (x y : ℕ → ℕ) (p : ℕ) → p < n → joint n x y p ≡ x p
joint-first n x y p below = pick (cases_lt p n)
  where
    pick : (at : (p < n) ⊎ (n ≤ p)) → joint_at n x y p at ≡ x p
    pick (inl before) = refl
    pick (inr past) = absurd (omega (arith, below, past))

pub joint-second : (n : ℕ) (x y : ℕ → ℕ) (p : ℕ) → n ≤ p → joint n x y p ≡ y (p - n)
joint-second n x y p beyond = pick (cases_lt p n)
  where
    pick : (at : (p < n) ⊎ (n ≤ p)) → joint_at n x y p at ≡ y (p - n)
    pick (inl before) = absurd (omega (arith, beyond, before))
    pick (inr past) = refl

-- ---- units by the bytes

unit-pair : (d : ℕ) (bytes : ℕ → ℕ) (i : ℕ)
    → unit_of (suc d) bytes i ≡ pair (2 ^ level_of d) (unit_of d bytes (2 * i)) (unit_of d bytes (2 * i + 1))
unfolding unit_of
unit-pair d bytes i = refl

-- a unit depends on its bytes alone
pub unit-same : (d : ℕ) (f g : ℕ → ℕ) (i : ℕ) → ((p : ℕ) → p < (i + 1) * 2 ^ d → f p ≡ g p) → unit_of d f i ≡ unit_of d g i
unfolding unit_of
unit-same zero f g i same = same i (omega arith)
unit-same (suc d) f g i same =
    ap₂ (pair (2 ^ level_of d))
    (unit-same d f g (2 * i) (λ p below. same p (low p below)))
    (unit-same d f g (2 * i + 1) (λ p below. same p (high p below)))
  where
    twice : (i + 1) * 2 ^ suc d ≡ (2 * i + 1) * 2 ^ d + 2 ^ d
    twice = let next = ap (λ (x : ℕ). (i + 1) * x) (pow-suc 2 d) in omega (arith, next)

    low : (p : ℕ) → p < (2 * i + 1) * 2 ^ d → p < (i + 1) * 2 ^ suc d
    low p below = let is = twice in omega (arith, is, below)

    high : (p : ℕ) → p < (2 * i + 1 + 1) * 2 ^ d → p < (i + 1) * 2 ^ suc d
    high p below = let is = twice in omega (arith, is, below)

-- ---- two rows of units

module _ (d size start half n : ℕ) (whole : half * 2 ^ size ≡ n * 2 ^ d) (x y all : ℕ → ℕ)
    (firsts : (p : ℕ) → p < n → all p ≡ x p) (seconds : (p : ℕ) → n ≤ p → p < n + n → all p ≡ y (p - n)) where
  -- those that were read
  pub two_read : (numbers : List ℕ) → AreUnits d size start n x numbers → AreUnits d size (start + half) n y numbers
      → AreUnits d size start (n + n) all numbers
  two_read numbers lows highs first at l below = pick (cases_lt l n)
    where
      pick : (l < n) ⊎ (n ≤ l) → all l ≡ unit_of d (byte_of size numbers) (first + l)
      pick (inl before) = firsts l before ∙ lows first at l before
      pick (inr past) =
          let place : first + n + (l - n) ≡ first + l = omega (arith, past) in
          let next : (start + half) * 2 ^ size ≡ (first + n) * 2 ^ d = omega (arith, at, whole) in
          seconds l past below ∙ highs (first + n) next (l - n) (omega (arith, below, past))
          ∙ ap (unit_of d (byte_of size numbers)) place

  -- those that were put
  module _ (old mid new : List ℕ) (lows : ArePut d size start n x old mid) (highs : ArePut d size (start + half) n y mid new) where
    sum : (start + half) * 2 ^ size ≡ start * 2 ^ size + n * 2 ^ d
    sum = omega (arith, whole)

    -- a unit of the first row stayed when the second was put
    stays : (u : ℕ) → (u + 1) * 2 ^ d ≤ start * 2 ^ size + n * 2 ^ d → unit_of d (byte_of size mid) u ≡ unit_of d (byte_of size new) u
    stays u early = unit-same d (byte_of size mid) (byte_of size new) u same
      where
        same : (p : ℕ) → p < (u + 1) * 2 ^ d → byte_of size mid p ≡ byte_of size new p
        same p below =
            let total = sum in
            let before : p < (start + half) * 2 ^ size = omega (arith, early, below, total) in
            let number : p / 2 ^ size < start + half = (div-lt_iff_lt-mul (pow_pos size)).1 before in
            ap (λ (v : ℕ). v / 256 ^ (p % 2 ^ size) % 256) (sym (highs.kept (p / 2 ^ size) (inl number)))

    put : AreUnits d size start (n + n) all new
    put first at l below = pick (cases_lt l n)
      where
        pick : (l < n) ⊎ (n ≤ l) → all l ≡ unit_of d (byte_of size new) (first + l)
        pick (inl before) =
            let less : (first + l + 1) * 2 ^ d ≤ (first + n) * 2 ^ d = mul-le-mul_right (2 ^ d) (omega (arith, before)) in
            firsts l before ∙ lows.put first at l before ∙ stays (first + l) (omega (arith, at, less))
        pick (inr past) =
            let place : first + n + (l - n) ≡ first + l = omega (arith, past) in
            let next : (start + half) * 2 ^ size ≡ (first + n) * 2 ^ d = omega (arith, at, whole) in
            seconds l past below ∙ highs.put (first + n) next (l - n) (omega (arith, below, past))
            ∙ ap (unit_of d (byte_of size new)) place

    fit : (k : ℕ) → start ≤ k → k * 2 ^ size < start * 2 ^ size + (n + n) * 2 ^ d → slice_index new k < 256 ^ 2 ^ size
    fit k past before = pick (cases_lt k (start + half))
      where
        pick : (k < start + half) ⊎ (start + half ≤ k) → slice_index new k < 256 ^ 2 ^ size
        pick (inl early) =
            let less : (k + 1) * 2 ^ size ≤ (start + half) * 2 ^ size = mul-le-mul_right (2 ^ size) (omega (arith, early)) in
            let total = sum in
            let some = pow_pos size in
            subst (λ (v : ℕ). v < 256 ^ 2 ^ size) (sym (highs.kept k (inl early))) (lows.fit k past (omega (arith, less, total, some)))
        pick (inr late) = let total = sum in highs.fit k late (omega (arith, before, total))

    kept : (k : ℕ) → (k < start) ⊎ (start * 2 ^ size + (n + n) * 2 ^ d ≤ k * 2 ^ size) → slice_index new k ≡ slice_index old k
    kept k (inl early) = highs.kept k (inl (omega (arith, early))) ∙ lows.kept k (inl early)
    kept k (inr late) =
        let total = sum in
        highs.kept k (inr (omega (arith, late, total))) ∙ lows.kept k (inr (omega (arith, late)))

    pub two_put : ArePut d size start (n + n) all old new
    two_put = record { put = put; fit = fit; kept = kept }

-- ---- units of the next level

module _ (d size start n : ℕ) (low high all : ℕ → ℕ) (lows : (l : ℕ) → l < n → low l ≡ all (2 * l))
    (highs : (l : ℕ) → l < n → high l ≡ all (2 * l + 1)) where
  twice : n * 2 ^ suc d ≡ (n + n) * 2 ^ d
  twice = let next = ap (λ (x : ℕ). n * x) (pow-suc 2 d) in omega (arith, next)

  pub pairs_read : (numbers : List ℕ) → AreUnits d size start (n + n) all numbers
      → AreUnits (suc d) size start n (λ l. pair (2 ^ level_of d) (low l) (high l)) numbers
  pairs_read numbers are first at l below =
      let next = ap (λ (x : ℕ). first * x) (pow-suc 2 d) in
      let begin : start * 2 ^ size ≡ 2 * first * 2 ^ d = omega (arith, at, next) in
      let even : 2 * first + 2 * l ≡ 2 * (first + l) = omega arith in
      let odd : 2 * first + (2 * l + 1) ≡ 2 * (first + l) + 1 = omega arith in
      ap₂ (pair (2 ^ level_of d))
      (lows l below ∙ are (2 * first) begin (2 * l) (omega (arith, below)) ∙ ap (unit_of d (byte_of size numbers)) even)
      (highs l below ∙ are (2 * first) begin (2 * l + 1) (omega (arith, below)) ∙ ap (unit_of d (byte_of size numbers)) odd)
      ∙ sym (unit-pair d (byte_of size numbers) (first + l))

  pub pairs_put : (old new : List ℕ) → ArePut d size start (n + n) all old new
      → ArePut (suc d) size start n (λ l. pair (2 ^ level_of d) (low l) (high l)) old new
  pairs_put old new are =
      record {
        put = pairs_read new are.put;
        fit = λ k past before. are.fit k past (subst (λ (s : ℕ). k * 2 ^ size < start * 2 ^ size + s) twice before);
        kept = λ k side. are.kept k (subst (λ (s : ℕ). (k < start) ⊎ (start * 2 ^ size + s ≤ k * 2 ^ size)) twice side);
      }

-- the even and the odd ones of two rows are those of both, one behind the other
pub evens_of : (n : ℕ) (x y low high : ℕ → ℕ) → n % 16 ≡ 0 → AreUnwoven n x y low high → (l : ℕ) → l < n → low l ≡ joint n x y (2 * l)
evens_of n x y low high whole are l below = pick (cases_lt (2 * l) n)
  where
    pick : (2 * l < n) ⊎ (n ≤ 2 * l) → low l ≡ joint n x y (2 * l)
    pick (inl before) = are.first_evens l before ∙ sym (joint-first n x y (2 * l) before)
    pick (inr past) = are.second_evens l below past ∙ sym (joint-second n x y (2 * l) past)

pub odds_of : (n : ℕ) (x y low high : ℕ → ℕ) → n % 16 ≡ 0 → AreUnwoven n x y low high → (l : ℕ) → l < n → high l ≡ joint n x y (2 * l + 1)
odds_of n x y low high whole are l below = pick (cases_lt (2 * l) n)
  where
    pick : (2 * l < n) ⊎ (n ≤ 2 * l) → high l ≡ joint n x y (2 * l + 1)
    pick (inl before) = are.first_odds l before ∙ sym (joint-first n x y (2 * l + 1) (omega (arith, before, whole)))
    pick (inr past) = are.second_odds l below past ∙ sym (joint-second n x y (2 * l + 1) (omega (arith, past)))

-- half of the numbers of so many bytes
pub half_count : (size count m w : ℕ) → size ≤ 4 → m ≡ 16 * w → count * 2 ^ size ≡ 2 * m
    → (count / 2 * 2 ^ size ≡ m) × (count / 2 + count / 2 ≡ count)
half_count zero count m w few is total = (omega (arith, is, total), omega (arith, is, total))
half_count (suc zero) count m w few is total = (omega (arith, is, total), omega (arith, is, total))
half_count (suc (suc zero)) count m w few is total = (omega (arith, is, total), omega (arith, is, total))
half_count (suc (suc (suc zero))) count m w few is total = (omega (arith, is, total), omega (arith, is, total))
half_count (suc (suc (suc (suc zero)))) count m w few is total = (omega (arith, is, total), omega (arith, is, total))
half_count (suc (suc (suc (suc (suc size))))) count m w few is total = absurd (omega (arith, few))

-- both halves of the numbers of thirty-two bytes are inside
pub half_rooms : (size count start long : ℕ) → size ≤ 4 → count * 2 ^ size ≡ 32 → start + count ≤ long
    → (start * 2 ^ size + 16 ≤ long * 2 ^ size) × ((start + count / 2) * 2 ^ size + 16 ≤ long * 2 ^ size)
half_rooms size count start long few total inside =
    let half = half_count size count 16 1 few refl total in
    let bytes = half.0 in
    let twice = half.1 in
    let less = mul-le-mul_right (2 ^ size) inside in
    let sum : count * 2 ^ size ≡ count / 2 * 2 ^ size + count / 2 * 2 ^ size = omega (arith, bytes, total) in
    (omega (arith, less, total), omega (arith, less, total, bytes))

-- `half_count` for the bytes of n units of the next level
pub half_units : (d size count n : ℕ) → size ≤ 4 → n % 16 ≡ 0 → count * 2 ^ size ≡ n * 2 ^ suc d
    → (count / 2 * 2 ^ size ≡ n * 2 ^ d) × (count / 2 + count / 2 ≡ count)
half_units d size count n few whole total =
    let q : n ≡ 16 * (n / 16) = omega (arith, whole) in
    let m = ap (λ (x : ℕ). x * 2 ^ d) q in
    let next = ap (λ (x : ℕ). n * x) (pow-suc 2 d) in
    half_count size count (n * 2 ^ d) (n / 16 * 2 ^ d) few (omega (arith, m)) (omega (arith, total, next))

-- ---- all units of the bytes of a number

-- the bits of 2 ^ d bytes
level-bits : (d : ℕ) → 2 ^ level_of d ≡ 8 * 2 ^ d
level-bits zero = refl
level-bits (suc d) =
    let next = pow-suc 2 (level_of d) in
    let also = pow-suc 2 d in
    let is = level-bits d in omega (arith, next, also, is)

unit-number : (d : ℕ) (bytes : ℕ → ℕ) (x i : ℕ) → ((k : ℕ) → k < 2 ^ d → bytes (i * 2 ^ d + k) ≡ x / 2 ^ (8 * k) % 256)
    → unit_of d bytes i ≡ x % 2 ^ (8 * 2 ^ d)
unfolding unit_of
unit-number zero bytes x i are =
    let at : i * 1 + 0 ≡ i = omega arith in
    let whole : x / 1 % 256 ≡ x % 256 = omega arith in
    sym (ap bytes at) ∙ are 0 (omega arith) ∙ whole
unit-number (suc d) bytes x i are =
    ap₂ (λ (e h : ℕ). h * 2 ^ e + unit_of d bytes (2 * i)) (level-bits d) (unit-number d bytes (x / 2 ^ (8 * 2 ^ d)) (2 * i + 1) highs)
    ∙ ap (λ (l : ℕ). x / 2 ^ (8 * 2 ^ d) % 2 ^ (8 * 2 ^ d) * 2 ^ (8 * 2 ^ d) + l) (unit-number d bytes x (2 * i) lows)
    ∙ sym (mod-pow-add x (8 * 2 ^ d) (8 * 2 ^ d))
    ∙ ap (λ (e : ℕ). x % 2 ^ e) all
  where
    all : 8 * 2 ^ d + 8 * 2 ^ d ≡ 8 * 2 ^ suc d
    all = let next = pow-suc 2 d in omega (arith, next)

    begin : i * 2 ^ suc d ≡ 2 * i * 2 ^ d
    begin = let next = ap (λ (x : ℕ). i * x) (pow-suc 2 d) in omega (arith, next)

    lows : (k : ℕ) → k < 2 ^ d → bytes (2 * i * 2 ^ d + k) ≡ x / 2 ^ (8 * k) % 256
    lows k below =
        let next = pow-suc 2 d in
        ap (λ (b : ℕ). bytes (b + k)) (sym begin) ∙ are k (omega (arith, below, next))

    highs : (k : ℕ) → k < 2 ^ d → bytes ((2 * i + 1) * 2 ^ d + k) ≡ x / 2 ^ (8 * 2 ^ d) / 2 ^ (8 * k) % 256
    highs k below =
        let next = pow-suc 2 d in
        let from = begin in
        let at : (2 * i + 1) * 2 ^ d + k ≡ i * 2 ^ suc d + (2 ^ d + k) = omega (arith, from) in
        let bits : 8 * (2 ^ d + k) ≡ 8 * 2 ^ d + 8 * k = omega arith in
        ap bytes at ∙ are (2 ^ d + k) (omega (arith, below, next))
        ∙ ap (λ (e : ℕ). x / e % 256) (ap (λ (e : ℕ). 2 ^ e) bits ∙ pow-add 2 (8 * 2 ^ d) (8 * k))
        ∙ ap (λ (y : ℕ). y % 256) (sym (div-div-eq-div-mul x (2 ^ (8 * 2 ^ d)) (2 ^ (8 * k))))

-- all bytes of a number are the number, as far as they go
pub unit-modulo : (size i : ℕ) (numbers : List ℕ)
    → unit_of size (byte_of size numbers) i ≡ slice_index numbers i % 2 ^ 2 ^ level_of size
unit-modulo size i numbers =
    unit-number size (byte_of size numbers) (slice_index numbers i) i bytes
    ∙ ap (λ (e : ℕ). slice_index numbers i % 2 ^ e) (sym (level-bits size))
  where
    bytes : (k : ℕ) → k < 2 ^ size → byte_of size numbers (i * 2 ^ size + k) ≡ slice_index numbers i / 2 ^ (8 * k) % 256
    bytes k below =
        ap₂ (λ (j r : ℕ). slice_index numbers j / 256 ^ r % 256) (div-mul-add i (2 ^ size) k below) (mod-mul-add i (2 ^ size) k below)
        ∙ ap (λ (b : ℕ). slice_index numbers i / b % 256) (pow-256 k)

-- and the number, if it fits
pub unit-whole : (size i : ℕ) (numbers : List ℕ) → slice_index numbers i < 256 ^ 2 ^ size
    → unit_of size (byte_of size numbers) i ≡ slice_index numbers i
unit-whole size i numbers fits =
    unit-modulo size i numbers
    ∙ mod-eq_of_lt (subst (λ (b : ℕ). slice_index numbers i < b) (pow-256 (2 ^ size) ∙ ap (λ (e : ℕ). 2 ^ e) (sym (level-bits size))) fits)
