-- Look-ups by the halves of bytes in lanes, and what they give: products by a factor.
use Rattle.std.proofs.Common.{◌≡◌, ℕ, ◌+◌, ◌-◌, ◌*◌, ◌/◌, ◌%◌, ◌^◌, ◌<◌, ◌≤◌, List, length, drop, get_or, map, sym, ◌∙◌, ap, ap₂, arith, lit<, w8, Fits}
use Rattle.std.specs.Prelude.{bit_xor}
use Rattle.std.specs.Simd.Lanes.{chunk, Each1}
use Rattle.std.proofs.lemmas.List.{get_or-drop, get_or-map}
use Rattle.std.proofs.lemmas.Nat.{xor_block, xor_comm}
use Rattle.std.proofs.lemmas.Simd.{Each1-get_or, get_or-chunk}
use native.Mathlib.Nat.{mod-lt}
use lib.Bits.{xor_zero_r}
use Rattle.word_tables.specs.Nibbles.{entry_sum}
use Rattle.reed_solomon.specs.ByteFields.{byte_times}
use Rattle.reed_solomon.specs.declared.byte_field.ByteField.TheVariants.{Qr}
use Rattle.reed_solomon.specs.Tables.{HasRow, nibble_sum}
use Rattle.reed_solomon.proofs.ByteFields.{erasure_field}

-- ---- the look-ups

-- the sum of what two tables have at the halves of a byte
pub sum_at : (entries : List ℕ) (start : ℕ) (bytes : List ℕ) → length bytes ≡ 32 → Each1 (Fits w8) bytes → (lane : ℕ) → lane < 32
    → get_or (map (entry_sum (chunk start 16 entries) (chunk (start + 16) 16 entries)) bytes) lane 0 ≡ nibble_sum entries start (get_or bytes lane 0)
sum_at entries start bytes long fits lane below =
    let inside : lane < length bytes = omega (arith, long, below) in
    let byte = (Each1-get_or (Fits w8) bytes lane 0 inside fits).fits in
    get_or-map (entry_sum (chunk start 16 entries) (chunk (start + 16) 16 entries)) bytes lane 0 0 inside
    ∙ ap₂ bit_xor (get_or-chunk start 16 entries (get_or bytes lane 0 % 16) 0 (mod-lt (get_or bytes lane 0) (lit< tt)))
    (get_or-chunk (start + 16) 16 entries (get_or bytes lane 0 / 16) 0 (omega (arith, byte)))

-- look-ups in the entries behind some
pub nibble_sum-behind : (before : ℕ) (entries : List ℕ) (start byte : ℕ) → nibble_sum (drop before entries) start byte ≡ nibble_sum entries (before + start) byte
nibble_sum-behind before entries start byte =
    ap₂ bit_xor (get_or-drop before entries (start + byte % 16) 0 ∙ ap (λ (p : ℕ). get_or entries p 0) low)
    (get_or-drop before entries (start + 16 + byte / 16) 0 ∙ ap (λ (p : ℕ). get_or entries p 0) high)
  where
    low : before + (start + byte % 16) ≡ before + start + byte % 16
    low = omega arith

    high : before + (start + 16 + byte / 16) ≡ before + start + 16 + byte / 16
    high = omega arith

-- what held tables of some rows give is what the tables give that they were read from
pub nibble_held : (entries held : List ℕ) (from until rows j row byte : ℕ)
    → ((i : ℕ) → i + 128 < 128 * (until - from) + 32 * rows → get_or held i 0 ≡ get_or entries (128 * from + i) 0)
    → from ≤ j → j < until → row < rows → byte < 256
    → nibble_sum held (128 * (j - from) + 32 * row) byte ≡ nibble_sum entries (128 * j + 32 * row) byte
nibble_held entries held from until rows j row byte same above below few fits =
    ap₂ bit_xor
    (same (128 * (j - from) + 32 * row + byte % 16) (omega (arith, above, below, few)) ∙ ap (λ (p : ℕ). get_or entries p 0) low)
    (same (128 * (j - from) + 32 * row + 16 + byte / 16) (omega (arith, above, below, few, fits)) ∙ ap (λ (p : ℕ). get_or entries p 0) high)
  where
    low : 128 * from + (128 * (j - from) + 32 * row + byte % 16) ≡ 128 * j + 32 * row + byte % 16
    low = omega (arith, above)

    high : 128 * from + (128 * (j - from) + 32 * row + 16 + byte / 16) ≡ 128 * j + 32 * row + 16 + byte / 16
    high = omega (arith, above)

-- ---- products

-- a byte is the sum of its halves
halves : (byte : ℕ) → bit_xor (byte % 16) (16 * (byte / 16)) ≡ byte
halves byte =
    ap₂ bit_xor low high
    ∙ xor_block 4 0 (byte / 16) (byte % 16) 0 (mod-lt byte (lit< tt)) (lit< tt)
    ∙ ap₂ (λ (x y : ℕ). x * 2 ^ 4 + y) (xor_comm 0 (byte / 16) ∙ xor_zero_r (byte / 16)) (xor_zero_r (byte % 16))
    ∙ whole
  where
    low : byte % 16 ≡ 0 * 2 ^ 4 + byte % 16
    low = omega arith

    high : 16 * (byte / 16) ≡ byte / 16 * 2 ^ 4 + 0
    high = omega arith

    whole : byte / 16 * 2 ^ 4 + byte % 16 ≡ byte
    whole = omega arith

-- the sum of the two entries of a byte is its product by the factor
pub nibble_product : (factor : ℕ → ℕ) (entries : List ℕ) (row count j byte : ℕ) → HasRow factor entries row count → j < count → byte < 256
    → nibble_sum entries (128 * j + 32 * row) byte ≡ byte_times Qr (factor j) byte
nibble_product factor entries row count j byte set within fits =
    ap₂ bit_xor ((set j (byte % 16) within (omega arith)).low (mod-lt byte (lit< tt))) high
    ∙ sym (erasure_field.ring.over_sum (factor j) (byte % 16) (16 * (byte / 16)))
    ∙ ap (byte_times Qr (factor j)) (halves byte)
  where
    high : get_or entries (128 * j + 32 * row + 16 + byte / 16) 0 ≡ byte_times Qr (factor j) (16 * (byte / 16))
    high =
        let place : 128 * j + 32 * row + 16 + byte / 16 ≡ 128 * j + 32 * row + (16 + byte / 16) = omega arith in
        let same : 16 + byte / 16 - 16 ≡ byte / 16 = omega arith in
        ap (λ (p : ℕ). get_or entries p 0) place
        ∙ (set j (16 + byte / 16) within (omega (arith, fits))).high (omega arith)
        ∙ ap (λ (n : ℕ). byte_times Qr (factor j) (16 * n)) same
