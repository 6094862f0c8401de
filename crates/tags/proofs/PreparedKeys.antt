-- The powers of a key, written as bytes and read again.
use Rattle.std.proofs.Common.{◌≡◌, ℕ, ◌^◌, ◌<◌, List, ◌++◌, take, drop, replicate, sym, ap, ap₂, ◌∙◌}
use borrow.Rule.Slice.PartMut.{put_mid}
use Rattle.std.specs.Int.{from_le_bytes, to_le_bytes, w128}
use Rattle.field_base.proofs.RemainderRing.{ghash_ring}
use Rattle.tags.specs.Powers.{ArePowers}
use Rattle.tags.specs.Prepared.{powers_as_bytes}
use Rattle.tags.specs.Reversed.{ghash_times}
use Rattle.tags.specs.declared.blocks.Powers.{Powers}
use Rattle.tags.proofs.BlocksDiffer.{from_le-to_le}

-- 64 bytes into which four blocks were written
abbrev four_written : List ℕ → List ℕ → List ℕ → List ℕ → List ℕ
four_written a b c d = put_mid 48 16 (put_mid 32 16 (put_mid 16 16 (a ++ replicate 48 0) b) c) d

-- the powers, written one after the other
pub powers_written : (key : ℕ) (a b c d : List ℕ) (p : Powers) → ArePowers key p
    → a ≡ to_le_bytes w128 p.key → b ≡ to_le_bytes w128 p.square → c ≡ to_le_bytes w128 p.cube → d ≡ to_le_bytes w128 p.fourth
    → four_written a b c d ≡ powers_as_bytes key
unfolding powers_as_bytes
powers_written key a b c d p are first second third fourth =
    let square : ℕ = ghash_times key key in
    let cube : ℕ = ghash_times square key in
    let of_cube : p.cube ≡ cube = are.2 ∙ ap (λ (z : ℕ). ghash_times z key) are.1 in
    let of_fourth : p.fourth ≡ ghash_times cube key = are.3 ∙ ap (λ (z : ℕ). ghash_times z key) of_cube in
    ap₂ (λ (x y : List ℕ). four_written x y c d) (first ∙ ap (to_le_bytes w128) are.0) (second ∙ ap (to_le_bytes w128) are.1)
    ∙ ap₂ (four_written (to_le_bytes w128 key) (to_le_bytes w128 square)) (third ∙ ap (to_le_bytes w128) of_cube)
    (fourth ∙ ap (to_le_bytes w128) of_fourth)

-- numbers that are read from the bytes of the powers are the powers
pub powers_read : (key : ℕ) (bytes : List ℕ) (p : Powers) → key < 2 ^ 128 → bytes ≡ powers_as_bytes key
    → p.key ≡ from_le_bytes w128 (take 16 bytes)
    → p.square ≡ from_le_bytes w128 (take 16 (drop 16 bytes))
    → p.cube ≡ from_le_bytes w128 (take 16 (drop 32 bytes))
    → p.fourth ≡ from_le_bytes w128 (take 16 (drop 48 bytes))
    → ArePowers key p
unfolding powers_as_bytes
powers_read key bytes p fits same first second third fourth =
    let square : ℕ = ghash_times key key in
    let cube : ℕ = ghash_times square key in
    let of_key : p.key ≡ key = first ∙ ap (λ (b : List ℕ). from_le_bytes w128 (take 16 b)) same ∙ from_le-to_le key fits in
    let of_square : p.square ≡ square =
    second ∙ ap (λ (b : List ℕ). from_le_bytes w128 (take 16 (drop 16 b))) same ∙ from_le-to_le square (ghash_ring.below key key) in
    let of_cube : p.cube ≡ cube =
    third ∙ ap (λ (b : List ℕ). from_le_bytes w128 (take 16 (drop 32 b))) same ∙ from_le-to_le cube (ghash_ring.below square key) in
    let of_fourth : p.fourth ≡ ghash_times cube key =
    fourth ∙ ap (λ (b : List ℕ). from_le_bytes w128 (take 16 (drop 48 b))) same
    ∙ from_le-to_le (ghash_times cube key) (ghash_ring.below cube key) in
    (of_key, of_square, of_cube ∙ sym (ap (λ (z : ℕ). ghash_times z key) of_square), of_fourth ∙ sym (ap (λ (z : ℕ). ghash_times z key) of_cube))
