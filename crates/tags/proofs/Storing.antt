-- A hash as plain data, and as what takes a message in.
use Rattle.std.proofs.Common.{◌≡◌, ℕ, ◌+◌, ◌-◌, ◌*◌, ◌/◌, ◌%◌, ◌≤◌, List, ◌++◌, length, take, drop, replicate, sym, ap, ◌∙◌, arith, length-drop}
use Rattle.std.proofs.lemmas.List.{drop-replicate, take-replicate, take-take, take_at}
use Rattle.std.proofs.Math.Seq.{take-append-add}
use Rattle.std.specs.Int.{from_le_bytes, w128}
use Rattle.tags.specs.Absorbed.{Holds, Stores}
use Rattle.tags.specs.Blocks.{block}
use Rattle.tags.specs.Powers.{ArePowers}
use Rattle.tags.specs.Prepared.{powers_as_bytes}
use Rattle.tags.specs.declared.absorber.Absorber.{Absorber}
use Rattle.tags.specs.declared.state.HashState.{HashState}
use Rattle.tags.proofs.Absorbing.{Holds_from, Holds_used, Holds-IsAbsorbed}

-- bytes, and as many zeros as make them a block
pub zeros_behind : (x bytes : List ℕ) → x ≡ bytes → length bytes ≤ 16
    → x ++ drop (length bytes) (replicate 16 0) ≡ take 16 (bytes ++ replicate 16 0)
zeros_behind x bytes is few =
    let n : ℕ = 16 - length bytes in
    let sixteen : 16 ≡ length bytes + n = omega (arith, few) in
    ap (λ (y : List ℕ). y ++ drop (length bytes) (replicate 16 0)) is
    ∙ ap (λ (y : List ℕ). bytes ++ y) (drop-replicate (length bytes) 16 0 ∙ sym (take-replicate n 16 0 (omega arith)))
    ∙ sym (ap (λ (k : ℕ). take k (bytes ++ replicate 16 0)) sixteen ∙ take-append-add bytes (replicate 16 0) n)

-- a block begins with the bytes of the message that are in it
block_begins : (m : List ℕ) → take (length m % 16) (block m (length m / 16)) ≡ drop (length m / 16 * 16) m
block_begins m =
    let rest : List ℕ = drop (length m / 16 * 16) m in
    let long : length rest ≡ length m % 16 = omega (arith, length-drop (length m / 16 * 16) m) in
    take-take (length m % 16) 16 (rest ++ replicate 16 0) (omega arith)
    ∙ take_at rest (replicate 16 0) (length m % 16) long

module _ (element : List ℕ → ℕ) (key : ℕ) (m : List ℕ) where
  pub Stores_powers : (s : HashState) → Stores element key s m → s.powers ≡ powers_as_bytes key
  unfolding Stores
  Stores_powers s stored = stored.0

  -- what is read
  pub read_again : (s : HashState) (a : Absorber) → Stores element key s m → ArePowers key a.powers → a.sum ≡ from_le_bytes w128 s.sum
      → a.buffer ≡ s.block → a.used ≡ s.used % 16 → Holds element key a m
  unfolding Stores
  read_again s a stored powers sum buffer used =
      Holds_from element key a m powers (omega (arith, used, stored.3))
      (sum ∙ stored.1, ap (take (length m % 16)) (buffer ∙ stored.2) ∙ block_begins m)

  -- what is written
  pub written : (a : Absorber) (s : HashState) (used : ℕ) (bytes : List ℕ) → Holds element key a m → used ≡ a.used % 16
      → s.powers ≡ powers_as_bytes key → from_le_bytes w128 s.sum ≡ a.sum → bytes ≡ take used a.buffer
      → s.block ≡ take 16 (bytes ++ replicate 16 0) → s.used ≡ used → Stores element key s m
  unfolding Stores
  written a s used bytes held at powers sum kept filled count =
      let so_far : a.used ≡ length m % 16 = Holds_used element key a m held in
      let same : used ≡ length m % 16 = omega (arith, at, so_far) in
      let absorbed = Holds-IsAbsorbed element key a m held in (
        powers,
        sum ∙ absorbed.0,
        filled ∙ ap (λ (z : List ℕ). take 16 (z ++ replicate 16 0)) (kept ∙ ap (λ (n : ℕ). take n a.buffer) same ∙ absorbed.1),
        count ∙ same,
      )
