-- Pairs that are counted in turns of as many.
use Rattle.std.proofs.Common.{◌≡◌, ℕ, ◌+◌, ◌-◌, ◌*◌, ◌/◌, ◌^◌, ◌<◌, ◌≤◌, suc, ◌∙◌, ap, subst, arith}
use Rattle.std.proofs.Math.Nat.{mul-le-mul_right}
use Rattle.additive_transforms.specs.Counting.{AddsUp}
use Rattle.additive_transforms.proofs.Counts.{half_count}

module _ {C : Type 0} {counted : C → C → ℕ → Type 0} {has_room : C → ℕ → Type 0} (adds : AddsUp counted has_room) where
  -- before the first turn none are counted
  pub no_turns : (a : C) (h : ℕ) → counted a a (0 * h)
  no_turns a h = let none : 0 ≡ 0 * h = omega arith in subst (counted a a) none (adds.none a)

  -- one more turn
  pub next_turn : (a b c : C) (k h : ℕ) → counted a b (k * h) → counted b c h → counted a c ((k + 1) * h)
  next_turn a b c k h so_far more =
      let one : k * h + h ≡ (k + 1) * h = omega arith in subst (counted a c) one (adds.more a b c (k * h) h so_far more)

  -- for which there is room where there was room for all
  pub turn_room : (a b : C) (k h all : ℕ) → k < all → has_room a (all * h) → counted a b (k * h) → has_room b h
  turn_room a b k h all below room so_far =
      let most : suc k * h ≤ all * h = mul-le-mul_right h below in
      let one : suc k * h ≡ k * h + h = omega arith in
      adds.rest a b (k * h) h (all * h) (omega (arith, most, one)) room so_far

  -- ---- the stages of 2 ^ m values from stage j on: that one, and those above it

  module _ (m j : ℕ) (below : j < m) where
    abbrev half : ℕ
    half = 2 ^ (m - 1)

    -- their pairs
    parts : half + (m - (j + 1)) * half ≡ (m - j) * half
    parts =
        let next : suc (m - (j + 1)) ≡ m - j = omega (arith, below) in
        let one : half + (m - (j + 1)) * half ≡ suc (m - (j + 1)) * half = omega arith in
        one ∙ ap (λ (n : ℕ). n * half) next

    -- there is room for those above it
    pub room_above : (a : C) → has_room a ((m - j) * half) → has_room a ((m - (j + 1)) * half)
    room_above a room = adds.rest a a 0 ((m - (j + 1)) * half) ((m - j) * half) (omega (arith, parts)) room (adds.none a)

    module _ (values : ℕ) (is : values ≡ 2 ^ m) where
      pairs : values / 2 ≡ half
      pairs = half_count m values (omega (arith, below)) is

      all : values / 2 + (m - (j + 1)) * half ≡ (m - j) * half
      all = ap (λ (n : ℕ). n + (m - (j + 1)) * half) pairs ∙ parts

      -- and for its own pairs, before them and behind them
      pub room_first : (a : C) → has_room a ((m - j) * half) → has_room a (values / 2)
      room_first a room = adds.rest a a 0 (values / 2) ((m - j) * half) (omega (arith, all)) room (adds.none a)

      pub room_behind : (a b : C) → has_room a ((m - j) * half) → counted a b (values / 2) → has_room b ((m - (j + 1)) * half)
      room_behind a b room one = adds.rest a b (values / 2) ((m - (j + 1)) * half) ((m - j) * half) (omega (arith, all)) room one

      pub room_last : (a b : C) → has_room a ((m - j) * half) → counted a b ((m - (j + 1)) * half) → has_room b (values / 2)
      room_last a b room others = adds.rest a b ((m - (j + 1)) * half) (values / 2) ((m - j) * half) (omega (arith, all)) room others

      -- so they are counted, in either order
      pub lowest_first : (a b c : C) → counted a b (values / 2) → counted b c ((m - (j + 1)) * half) → counted a c ((m - j) * half)
      lowest_first a b c one others = subst (counted a c) all (adds.more a b c (values / 2) ((m - (j + 1)) * half) one others)

      pub lowest_last : (a b c : C) → counted a b ((m - (j + 1)) * half) → counted b c (values / 2) → counted a c ((m - j) * half)
      lowest_last a b c others one =
          let turned : (m - (j + 1)) * half + values / 2 ≡ (m - j) * half = omega (arith, all) in
          subst (counted a c) turned (adds.more a b c ((m - (j + 1)) * half) (values / 2) others one)
