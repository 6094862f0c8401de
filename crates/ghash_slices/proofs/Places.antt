-- Places of blocks of 2 ^ n places: the places with the same quotient by 2 ^ n.
use Rattle.std.proofs.Common.{◌≡◌, ℕ, suc, ◌+◌, ◌*◌, ◌/◌, ◌%◌, ◌^◌, ◌<◌, sym, ◌∙◌, ap, ap₂, arith}
use Rattle.std.proofs.lemmas.Nat.{div-mul-add, mod-mul-add, shr-shr}
use Rattle.ghash_slices.specs.Stages.{lower_place, upper_place}

-- a quotient by 2 ^ (n + 1) is half of that by 2 ^ n
pub next_quotient : (p n : ℕ) → p / 2 ^ suc n ≡ p / 2 ^ n / 2
next_quotient p n =
    let one_more : n + 1 ≡ suc n = omega arith in
    ap (λ (m : ℕ). p / 2 ^ m) (sym one_more) ∙ sym (shr-shr p n 1)

-- what is made of the quotient by 2 ^ (n + 1) and of bit n depends on the quotient by 2 ^ n alone
pub by_block : (f : ℕ → ℕ → ℕ) (n p q : ℕ) → p / 2 ^ n ≡ q / 2 ^ n → f (p / 2 ^ suc n) (p / 2 ^ n % 2) ≡ f (q / 2 ^ suc n) (q / 2 ^ n % 2)
by_block f n p q same =
    ap₂ f (next_quotient p n ∙ ap (λ (m : ℕ). m / 2) same ∙ sym (next_quotient q n)) (ap (λ (m : ℕ). m % 2) same)

-- place k of the block of p
module _ (n p k : ℕ) (below : k < 2 ^ n) where
  -- place k of the block of p has the quotient of p by 2 ^ n
  pub block_quotient : (p / 2 ^ n * 2 ^ n + k) / 2 ^ n ≡ p / 2 ^ n
  block_quotient = div-mul-add (p / 2 ^ n) (2 ^ n) k below

  -- and its quotient by 2 ^ (n + 1)
  wider_quotient : (p / 2 ^ n * 2 ^ n + k) / 2 ^ suc n ≡ p / 2 ^ suc n
  wider_quotient =
      next_quotient (p / 2 ^ n * 2 ^ n + k) n ∙ ap (λ (q : ℕ). q / 2) block_quotient ∙ sym (next_quotient p n)

  -- its lower place is place k of the block of twice the places, and its upper place is 2 ^ n places further
  pub lower_in_block : lower_place n (p / 2 ^ n * 2 ^ n + k) ≡ p / 2 ^ suc n * 2 ^ suc n + k
  unfolding lower_place
  lower_in_block =
      ap₂ (λ (q r : ℕ). q * 2 ^ suc n + r) wider_quotient (mod-mul-add (p / 2 ^ n) (2 ^ n) k below)

  -- the upper place of a place of the lower half is 2 ^ n above it
  pub upper_in_block : upper_place n (p / 2 ^ n * 2 ^ n + k) ≡ p / 2 ^ suc n * 2 ^ suc n + (2 ^ n + k)
  unfolding upper_place
  upper_in_block = ap (λ (q : ℕ). q + 2 ^ n) lower_in_block ∙ order (p / 2 ^ suc n * 2 ^ suc n) k (2 ^ n)
    where
      order : (a b c : ℕ) → a + b + c ≡ a + (c + b)
      order a b c = omega arith
