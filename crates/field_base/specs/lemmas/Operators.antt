-- What is true of the definitions of Operators.antt.
use Rattle.std.specs.Prelude.{◌≡◌, ℕ}
use Rattle.field_base.specs.Operators.{Means, AlwaysGives}

-- so it does where its contract says just that
pub given : {R : Type 0} {repr : R → ℕ} {number : ℕ} → AlwaysGives (λ r. repr r ≡ number) repr number
given = (tt, λ r is. is)

-- those of a ring beside `+` and `*` (`+=`, `-`, `-=`, `*=` and the unary `-`), where the first three say the same
pub ring_gives : {R : Type 0} {sums products negations : R → Type 0} {repr : R → ℕ} {sum product negation : ℕ}
    → Means sums repr sum → Means products repr product → Means negations repr negation
    → AlwaysGives sums repr sum × AlwaysGives sums repr sum × AlwaysGives sums repr sum
    × AlwaysGives products repr product × AlwaysGives negations repr negation
ring_gives sum product negation = ((tt, sum), (tt, sum), (tt, sum), (tt, product), (tt, negation))

-- those of an algebra (`+`, `+=`, `-`, `-=`, `*` and `*=`), where the first four say the same, and so do the last two
pub algebra_gives : {R : Type 0} {sums products : R → Type 0} {repr : R → ℕ} {sum product : ℕ}
    → Means sums repr sum → Means products repr product
    → AlwaysGives sums repr sum × AlwaysGives sums repr sum × AlwaysGives sums repr sum × AlwaysGives sums repr sum
    × AlwaysGives products repr product × AlwaysGives products repr product
algebra_gives sum product = ((tt, sum), (tt, sum), (tt, sum), (tt, sum), (tt, product), (tt, product))
