-- What is taken of an iterator.
use Rattle.std.specs.Prelude.{◌≡◌, ℕ, suc, ◌≤◌, ◌⊎◌, List, length}
use Rattle.std.specs.declared.option.Option.{Option}
use Rattle.std.specs.declared.option.Option.TheVariants.{None}
use Rattle.std.specs.Iterator.{Yields, YieldsThen}

-- what a call takes of an iterator, which it leaves at `rest`, where it takes one item more than n at most: all its items up to its
-- end, where they are not more than n, or the first n + 1
abbrev pub TakesOneMore : {S A : Type 0} → (S → Option A → S → Type 0) → S → ℕ → List A → S → Type 0
TakesOneMore next_gives iter n xs rest =
    (YieldsThen next_gives iter xs None rest × (length xs ≤ n)) ⊎ (Yields next_gives iter xs rest × (length xs ≡ suc n))
