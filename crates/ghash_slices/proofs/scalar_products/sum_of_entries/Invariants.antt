use Rattle.std.proofs.Common.{◌≡◌, ℕ, ◌*◌, ◌%◌, ◌^◌, ◌<◌}
use Rattle.std.specs.Prelude.{slice_index}
use Rattle.ghash_slices.specs.LowStages.{ghash_product}
use Rattle.ghash_slices.specs.SplitWords.{digit_product, two_words}
use Rattle.ghash_slices.proofs.scalar_products.sum_of_entries.Given as goal

-- the entries at the digits before are in the sum
abbrev pub invariant-loop-digit : goal.invariant-loop-digit
invariant-loop-digit l =
    (scalar : ℕ) → ((p : ℕ) → p < 512 → slice_index l.entries p ≡ digit_product scalar p)
    → l.sum ≡ two_words (ghash_product scalar (l.word % 2 ^ (4 * l.digit) * 2 ^ (4 * l.first)))
