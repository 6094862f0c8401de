use Rattle.std.proofs.Common.{◌≡◌, ℕ, ◌*◌, ◌<◌, length}
use Rattle.std.specs.Prelude.{slice_index}
use Rattle.ghash_slices.specs.SplitWords.{digit_product}
use Rattle.ghash_slices.proofs.scalar_products.digit_products.Given as goal

-- the rows before hold their products
abbrev pub invariant-loop-row : goal.invariant-loop-row
invariant-loop-row l =
    (length l.products ≡ 512) × ((p : ℕ) → p < 16 * l.row → slice_index l.products p ≡ digit_product l.fn.scalar p)
