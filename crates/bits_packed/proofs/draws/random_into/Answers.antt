use Rattle.std.proofs.Common.{◌≡◌, ◌*◌, ◌<◌, ℕ, sym, subst}
use Rattle.bits_packed.specs.BitMatrices.{bit_entry, kept_before}
use Rattle.bits_packed.proofs.draws.random_into.Goals as goal

pub returns-clause-drawn : goal.returns-clause-drawn
returns-clause-drawn g c =
    let columns = c.args.columns in
    let drawn = c.random_into.new.target in
    let now = c.cut_rows.new.matrix in (
      drawn,
      c.random_into.ensures.drawn,
      sym c.cut_rows.ensures.shape,
      subst (λ (n : ℕ). (i j : ℕ) → i < c.args.rows → j < 64 * n → bit_entry n now i j ≡ kept_before columns (bit_entry n drawn i) j)
          c.div_ceil-words.ensures c.cut_rows.ensures.entries,
    )
