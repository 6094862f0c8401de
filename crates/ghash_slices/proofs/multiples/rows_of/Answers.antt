use Rattle.std.proofs.Common.{◌+◌, ℕ, List, ap, subst}
use Rattle.std.specs.Prelude.{slice_index}
use Rattle.std.proofs.lemmas.List.{map-id}
use native.Mathlib.Nat.{zero-add}
use Rattle.ghash_slices.specs.Blocks.{HoldBytes}
use Rattle.ghash_slices.proofs.BlockLemmas.{rows_of}
use Rattle.ghash_slices.proofs.HornerProducts.{rows_same}
use Rattle.ghash_slices.proofs.multiples.rows_of.Goals as goal

pub returns : goal.returns
returns c =
    let numbers = c.args.numbers.now in
    rows_same c.transposed.result (λ e. slice_index numbers (0 + e)) (slice_index numbers) (λ e small. ap (slice_index numbers) (zero-add e))
    (rows_of c.bytes_from.result c.transposed.result (λ e. slice_index numbers (0 + e)) c.transposed.ensures
    (subst (λ (l : List ℕ). HoldBytes c.bytes_from.result (λ e. slice_index l (0 + e))) (map-id numbers) c.bytes_from.ensures))
