use Rattle.std.proofs.Common.{ℕ, ◌^◌, ◌<◌, get_or, map, sym, ◌∙◌, ap, subst}
use Rattle.std.specs.Prelude.{bit_xor, slice_index}
use Rattle.field_base.specs.Tower.{tower_mul}
use Rattle.additive_transforms.specs.Rows.{level_of}
use Rattle.additive_transforms.specs.Units.{FirstAre}
use Rattle.reed_solomon.proofs.AddedRows.{first_added}
use Rattle.reed_solomon.proofs.products.add_in_planes.Goals as goal

pub add_multiples-requires-clause-fit : goal.add_multiples-requires-clause-fit
add_multiples-requires-clause-fit g c k =
    subst (λ (of_word : _ → ℕ). slice_index (map of_word c.args.sums.now) k < 2 ^ 2 ^ level_of g.P.Planes.depth) (sym g.met.R.StoredBytes.number_law)
    (subst (λ (b : ℕ). slice_index (map g.R.Stored.number c.args.sums.now) k < 2 ^ b)
    (g.met.R.WordBytes.bits_law ∙ ap (λ (size : ℕ). 2 ^ level_of size) c.requires.size) (c.words_fit.ensures k))

pub returns-clause-added : goal.returns-clause-added
returns-clause-added g c =
    let number = g.R.Stored.number in
    let level = g.L.Level.LEVEL in
    let row = c.args.row.now in
    let old = c.args.sums.now in
    let now = c.add_multiples.new.sums in
    let done = c.add_multiples.result in
    first_added number g.R.Stored.ZERO level (number c.args.factor) g.R.Stored.same_law done c.to_u128-scalar.result row old now
    (c.to_u128-scalar.ensures ∙ c.truncate.ensures) c.requires.same c.add_multiples.ensures.long c.add_multiples.ensures.few
    (subst (λ (k : ℕ). FirstAre done (λ i. bit_xor (get_or (map number old) i 0) (tower_mul k c.to_u128-scalar.result (get_or (map number row) i 0)))
    (map number old) (map number now)) c.requires.level
    (subst (λ (of_word : _ → ℕ). FirstAre done
    (λ i. bit_xor (get_or (map of_word old) i 0) (tower_mul (level_of g.P.Planes.depth) c.to_u128-scalar.result (get_or (map of_word row) i 0)))
    (map of_word old) (map of_word now)) g.met.R.StoredBytes.number_law
    (c.add_multiples.ensures.products c.to_u128-scalar.result c.multiples-multiples.ensures)))
