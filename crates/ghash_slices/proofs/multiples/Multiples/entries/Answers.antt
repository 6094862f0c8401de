use Rattle.std.proofs.Common.{List, ℕ, ◌*◌, ◌∙◌, ap₂, map}
use Rattle.std.specs.Simd.Lanes.{chunk}
use Rattle.word_tables.specs.Nibbles.{entry_sum}
use Rattle.ghash_slices.specs.Multiples.{byte_of_multiple}
use Rattle.ghash_slices.proofs.HornerProducts.{looked_up, multiples_looked_up}
use Rattle.ghash_slices.proofs.multiples.Multiples.entries.Goals as goal

pub returns-clause-bytes : goal.returns-clause-bytes
returns-clause-bytes g c =
    let self = c.args.self.now in
    let row = c.args.row in
    let bytes = g.V.ByteVector.bytes c.args.bytes in
    c.entry_sums.ensures ∙ ap₂ (λ (low high : List ℕ). map (entry_sum low high) bytes) c.lanes_at.ensures.lanes c.lanes_at-2.ensures.lanes
    ∙ looked_up (byte_of_multiple self.scalar row) (chunk (16 * row) 16 self.low) (chunk (16 * row) 16 self.high)
    (multiples_looked_up self.scalar row self.low self.high c.requires self.low_is self.high_is) bytes c.holds_bytes.ensures.fit
