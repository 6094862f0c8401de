use Rattle.std.proofs.Common.{◌%◌, ◌/◌}
use Rattle.std.specs.Prelude.{bit_xor, slice_index}
use Rattle.std.proofs.lemmas.Simd.{zip2-map}
use Rattle.word_tables.proofs.register_tables.entry_sums.Goals as goal

pub returns : goal.returns
returns g c =
    rw (c.sum.ensures, c.low_entries.ensures, c.high_entries.ensures)
    (zip2-map bit_xor (λ byte. slice_index c.args.low (byte % 16)) (λ byte. slice_index c.args.high (byte / 16)) (g.V.ByteVector.bytes c.args.bytes))
