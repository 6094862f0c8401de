use Rattle.std.proofs.Common.{◌≡◌, ◌%◌, ◌^◌, map}
use Rattle.std.specs.List.{range_with_len}
use Rattle.field_bytes.specs.Bytes.{number_of_bytes}
use Rattle.field_element.specs.Element.{repr_of}
use Rattle.transcripts.specs.Commitments.{row_at}
use Rattle.prove_sums.proofs.tables.embedded.Given as goal

-- the words so far are those of the bytes
abbrev pub invariant-words : goal.invariant-words
invariant-words l =
    map repr_of l.words.items ≡ map (λ p. number_of_bytes (row_at l.size l.bytes p) % 2 ^ 128) (range_with_len 0 l.index)
