use Rattle.std.proofs.Common.{ℕ, ◌+◌, ◌*◌, ◌%◌, ◌^◌, ◌∙◌, ap, ap₂}
use Rattle.field_bytes.proofs.Streaming.{rest_left, rest_within}
use Rattle.field_bytes.proofs.Wide.{word_of_eight}
use Rattle.field_bytes.proofs.streams.ByteStream.give_wide.Goals as goal

pub returns-clause-inside : goal.returns-clause-inside
returns-clause-inside g c =
    rest_within g.E.RawDataSerializable.NUM_BYTES _ g.E.Represented.repr _ _ c.NUM_BYTES-size.ensures c.pending_of-pending.ensures.within

pub returns-clause-word : goal.returns-clause-word
returns-clause-word g c =
    word_of_eight c.args.given (g.E.Represented.repr c.args.element) _ c.requires.whole
    (c.of_wide-word.ensures ∙ ap₂ (λ (n k : ℕ). n % 2 ^ k) c.wide.ensures (g.met.W.LittleEndian.size_law ∙ ap (λ (k : ℕ). 8 * k) c.requires.eight))

pub returns-clause-left : goal.returns-clause-left
returns-clause-left g c =
    rest_left g.E.RawDataSerializable.NUM_BYTES _ g.E.Represented.repr _ _ c.NUM_BYTES-size.ensures c.args.element (c.args.given + 8)
    (c.pending_of-pending.ensures.left g.E.Represented.repr)
