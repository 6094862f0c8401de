use Rattle.std.proofs.Common.{refl, subst}
use Rattle.field_bytes.specs.Streams.{GivesByte}
use Rattle.field_bytes.specs.Bytes.{IsWord}
use Rattle.field_bytes.specs.Words.{AreWords}
use Rattle.field_bytes.specs.declared.streams.ByteStream.{ByteStream}
use Rattle.field_bytes.specs.declared.words.WordStream.{WordStream}
use Rattle.field_bytes.proofs.Wording.{words_begun, words_given}
use Rattle.field_bytes.proofs.words.into_word_stream.Goals as goal

pub returns : goal.returns
returns g c =
    let bytes_of = GivesByte g.I.Iterator.next_gives g.E.RawDataSerializable.NUM_BYTES g.E.Represented.repr in
    record {
      can = λ may on. c.into_byte_stream.ensures.can may;
      ends = λ finite. c.into_byte_stream.ensures.ends finite;
      items = λ words run.
          let made = words_given {X = WordStream g.row.W.Denot (ByteStream g.row.I.Denot g.row.E.Denot)} bytes_of g.W.LittleEndian.SIZE (IsWord g.W.Stored.number)
          (λ s. s.ended) (λ s. s.bytes) _ words g.met.W.LittleEndian.wide_law refl run in
          let joined = c.into_byte_stream.ensures.items made.0 made.1 in
          (joined.0, joined.1, subst (λ bytes. AreWords g.W.Stored.number g.W.LittleEndian.SIZE bytes words) joined.2 made.2);
      first = (refl, c.into_byte_stream.ensures.first);
      part = λ words t run.
          words_begun {X = WordStream g.row.W.Denot (ByteStream g.row.I.Denot g.row.E.Denot)} bytes_of g.W.LittleEndian.SIZE (IsWord g.W.Stored.number)
          (λ s. s.ended) (λ s. s.bytes) _ t words refl run;
    }
