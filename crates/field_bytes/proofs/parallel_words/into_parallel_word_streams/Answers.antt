use Rattle.std.proofs.Common.{refl}
use Rattle.field_bytes.specs.Parallel.{GivesRow}
use Rattle.field_bytes.specs.Words.{IsWordRow}
use Rattle.field_bytes.specs.declared.parallel.ParallelByteStreams.{ParallelByteStreams}
use Rattle.field_bytes.specs.declared.parallel_words.ParallelWordStreams.{ParallelWordStreams}
use Rattle.field_bytes.proofs.Wording.{words_begun, words_given}
use Rattle.field_bytes.proofs.parallel_words.into_parallel_word_streams.Goals as goal

pub returns : goal.returns
returns g c =
    let rows_of = GivesRow g.I.Iterator.next_gives g.row.N g.E.RawDataSerializable.NUM_BYTES g.E.Represented.repr in
    record {
      can = λ may on. c.into_parallel_byte_streams.ensures.can may;
      ends = λ finite. c.into_parallel_byte_streams.ensures.ends finite;
      items = λ words run.
          let made = words_given {X = ParallelWordStreams g.row.W.Denot (ParallelByteStreams g.row.I.Denot g.row.E.Denot g.row.N) g.row.N} rows_of
          g.W.LittleEndian.SIZE (IsWordRow g.row.N g.W.Stored.number) (λ s. s.ended) (λ s. s.rows) _ words g.met.W.LittleEndian.wide_law refl run in
          let joined = c.into_parallel_byte_streams.ensures.items made.0 made.1 in
          (joined.0, made.0, joined.1, joined.2, made.2);
      first = (refl, c.into_parallel_byte_streams.ensures.first);
      part = λ words t run.
          words_begun {X = ParallelWordStreams g.row.W.Denot (ParallelByteStreams g.row.I.Denot g.row.E.Denot g.row.N) g.row.N} rows_of g.W.LittleEndian.SIZE
          (IsWordRow g.row.N g.W.Stored.number) (λ s. s.ended) (λ s. s.rows) _ t words refl run;
    }
