use Rattle.std.proofs.Common.{refl}
use Rattle.field_bytes.proofs.Rows.{rows_begun, rows_given}
use Rattle.field_bytes.proofs.parallel.into_parallel_byte_streams.Goals as goal

pub returns-clause-items : goal.returns-clause-items
returns-clause-items g c = λ rows run. rows_given g.I.Iterator.next_gives g.E.RawDataSerializable.NUM_BYTES g.E.Represented.repr _ rows refl refl run

pub returns-clause-part : goal.returns-clause-part
returns-clause-part g c = λ rows t run. rows_begun g.I.Iterator.next_gives g.E.RawDataSerializable.NUM_BYTES g.E.Represented.repr _ rows t refl run

pub returns-clause-can : goal.returns-clause-can
returns-clause-can g c = λ may. ((λ _. may), refl)
