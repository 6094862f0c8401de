use Rattle.std.proofs.Common.{◌≡◌, ◌*◌, length, drop, map, sym, ◌∙◌, ap, arith}
use Rattle.std.proofs.lemmas.List.{length-map, length-replicate, take_at}
use Rattle.transcripts.specs.Commitments.{row_at}
use Rattle.protocols.proofs.TableLaws.{transposed-column}
use Rattle.protocols.proofs.TableRows.{row-map}
use Rattle.protocols.proofs.tables.columns_of.Goals as goal

pub returns-clause-each : goal.returns-clause-each
returns-clause-each g c = λ p below.
    let repr = g.F.Represented.repr in
    let after = c.transpose_into.new.target in
    let rest = drop (length after) c.in_ok-columns.columns.items in
    let written = take_at after rest c.in_ok-columns.columns.len (c.transpose_into.ensures.shape ∙ c.as_mut_slice.ensures.len) in
    let long : length after ≡ c.args.size * c.args.height =
    c.transpose_into.ensures.shape ∙ ap length c.as_mut_slice.ensures.value ∙ ap length c.in_ok-columns.ensures
    ∙ length-replicate (length c.args.matrix.now) g.F.PrimeCharacteristicRing.ZERO ∙ c.requires ∙ omega arith in
    ap (λ l. map repr (row_at c.args.height l p)) written ∙ sym (row-map repr c.args.height after p)
    ∙ transposed-column c.args.height c.args.size (map repr c.args.matrix.now) (map repr after) p (length-map after repr ∙ long) below
    (λ j inside. c.transpose_into.ensures.entries p j below inside)
