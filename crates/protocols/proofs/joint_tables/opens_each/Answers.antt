use Rattle.std.proofs.Common.{◌<◌, ◌^◌, [], length, map, get_or, refl, sym, ◌∙◌, arith}
use Rattle.std.proofs.lemmas.Bool.{true≢false}
use Rattle.std.proofs.lemmas.List.{get_or_default}
use Rattle.protocols.specs.CommitmentScheme.{matrix_rows, word_levels}
use Rattle.protocols.specs.JointTables.{OpensBytes}
use Rattle.protocols.proofs.HonestTables.{bytes-same, mapped-at}
use Rattle.protocols.proofs.TableRows.{each-more}
use Rattle.protocols.proofs.joint_tables.opens_each.Goals as goal

pub returns-then-not-opens : goal.returns-then-not-opens
returns-then-not-opens g c = (
  λ e. absurd (true≢false (sym e)),
  λ each.
      let index = c.tables.index in
      let one : index < length c.args.roots.now = omega arith in
      let columns = c.index-lists-index.result in
      let nodes = c.index-openers-index.result in
      absurd
      (true≢false
      (sym
      (c.in_ok-opens.ensures.1
      (bytes-same (sym (get_or_default c.args.roots.now index _ [] one))
      (mapped-at (λ list. list.items) c.args.lists.now index columns [] (omega arith) c.index-lists-index.is ∙ sym c.as_slice-columns.ensures.value)
      (mapped-at (λ list. list.items) c.args.openers.now index nodes [] (omega arith) c.index-openers-index.is ∙ sym c.as_slice-nodes.ensures.value)
      (each index one)))
      ∙ c.if-not-opens.true)),
)

pub tables-preserved : goal.tables-preserved
tables-preserved g c =
    let sizes = c.args.parameters.now in
    let index = c.tables.index in
    let one : index < length c.args.roots.now = omega arith in
    let columns = c.index-lists-index.result in
    let nodes = c.index-openers-index.result in
    each-more
    (λ i. OpensBytes (g.H.ByteHasher32.digest c.args.hasher.now) g.F.Represented.repr g.F.RawDataSerializable.NUM_BYTES
    (word_levels sizes.queries sizes.variables) (2 ^ matrix_rows sizes.queries sizes.variables) c.args.places.now (get_or c.args.roots.now i [])
    (get_or (map (λ list. list.items) c.args.lists.now) i []) (get_or (map (λ list. list.items) c.args.openers.now) i [])) index
    c.tables.invariant
    (bytes-same (get_or_default c.args.roots.now index _ [] one)
    (c.as_slice-columns.ensures.value
    ∙ sym (mapped-at (λ list. list.items) c.args.lists.now index columns [] (omega arith) c.index-lists-index.is))
    (c.as_slice-nodes.ensures.value
    ∙ sym (mapped-at (λ list. list.items) c.args.openers.now index nodes [] (omega arith) c.index-openers-index.is))
    (c.in_ok-opens.ensures.0 c.if-not-opens.false))

pub returns : goal.returns
returns g c = ((λ holds i below. c.tables.invariant i (omega (arith, below))), λ each. refl)
