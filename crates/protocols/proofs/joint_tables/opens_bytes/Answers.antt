use Rattle.std.proofs.Common.{◌≡◌, ◌+◌, ◌*◌, ◌<◌, ◌^◌, ℕ, length, sym, ◌∙◌, ap, ap₂, subst, arith}
use Rattle.std.proofs.lemmas.Bool.{true≢false}
use native.Mathlib.Nat.{mul_assoc}
use Rattle.field_bytes.specs.Streams.{joined_bytes}
use Rattle.transcripts.specs.Commitments.{row_at}
use Rattle.transcripts.specs.Openings.{OpensRows}
use Rattle.protocols.specs.CommitmentScheme.{matrix_rows, word_levels}
use Rattle.protocols.proofs.ProofBytes.{length-proof}
use Rattle.protocols.proofs.TableOpenings.{column-bytes, opens-same}
use Rattle.protocols.proofs.joint_tables.opens_bytes.Goals as goal

pub power_of_two-height-requires : goal.power_of_two-height-requires
power_of_two-height-requires g c = omega (arith, c.args.parameters.now.few_rows)

pub returns-then-not-has_length : goal.returns-then-not-has_length
returns-then-not-has_length g c = (
  λ e. absurd (true≢false (sym e)),
  λ opens.
      let sizes = c.args.parameters.now in
      absurd
      (true≢false
      (sym
      (c.has_length.ensures.1
      (opens.count
      ∙ ap (λ (n : ℕ). length c.args.places.now * n) (sym (c.power_of_two-height.ensures.power ∙ ap (λ (r : ℕ). 2 ^ r) sizes.rows_are))))
      ∙ c.if-not-has_length.true)),
)

pub verify_many-requires-clause-few : goal.verify_many-requires-clause-few
verify_many-requires-clause-few g c = omega (arith, c.args.parameters.now.few_levels)

pub verify_many-requires-clause-count : goal.verify_many-requires-clause-count
verify_many-requires-clause-count g c =
    let bytes = g.F.RawDataSerializable.NUM_BYTES in
    let height = c.power_of_two-height.result in
    ap length c.as_slice.ensures.value ∙ ap length c.in_ok-bytes.ensures ∙ length-proof bytes g.F.Represented.repr c.args.columns.now
    ∙ ap (λ (n : ℕ). n * bytes) (c.has_length.ensures.0 c.if-not-has_length.false)
    ∙ mul_assoc (length c.args.places.now) height bytes
    ∙ ap (λ (n : ℕ). length c.args.places.now * (height * n)) (sym c.NUM_BYTES.ensures)

pub returns : goal.returns
returns g c =
    let sizes = c.args.parameters.now in
    let repr = g.F.Represented.repr in
    let bytes = g.F.RawDataSerializable.NUM_BYTES in
    let hash = g.H.ByteHasher32.digest c.args.hasher.now in
    let height = c.power_of_two-height.result in
    let columns = c.args.columns.now in
    let places = c.args.places.now in
    let rows = matrix_rows sizes.queries sizes.variables in
    let high : height ≡ 2 ^ rows = c.power_of_two-height.ensures.power ∙ ap (λ (r : ℕ). 2 ^ r) sizes.rows_are in
    let deep : 2 + sizes.levels ≡ word_levels sizes.queries sizes.variables = ap (λ (k : ℕ). 2 + k) sizes.levels_are in
    let row : (i : ℕ) → i < length places
    → row_at (height * c.NUM_BYTES.result) c.as_slice.result.now i ≡ joined_bytes bytes repr (row_at (2 ^ rows) columns i) =
    λ i below.
    ap₂ (λ (n : ℕ) l. row_at (height * n) l i) c.NUM_BYTES.ensures (c.as_slice.ensures.value ∙ c.in_ok-bytes.ensures)
    ∙ column-bytes repr bytes (length places) height columns i (c.has_length.ensures.0 c.if-not-has_length.false) below
    ∙ ap (λ (n : ℕ). joined_bytes bytes repr (row_at n columns i)) high in (
      λ accepted.
          record {
            count = c.has_length.ensures.0 c.if-not-has_length.false ∙ ap (λ (n : ℕ). length places * n) high;
            opened =
                opens-same hash (word_levels sizes.queries sizes.variables) c.args.root places
                (row_at (height * c.NUM_BYTES.result) c.as_slice.result.now)
                (λ (i : ℕ). joined_bytes bytes repr (row_at (2 ^ rows) columns i)) c.args.nodes.now row
                (subst
                (λ (d : ℕ). OpensRows hash d c.args.root places (row_at (height * c.NUM_BYTES.result) c.as_slice.result.now) c.args.nodes.now) deep
                (c.in_ok-opened.ensures.0 accepted));
          },
      λ opens.
          c.in_ok-opened.ensures.1
          (opens-same hash (2 + sizes.levels) c.args.root places (λ (i : ℕ). joined_bytes bytes repr (row_at (2 ^ rows) columns i))
          (row_at (height * c.NUM_BYTES.result) c.as_slice.result.now) c.args.nodes.now (λ i below. sym (row i below))
          (subst
          (λ (d : ℕ). OpensRows hash d c.args.root places (λ (i : ℕ). joined_bytes bytes repr (row_at (2 ^ rows) columns i)) c.args.nodes.now)
          (sym deep) opens.opened)),
    )
