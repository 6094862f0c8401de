use Rattle.std.proofs.Common.{◌≡◌, ◌+◌, ◌-◌, ◌*◌, ◌^◌, ◌<◌, ◌≤◌, ℕ, List, length, map, sym, ◌∙◌, ap, ap₂, subst, arith}
use Rattle.std.specs.Prelude.{◌↔◌, IsTrue, slice_index}
use Rattle.std.proofs.lemmas.Bool.{true≢false}
use Rattle.std.proofs.lemmas.List.{length-map, take-map}
use native.Mathlib.Nat.{mul_assoc}
use Rattle.field_bytes.specs.Streams.{joined_bytes}
use Rattle.field_slices.specs.Multilinear.{multilinear_value}
use Rattle.transcripts.specs.Commitments.{row_at}
use Rattle.transcripts.specs.Openings.{OpensRows}
use Rattle.protocols.proofs.ProofBytes.{length-proof}
use Rattle.protocols.proofs.TableOpenings.{agrees-by, column-bytes, opens-same, row-long, vectors-fit}
use Rattle.protocols.proofs.tables.verify_columns.Goals as goal

pub returns-then-not-has_length : goal.returns-then-not-has_length
returns-then-not-has_length g c = (
  λ e. absurd (true≢false (sym e)),
  λ opens.
      absurd
      (true≢false
      (sym
      (c.has_length.ensures.1 (opens.count ∙ ap (λ (n : ℕ). length c.args.opening.now.places.now * n) (sym c.power_of_two-height.ensures.power)))
      ∙ c.if-not-has_length.true)),
)

pub returns-then-row-power_of_two : goal.returns-then-row-power_of_two
returns-then-row-power_of_two g c = (
  λ e. absurd (true≢false (sym e)),
  λ opens.
      absurd
      (c.if-row-power_of_two.true
      (sym (length-map c.args.claim.now.row.now g.F.Represented.repr) ∙ row-long c.args.levels (c.args.commitment.depth - c.args.levels) opens.agrees
      ∙ sym c.power_of_two.ensures.power)),
)

pub verify_many-requires-clause-count : goal.verify_many-requires-clause-count
verify_many-requires-clause-count g c =
    let bytes = g.F.RawDataSerializable.NUM_BYTES in
    let height = c.power_of_two-height.result in
    ap length c.as_slice.ensures.value ∙ ap length c.in_ok-bytes.ensures ∙ length-proof bytes g.F.Represented.repr c.args.opening.now.columns.now
    ∙ ap (λ (n : ℕ). n * bytes) (c.has_length.ensures.0 c.if-not-has_length.false)
    ∙ mul_assoc (length c.args.opening.now.places.now) height bytes
    ∙ ap (λ (n : ℕ). length c.args.opening.now.places.now * (height * n)) (sym c.NUM_BYTES.ensures)

pub returns-then-not-opened : goal.returns-then-not-opened
returns-then-not-opened g c =
    let repr = g.F.Represented.repr in
    let bytes = g.F.RawDataSerializable.NUM_BYTES in
    let hash = g.H.ByteHasher32.digest c.args.hasher.now in
    let height = c.power_of_two-height.result in
    let columns = c.args.opening.now.columns.now in
    let places = c.args.opening.now.places.now in
    let row : (i : ℕ) → i < length places
    → row_at (height * c.NUM_BYTES.result) c.as_slice.result.now i ≡ joined_bytes bytes repr (row_at (2 ^ length c.args.claim.now.point.now) columns i) =
    λ i below.
    ap₂ (λ (n : ℕ) l. row_at (height * n) l i) c.NUM_BYTES.ensures (c.as_slice.ensures.value ∙ c.in_ok-bytes.ensures)
    ∙ column-bytes repr bytes (length places) height columns i (c.has_length.ensures.0 c.if-not-has_length.false) below
    ∙ ap (λ (n : ℕ). joined_bytes bytes repr (row_at n columns i)) c.power_of_two-height.ensures.power in (
      λ e. absurd (true≢false (sym e)),
      λ opens.
          absurd
          (true≢false
          (sym
          (c.in_ok-opened.ensures.1
          (opens-same hash c.args.commitment.depth c.args.commitment.root places
          (λ (i : ℕ). joined_bytes bytes repr (row_at (2 ^ length c.args.claim.now.point.now) columns i))
          (row_at (height * c.NUM_BYTES.result) c.as_slice.result.now) c.args.opening.now.nodes.now (λ i below. sym (row i below))
          (subst
          (λ (d : ℕ). OpensRows hash d c.args.commitment.root places
          (λ (i : ℕ). joined_bytes bytes repr (row_at (2 ^ length c.args.claim.now.point.now) columns i)) c.args.opening.now.nodes.now)
          (let depth : c.args.commitment.depth - c.args.levels + c.args.levels ≡ c.args.commitment.depth = omega (arith, c.requires.levels) in depth)
          opens.opened)))
          ∙ c.if-not-opened.true)),
    )

pub returns : goal.returns
returns g c =
    let ring = g.F.Represented in
    let repr = ring.repr in
    let bytes = g.F.RawDataSerializable.NUM_BYTES in
    let hash = g.H.ByteHasher32.digest c.args.hasher.now in
    let vector : ℕ → ℕ = λ (i : ℕ). g.F.TowerLevel.basis (g.F.TowerLevel.cantor i) in
    let expansion = c.args.commitment.depth - c.args.levels in
    let whole : expansion + c.args.levels ≡ c.args.commitment.depth = omega (arith, c.requires.levels) in
    let height = c.power_of_two-height.result in
    let columns = c.args.opening.now.columns.now in
    let places = c.args.opening.now.places.now in
    let word = c.in_ok-word.word.items in
    let column : ℕ → List ℕ = λ (i : ℕ). map repr (row_at (2 ^ length c.args.claim.now.point.now) columns i) in
    let row : (i : ℕ) → i < length places
    → row_at (height * c.NUM_BYTES.result) c.as_slice.result.now i ≡ joined_bytes bytes repr (row_at (2 ^ length c.args.claim.now.point.now) columns i) =
    λ i below.
    ap₂ (λ (n : ℕ) l. row_at (height * n) l i) c.NUM_BYTES.ensures (c.as_slice.ensures.value ∙ c.in_ok-bytes.ensures)
    ∙ column-bytes repr bytes (length places) height columns i (c.has_length.ensures.0 c.if-not-has_length.false) below
    ∙ ap (λ (n : ℕ). joined_bytes bytes repr (row_at n columns i)) c.power_of_two-height.ensures.power in
    let fits =
    vectors-fit g.F.TowerLevel.LOG_BITS ring.width ring.product g.F.TowerLevel.basis g.F.TowerLevel.cantor g.met.F.TowerLevel.bits_law
    g.met.F.TowerLevel.basis_law g.met.F.TowerLevel.cantor_law in
    let decided =
    agrees-by ring.width ring.product vector g.met.F.Field.wide_law g.met.F.Field.field_law g.met.F.TowerLevel.cantor_image_law fits
    c.args.levels expansion (subst (λ (d : ℕ). d ≤ ring.width) (sym whole) c.requires.points)
    (map repr c.args.claim.now.point.now) (map repr c.args.claim.now.row.now) places (map repr word) (length word)
    column c.in_ok-word.ensures.code_word
    (take-map repr (2 ^ c.args.levels) word ∙ ap (map repr) c.in_ok-word.ensures.systematic) (length-map word repr) in
    let tested : IsTrue c.agree_at-agree.result
    ↔ ((i : ℕ) → i < length places → (slice_index places i < length word)
    × (multilinear_value ring.product (column i) (map repr c.args.claim.now.point.now) ≡ slice_index (map repr word) (slice_index places i))) =
    subst
    (λ l. IsTrue c.agree_at-agree.result
    ↔ ((i : ℕ) → i < length places → (slice_index places i < length l)
    × (multilinear_value ring.product (column i) (map repr c.args.claim.now.point.now) ≡ slice_index (map repr l) (slice_index places i))))
    c.as_slice-2.ensures.value
    (subst
    (λ (n : ℕ). IsTrue c.agree_at-agree.result
    ↔ ((i : ℕ) → i < length places → (slice_index places i < length c.as_slice-2.result.now)
    × (multilinear_value ring.product (map repr (row_at n columns i)) (map repr c.args.claim.now.point.now)
    ≡ slice_index (map repr c.as_slice-2.result.now) (slice_index places i)))) c.power_of_two-height.ensures.power c.agree_at-agree.ensures) in (
      λ accepted.
          record {
            count = c.has_length.ensures.0 c.if-not-has_length.false
                ∙ ap (λ (n : ℕ). length places * n) c.power_of_two-height.ensures.power;
            opened =
                opens-same hash (expansion + c.args.levels) c.args.commitment.root places
                (row_at (height * c.NUM_BYTES.result) c.as_slice.result.now)
                (λ (i : ℕ). joined_bytes bytes repr (row_at (2 ^ length c.args.claim.now.point.now) columns i)) c.args.opening.now.nodes.now row
                (subst
                (λ (d : ℕ). OpensRows hash d c.args.commitment.root places (row_at (height * c.NUM_BYTES.result) c.as_slice.result.now)
                c.args.opening.now.nodes.now) (sym whole)
                (c.in_ok-opened.ensures.0 c.if-not-opened.false));
            agrees = decided.1 (tested.0 accepted);
          },
      λ opens. tested.1 (decided.0 opens.agrees),
    )
