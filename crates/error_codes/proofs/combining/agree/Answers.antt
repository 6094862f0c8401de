use Rattle.std.proofs.Common.{◌≡◌, ◌+◌, ◌*◌, ◌<◌, ◌≤◌, ◌∙◌, ℕ, eq-eqb, slice_index, sym, arith}
use Rattle.std.proofs.lemmas.Bool.{eqb-true}
use Rattle.field_base.specs.Interpolation.{interpolated}
use Rattle.reed_solomon.specs.ByteFields.{byte_times}
use Rattle.error_codes.specs.Wrong.{listed_share}
use Rattle.error_codes.proofs.Interpolating.{is_through, through_all}
use Rattle.error_codes.proofs.Loops.{gathered}
use Rattle.error_codes.proofs.combining.agree.Goals as goal

pub loop-other-preserved : goal.loop-other-preserved
loop-other-preserved c =
    let point = slice_index c.args.unmarked.now.indexes in
    let value = listed_share c.args.size c.args.shares.now c.args.unmarked.now.places in
    gathered
    (λ other. c.args.needed ≤ other → (j : ℕ) → j < c.args.size
    → interpolated 8 (byte_times c.args.field) point (value j) c.args.needed (point other) ≡ value j other)
    c.loop-other.other c.loop-other.difference c.difference_of_share-difference.result c.loop-other.invariant
    (λ nothing later. c.difference_of_share-difference.ensures.0 nothing, λ all. c.difference_of_share-difference.ensures.1 (all (omega arith)))

pub returns : goal.returns
returns c =
    let point = slice_index c.args.unmarked.now.indexes in
    let value = listed_share c.args.size c.args.shares.now c.args.unmarked.now.places in
    let fits = λ (j i : ℕ). (c.type_inv.shares (slice_index c.args.unmarked.now.places i * c.args.size + j)).fits in (
      λ same j inside.
          through_all c.args.field c.args.needed c.args.unmarked.now.count point (value j) c.requires.enough
          c.requires.distinct (fits j)
          (λ i within later. c.loop-other.invariant.0 (eqb-true c.loop-other.difference 0 same) i (omega arith) later j inside),
      λ lie.
          eq-eqb c.loop-other.difference 0
          (c.loop-other.invariant.1
          (λ i below later j inside.
          let found = lie j inside in
          sym
          (is_through c.args.field c.args.needed c.args.unmarked.now.count point (value j) c.requires.enough
          c.requires.distinct (fits j) found.0 found.1 (point i))
          ∙ found.1.at_points i (omega arith))),
    )
