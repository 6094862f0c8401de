use Rattle.std.proofs.Common.{◌*◌, ◌%◌, ◌∙◌, refl, arith}
use Rattle.std.specs.Prelude.{slice_index}
use Rattle.std.proofs.lemmas.List.{get_or-set_other}
use Rattle.field_base.specs.lemmas.BitRing.{bits_ring}
use Rattle.field_base.specs.Tower.{tower_mul}
use Rattle.field_slices.proofs.Elimination.{echelon_noted, echelon_skip}
use Rattle.field_slices.proofs.RowSpaces.{space_same}
use Rattle.bits_packed.specs.BitMatrices.{bit_entry, present_bit}
use Rattle.bits_packed.proofs.PendingSums.{places-on, present-stored}
use Rattle.bits_packed.proofs.reduction.reduce_column.Goals as goal

pub returns-in-None-clause-places : goal.returns-in-None-clause-places
returns-in-None-clause-places c = places-on c.args.shape.rows c.args.rank (c.args.column % 64) (slice_index c.args.places.now) c.requires.places

pub returns-in-None-clause-reduced : goal.returns-in-None-clause-reduced
returns-in-None-clause-reduced c =
    echelon_skip c.args.shape.rows c.args.column c.args.rank (slice_index c.args.pivots.now)
    (present_bit c.args.shape.rows c.args.shape.words c.args.column c.args.places.now c.args.matrix.now)
    (λ i past inside. present-stored c.args.shape.rows c.args.column (slice_index c.args.places.now)
    (bit_entry c.args.shape.words c.args.matrix.now) (c.requires.places.free (c.args.column % 64) (omega arith) (omega arith)) i
    ∙ c.in-None.ensures.none refl i past inside)
    c.requires.reduced

pub returns-in-None-clause-space : goal.returns-in-None-clause-space
returns-in-None-clause-space c =
    space_same 1 (tower_mul 0) bits_ring c.args.shape.rows (64 * c.args.shape.words)
    (present_bit c.args.shape.rows c.args.shape.words c.args.column c.args.places.now c.args.matrix.now)

pub make_pivot-requires-clause-rank : goal.make_pivot-requires-clause-rank
make_pivot-requires-clause-rank c =
    let found = c.in-Some.ensures.inside in
    record { shape = c.requires.shape; row_within = omega (arith, found.0, found.1); column_within = c.requires.column }

pub returns-in-Some-clause-reduced : goal.returns-in-Some-clause-reduced
returns-in-Some-clause-reduced c =
    let now = present_bit c.args.shape.rows c.args.shape.words c.args.column in
    let made = c.make_pivot.ensures in
    echelon_noted c.args.shape.rows (64 * c.args.shape.words) c.args.column c.args.rank c.in-Some.row c.args.pivots.now
    (now c.args.places.now c.args.matrix.now) (now c.make_pivot.new.places c.make_pivot.new.matrix) c.in-Some.ensures.inside c.requires.room
    c.requires.column made.leading made.alone made.stays c.requires.reduced

pub returns-in-Some-clause-rest : goal.returns-in-Some-clause-rest
returns-in-Some-clause-rest c = λ i past.
    get_or-set_other c.args.pivots.now c.args.rank i c.args.column 0 (λ e. absurd (omega (arith, e, past)))
