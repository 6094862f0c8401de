use Rattle.std.proofs.Common.{ℕ, ◌*◌, ◌^◌, length, map, sym, ◌∙◌, ap, arith}
use Rattle.std.proofs.lemmas.List.{length-map}
use Rattle.additive_transforms.specs.Elements.{twiddle_basis}
use Rattle.additive_transforms.proofs.ColumnStages.{block_below, column-stage, few_rows, half_above}
use Rattle.additive_transforms.proofs.ElementStages.{shift_at}
use Rattle.additive_transforms.proofs.elements.columns.run_column_stage.Goals as goal

pub overflow_mul-half : goal.overflow_mul-half
overflow_mul-half g c =
    let small = block_below c.args.stages c.args.columns _ c.requires.rows c.args.stage _ c.requires.stage
    (ap (λ (h : ℕ). h * c.args.columns) c.half_of.ensures.half) (2 ^ 64) c.requires.size in
    omega (arith, small)

pub run_blocks-requires-clause-half : goal.run_blocks-requires-clause-half
run_blocks-requires-clause-half g c =
    half_above c.args.stages c.args.columns _ c.requires.rows c.args.stage _ c.requires.stage
    (ap (λ (h : ℕ). h * c.args.columns) c.half_of.ensures.half)

pub run_blocks-requires-clause-size : goal.run_blocks-requires-clause-size
run_blocks-requires-clause-size g c =
    block_below c.args.stages c.args.columns _ c.requires.rows c.args.stage _ c.requires.stage
    (ap (λ (h : ℕ). h * c.args.columns) c.half_of.ensures.half) (2 ^ 64) c.requires.size

pub run_blocks-requires-clause-few : goal.run_blocks-requires-clause-few
run_blocks-requires-clause-few g c =
    few_rows c.args.stages c.args.columns _ c.requires.rows c.args.stage _ c.requires.stage
    (ap (λ (h : ℕ). h * c.args.columns) c.half_of.ensures.half) g.K.StageArithmetic.width c.requires.few

pub run_blocks-requires-clause-room : goal.run_blocks-requires-clause-room
run_blocks-requires-clause-room g c = g.met.K.Uncounted.room_law _ _

pub returns-clause-stage : goal.returns-clause-stage
returns-clause-stage g c =
    let by = g.K.StageArithmetic in
    column-stage c.args.inverse by.product _ _ (twiddle_basis by.width by.vector) c.args.stages c.args.stage
    (c.half_of.result * c.args.columns) c.args.columns (length c.args.values.now) (map by.value c.args.values.now)
    (map by.value c.run_blocks.new.values) c.requires.rows (length-map c.args.values.now by.value)
    (length-map c.run_blocks.new.values by.value ∙ c.run_blocks.ensures.length) c.requires.stage
    (ap (λ (h : ℕ). h * c.args.columns) c.half_of.ensures.half)
    (c.shift.ensures ∙ sym (shift_at by.width by.product (by.number c.args.z) c.args.stage (omega (arith, c.requires.stage, c.requires.few))))
    c.run_blocks.ensures.blocks
