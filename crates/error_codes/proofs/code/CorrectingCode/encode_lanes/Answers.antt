use Rattle.std.proofs.Common.{◌-◌, List, ℕ, refl, sym, ◌∙◌, arith}
use Rattle.reed_solomon.specs.ByteFields.{byte_times}
use Rattle.error_codes.specs.Correcting.{HasRoots}
use Rattle.error_codes.proofs.LaneRegisters.{words-joined}
use Rattle.error_codes.proofs.WordColumns.{word-at}
use Rattle.error_codes.proofs.code.CorrectingCode.encode_lanes.Goals as goal

pub loop-first-init : goal.loop-first-init
loop-first-init c = (omega arith, refl, λ d i inside below. refl, λ d below. absurd (omega (arith, below)))

pub loop-first-preserved : goal.loop-first-preserved
loop-first-preserved c =
    let code = c.args.self.now in
    let words = c.encode_columns.new.words in (
      c.width_from-width.ensures.inside,
      c.encode_columns.ensures.long ∙ c.loop-first.invariant.1,
      λ d i inside below. c.encode_columns.ensures.kept d i inside below ∙ c.loop-first.invariant.2 d i inside below,
      words-joined (λ (w : List ℕ). HasRoots (byte_times code.field) code.root code.first_root (code.word_length - code.dimension) w)
          code.word_length c.args.depth c.loop-first.first c.width_from-width.result c.loop-first.words words c.width_from-width.ensures.inside
          c.encode_columns.ensures.others c.encode_columns.ensures.encoded c.loop-first.invariant.3,
    )

pub returns-clause-encoded : goal.returns-clause-encoded
returns-clause-encoded c =
    let code = c.args.self.now in
    let n = code.word_length in
    let checks = code.some_checks in record {
      kept = λ d i inside below.
          word-at n c.args.depth c.loop-first.words d i (omega (arith, below, checks)) ∙ c.loop-first.invariant.2 d i inside below
          ∙ sym (word-at n c.args.depth c.args.words.now d i (omega (arith, below, checks)));
      encoded = λ d inside. c.loop-first.invariant.3 d (omega (arith, inside, c.loop-first-test.false));
    }
