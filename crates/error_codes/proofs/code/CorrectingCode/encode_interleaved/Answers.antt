use Rattle.std.proofs.Common.{◌≡◌, ◌-◌, ◌<◌, ℕ, slice_index, arith}
use Rattle.reed_solomon.specs.ByteFields.{byte_times}
use Rattle.error_codes.specs.Correcting.{HasRoots}
use Rattle.error_codes.proofs.WordColumns.{columns-more}
use Rattle.error_codes.proofs.code.CorrectingCode.encode_interleaved.Goals as goal

pub loop-c-preserved : goal.loop-c-preserved
loop-c-preserved c =
    let code = c.args.self.now in
    columns-more code.word_length c.args.depth
    (λ _ old new. ((i : ℕ) → i < code.dimension → slice_index new i ≡ slice_index old i)
    × HasRoots (byte_times code.field) code.root code.first_root (code.word_length - code.dimension) new)
    c.args.words.now c.loop-c.words c.encode_word.new.words c.loop-c.c c.loop-c-test.true c.encode_word.ensures.long
    (c.encode_word.ensures.kept, c.encode_word.ensures.encoded) c.encode_word.ensures.others c.loop-c.invariant

pub returns-after-loop-c-clause-encoded : goal.returns-after-loop-c-clause-encoded
returns-after-loop-c-clause-encoded c = record {
  kept = λ d i below front.
      let done = c.loop-c.invariant.done d (omega (arith, below, c.loop-c-test.false)) in done.0 i front;
  encoded = λ d below. let done = c.loop-c.invariant.done d (omega (arith, below, c.loop-c-test.false)) in done.1;
}
