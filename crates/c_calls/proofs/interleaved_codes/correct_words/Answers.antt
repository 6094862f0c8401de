use Rattle.std.proofs.Common.{◌-◌, take, ◌∙◌}
use Rattle.reed_solomon.specs.ByteFields.{byte_times}
use Rattle.c_calls.proofs.InterleavedWords.{words-settled}
use Rattle.c_calls.proofs.interleaved_codes.correct_words.Goals as goal

pub returns-clause-settled : goal.returns-clause-settled
returns-clause-settled c =
    let code = c.args.code.now in
    let n = code.word_length in
    words-settled (byte_times code.field) code.root code.first_root n (n - code.dimension) c.args.erasures.now
    (take c.list_places-count.result c.list_places-count.new.places) c.list_places-count.ensures.listed c.args.depth c.args.words.now
    c.correct_interleaved.new.words c.correct_interleaved.new.corrected c.correct_interleaved.ensures.long
    (c.correct_interleaved.ensures.flags ∙ c.requires.answers) c.correct_interleaved.ensures.bits c.correct_interleaved.ensures.settled
