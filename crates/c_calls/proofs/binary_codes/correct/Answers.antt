use Rattle.std.proofs.Common.{ℕ, ◌-◌}
use Rattle.c_calls.specs.BinaryCodes.{CorrectsWordsOfBits}
use Rattle.c_calls.proofs.BinaryCalls.{over-binary, over-no-binary}
use Rattle.c_calls.proofs.binary_codes.correct.Goals as goal

pub returns-in-None : goal.returns-in-None
returns-in-None c = over-no-binary c.args.modulus c.args.word_length c.args.errors c.args.root_step c.in-None.ensures.none

pub returns-in-Some : goal.returns-in-Some
returns-in-Some c =
    let code = c.in-Some.code in
    let n = code.code.word_length in
    over-binary c.args.modulus c.args.word_length c.args.errors c.args.root_step code.code.field code.code.root n (n - code.code.dimension)
    (λ (times : ℕ → ℕ → ℕ) (root n checks : ℕ).
    CorrectsWordsOfBits times root n checks c.args.erasures.now c.args.words.now c.args.corrected.now c.correct_words.new.words
    c.correct_words.new.corrected c.correct_words.result)
    c.in-Some.ensures.made
    c.correct_words.ensures
    c.correct_words.ensures.kept
