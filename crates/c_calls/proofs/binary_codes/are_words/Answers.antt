use Rattle.std.proofs.Common.{ℕ, ◌-◌}
use Rattle.c_calls.specs.BinaryCodes.{TellsWordsOfBits}
use Rattle.c_calls.proofs.BinaryCalls.{over-binary, over-no-binary}
use Rattle.c_calls.proofs.binary_codes.are_words.Goals as goal

pub returns-in-None : goal.returns-in-None
returns-in-None c = over-no-binary c.args.modulus c.args.word_length c.args.errors c.args.root_step c.in-None.ensures.none

pub returns-in-Some : goal.returns-in-Some
returns-in-Some c =
    let code = c.in-Some.code in
    let n = code.code.word_length in
    over-binary c.args.modulus c.args.word_length c.args.errors c.args.root_step code.code.field code.code.root n (n - code.code.dimension)
    (λ (times : ℕ → ℕ → ℕ) (root n checks : ℕ).
    TellsWordsOfBits times root n checks c.args.words.now c.args.flags.now c.tell_words.new.flags c.tell_words.result)
    c.in-Some.ensures.made
    c.tell_words.ensures
    c.tell_words.ensures.kept
