use Rattle.std.proofs.Common.{ℕ, ◌-◌, refl}
use Rattle.reed_solomon.specs.ByteFields.{byte_times}
use Rattle.c_calls.specs.BinaryCodes.{EncodesDataBits, HasData}
use Rattle.c_calls.proofs.BinaryCalls.{data-counted, over-binary, over-no-binary}
use Rattle.c_calls.proofs.binary_codes.encode.Goals as goal

pub returns-in-None : goal.returns-in-None
returns-in-None c = over-no-binary c.args.modulus c.args.word_length c.args.errors c.args.root_step c.in-None.ensures.none

pub returns-in-Some : goal.returns-in-Some
returns-in-Some c =
    let code = c.in-Some.code in
    let n = code.code.word_length in
    over-binary c.args.modulus c.args.word_length c.args.errors c.args.root_step code.code.field code.code.root n (n - code.code.dimension)
    (λ (times : ℕ → ℕ → ℕ) (root n checks : ℕ). (k : ℕ) × HasData times root n checks k
    × EncodesDataBits times root n checks k c.args.words.now c.encode_words.new.words c.encode_words.result)
    c.in-Some.ensures.made (
      n - code.checks,
      data-counted (byte_times code.code.field) code.code.root n (n - code.code.dimension) code.checks (n - code.checks) code.some_data refl code.counted,
      c.encode_words.ensures,
    )
    c.encode_words.ensures.kept
