use Rattle.std.proofs.Common.{◌-◌, List, map, ◌∙◌, ap}
use Rattle.error_codes.specs.Nibbles.{raised}
use Rattle.error_codes.proofs.NibbleCalls.{word-told}
use Rattle.error_codes.proofs.nibble_code.NibbleCode.is_code_word.Goals as goal

pub returns : goal.returns
returns c =
    let nibbles = c.args.self.now in
    let code = nibbles.code in
    word-told code.field code.root nibbles.root_step nibbles.of_bytes nibbles.root_is c.is_code_word.result code.first_root
    code.word_length (code.word_length - code.dimension) c.args.word.now c.raise.new.word c.if-word-self.false
    (c.raise.ensures ∙ ap (λ (w : List _). map raised w) c.copy_from_slice.ensures.after)
    (c.are_symbols.ensures.0 c.if-not-are_symbols.false) c.is_code_word.ensures
