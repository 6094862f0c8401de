use Rattle.std.proofs.Common.{◌-◌, ℕ, List, map, slice_index, sym, subst, ◌∙◌, ap, arith}
use Rattle.error_codes.specs.Correcting.{HasRoots}
use Rattle.error_codes.specs.Nibbles.{AreNibbles, nibble_root, nibble_times, raised}
use Rattle.error_codes.proofs.NibbleCalls.{encoded-elements, encoded-kept, encoded-roots}
use Rattle.error_codes.proofs.nibble_code.NibbleCode.encode.Goals as goal

pub returns-clause-elements : goal.returns-clause-elements
returns-clause-elements c =
    let nibbles = c.args.self.now in
    let code = nibbles.code in
    subst (AreNibbles code.word_length) (sym c.copy_from_slice-2.ensures.after)
    (encoded-elements code.field code.root nibbles.root_step nibbles.of_bytes nibbles.root_is code.first_root code.word_length
    (code.word_length - code.dimension) code.dimension c.args.word.now c.raise.new.word c.encode.new.word c.lower.new.word
    (omega (arith, code.some_checks)) c.requires.whole
    (c.raise.ensures ∙ ap (λ (w : List ℕ). map raised w) c.copy_from_slice.ensures.after) c.requires.elements
    c.encode.ensures.long c.encode.ensures.kept c.bytes_fit.ensures c.encode.ensures.encoded code.scaled c.lower.ensures)

pub returns-clause-kept : goal.returns-clause-kept
returns-clause-kept c = λ i below.
    let nibbles = c.args.self.now in
    let code = nibbles.code in
    ap (λ (w : List ℕ). slice_index w i) c.copy_from_slice-2.ensures.after
    ∙ encoded-kept code.field code.root nibbles.root_step nibbles.of_bytes nibbles.root_is code.first_root code.word_length
    (code.word_length - code.dimension) code.dimension c.args.word.now c.raise.new.word c.encode.new.word c.lower.new.word
    (omega (arith, code.some_checks)) c.requires.whole
    (c.raise.ensures ∙ ap (λ (w : List ℕ). map raised w) c.copy_from_slice.ensures.after) c.requires.elements
    c.encode.ensures.long c.encode.ensures.kept c.bytes_fit.ensures c.encode.ensures.encoded code.scaled c.lower.ensures i below

pub returns-clause-encoded : goal.returns-clause-encoded
returns-clause-encoded c =
    let nibbles = c.args.self.now in
    let code = nibbles.code in
    subst (λ (w : List ℕ). HasRoots nibble_times (nibble_root nibbles.root_step) code.first_root (code.word_length - code.dimension) w)
    (sym c.copy_from_slice-2.ensures.after)
    (encoded-roots code.field code.root nibbles.root_step nibbles.of_bytes nibbles.root_is code.first_root code.word_length
    (code.word_length - code.dimension) code.dimension c.args.word.now c.raise.new.word c.encode.new.word c.lower.new.word
    (omega (arith, code.some_checks)) c.requires.whole
    (c.raise.ensures ∙ ap (λ (w : List ℕ). map raised w) c.copy_from_slice.ensures.after) c.requires.elements
    c.encode.ensures.long c.encode.ensures.kept c.bytes_fit.ensures c.encode.ensures.encoded code.scaled c.lower.ensures)
