use Rattle.std.proofs.Common.{◌≡◌, ◌-◌, ℕ, false, true, List, length, map, slice_index, refl, sym, subst, ◌∙◌, ap, arith}
use Rattle.std.specs.Prelude.{nat_eq, not}
use Rattle.error_codes.specs.Nibbles.{AreNibbles, IsMeantNibbles, nibble_root, raised}
use Rattle.error_codes.proofs.NibbleCalls.{changes-told, meant-bytes, sent-lowered, symbols-meant}
use Rattle.error_codes.proofs.nibble_code.NibbleCode.correct.Goals as goal

pub returns-in-Err-clause-found : goal.returns-in-Err-clause-found
returns-in-Err-clause-found c = λ sent meant.
    let nibbles = c.args.self.now in
    let code = nibbles.code in
    let own_is = c.raise.ensures ∙ ap (λ (w : List ℕ). map raised w) c.copy_from_slice.ensures.after in
    let ok = c.in-Err.ensures.found (map raised sent)
    (meant-bytes code.field code.root nibbles.root_step nibbles.of_bytes nibbles.root_is code.first_root code.word_length
    (code.word_length - code.dimension) c.args.word.now c.raise.new.word c.args.erasures.now c.requires own_is sent meant) in
    let none : false ≡ true = ok.0 in absurd (cc)

pub returns-then-not-are_symbols-clause-found : goal.returns-then-not-are_symbols-clause-found
returns-then-not-are_symbols-clause-found c = λ sent meant.
    let nibbles = c.args.self.now in
    let code = nibbles.code in
    let own_is = c.raise.ensures ∙ ap (λ (w : List ℕ). map raised w) c.copy_from_slice.ensures.after in
    let ok = c.in-Ok.ensures.found (map raised sent)
    (meant-bytes code.field code.root nibbles.root_step nibbles.of_bytes nibbles.root_is code.first_root code.word_length
    (code.word_length - code.dimension) c.args.word.now c.raise.new.word c.args.erasures.now c.requires own_is sent meant) in
    let is = sent-lowered code.field code.root nibbles.root_step nibbles.of_bytes nibbles.root_is code.first_root code.word_length
    (code.word_length - code.dimension) c.args.word.now c.raise.new.word c.args.erasures.now c.requires own_is sent
    c.correct.new.word c.lower.new.word meant ok.1 c.lower.ensures in
    let all : AreNibbles (length c.lower.new.word) c.lower.new.word =
    subst (λ (w : List ℕ). AreNibbles (length w) w) (sym is)
    (λ i below. let plain = meant.1 in let count = plain.count in meant.0 i (omega (arith, below, count))) in
    let none : false ≡ true = sym c.if-not-are_symbols.true ∙ c.are_symbols.ensures.1 all in absurd (cc)

pub returns-else-not-are_symbols-clause-found : goal.returns-else-not-are_symbols-clause-found
returns-else-not-are_symbols-clause-found c = λ sent meant.
    let nibbles = c.args.self.now in
    let code = nibbles.code in
    let own_is = c.raise.ensures ∙ ap (λ (w : List ℕ). map raised w) c.copy_from_slice.ensures.after in
    let ok = c.in-Ok.ensures.found (map raised sent)
    (meant-bytes code.field code.root nibbles.root_step nibbles.of_bytes nibbles.root_is code.first_root code.word_length
    (code.word_length - code.dimension) c.args.word.now c.raise.new.word c.args.erasures.now c.requires own_is sent meant) in (
      refl,
      c.copy_from_slice-in-Ok.ensures.after
          ∙ sent-lowered code.field code.root nibbles.root_step nibbles.of_bytes nibbles.root_is code.first_root code.word_length
          (code.word_length - code.dimension) c.args.word.now c.raise.new.word c.args.erasures.now c.requires own_is sent
          c.correct.new.word c.lower.new.word meant ok.1 c.lower.ensures,
    )

pub returns-else-not-are_symbols-clause-right : goal.returns-else-not-are_symbols-clause-right
returns-else-not-are_symbols-clause-right c =
    let nibbles = c.args.self.now in
    let code = nibbles.code in
    let checks = code.word_length - code.dimension in
    let own_is = c.raise.ensures ∙ ap (λ (w : List ℕ). map raised w) c.copy_from_slice.ensures.after in
    subst (IsMeantNibbles (nibble_root nibbles.root_step) code.first_root code.word_length checks c.args.word.now c.args.erasures.now)
    (sym c.copy_from_slice-in-Ok.ensures.after)
    (symbols-meant code.field code.root nibbles.root_step nibbles.of_bytes nibbles.root_is code.first_root code.word_length checks
    c.args.word.now c.raise.new.word c.args.erasures.now c.requires own_is c.correct.new.word c.lower.new.word c.lower.ensures
    (c.are_symbols.ensures.0 c.if-not-are_symbols.false) c.in-Ok.ensures.right)

pub returns-else-not-are_symbols-clause-within : goal.returns-else-not-are_symbols-clause-within
returns-else-not-are_symbols-clause-within c = λ i below.
    let nibbles = c.args.self.now in
    let code = nibbles.code in
    let own_is = c.raise.ensures ∙ ap (λ (w : List ℕ). map raised w) c.copy_from_slice.ensures.after in
    c.in-Ok.ensures.within i below
    ∙ changes-told code.field code.root nibbles.root_step nibbles.of_bytes nibbles.root_is code.first_root code.word_length
    (code.word_length - code.dimension) c.args.word.now c.raise.new.word c.args.erasures.now c.requires own_is c.correct.new.word
    c.lower.new.word c.lower.ensures (c.are_symbols.ensures.0 c.if-not-are_symbols.false) c.in-Ok.ensures.right i below
    ∙ ap (λ (w : List ℕ). not (nat_eq (slice_index c.args.word.now i) (slice_index w i))) (sym c.copy_from_slice-in-Ok.ensures.after)
