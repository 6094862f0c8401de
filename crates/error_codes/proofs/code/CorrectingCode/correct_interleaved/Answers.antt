use Rattle.std.proofs.Common.{◌≡◌, ◌-◌, ◌+◌, ◌<◌, ℕ, Bool, true, false, List, length, set, slice_index, sym, subst, ◌∙◌, ap, arith, below_more}
use Rattle.std.specs.Prelude.{nat_eq}
use Rattle.std.proofs.lemmas.List.{get_or-set_other, get_or-set_same, length-set}
use Rattle.field_base.specs.Powers.{power}
use Rattle.reed_solomon.specs.ByteFields.{byte_times}
use Rattle.error_codes.specs.Correcting.{code_value, is_listed}
use Rattle.error_codes.specs.Filling.{is_marked}
use Rattle.error_codes.specs.Interleaved.{IsSettled, interleaved_word}
use Rattle.error_codes.proofs.CleanWords.{flag-small, flag-told}
use Rattle.error_codes.proofs.Meanings.{marks-same}
use Rattle.error_codes.proofs.WordColumns.{columns-as, columns-more, word-length}
use Rattle.error_codes.proofs.code.CorrectingCode.correct_interleaved.Goals.{then-few, else-few}
use Rattle.error_codes.proofs.code.CorrectingCode.correct_interleaved.Goals as goal

pub settle_word-requires-clause-roots : goal.settle_word-requires-clause-roots
settle_word-requires-clause-roots c = λ said m below.
    let code = c.args.self.now in
    let n = code.word_length in
    let checks = n - code.dimension in
    let value = λ (k : ℕ) (word : List ℕ).
    code_value (byte_times code.field) k (slice_index word) (power 1 (byte_times code.field) code.root (code.first_root + m)) in
    let own = c.loop-c.c in
    let received = interleaved_word n c.args.depth c.args.words.now own in
    elim c.if-few.branch [
      | then-few w ↦
          ap (λ (word : List ℕ). value (length word) word) (c.loop-c.invariant.1.rest own c.loop-c-test.true (omega arith))
          ∙ ap (λ (k : ℕ). value k received) (word-length n c.args.depth c.args.words.now own)
          ∙ sym (c.syndromes_interleaved.ensures.values own m c.loop-c-test.true below)
          ∙ w.is_zero_word-is_clean.ensures.0 (sym w.is_clean-is ∙ said) m below
      | else-few w ↦ let none : false ≡ true = sym w.is_clean-is ∙ said in absurd (cc)
    ]

pub settle_word-requires-clause-few : goal.settle_word-requires-clause-few
settle_word-requires-clause-few c = λ said.
    let n = c.args.self.now.word_length in
    let marks = marks-same (is_marked c.listed_places.result) (is_listed c.args.erasures.now) n
    (λ i below. c.listed_places.ensures i (omega (arith, below, c.args.self.now.short))) in
    elim c.if-few.branch [
      | then-few w ↦ let few = w.if-few.true in omega (arith, few, marks, c.count_marks.ensures)
      | else-few w ↦ let none : false ≡ true = sym w.is_clean-is ∙ said in absurd (cc)
    ]

pub loop-c-preserved : goal.loop-c-preserved
loop-c-preserved c =
    let code = c.args.self.now in
    let settles = λ (corrected : List ℕ) (d : ℕ) (old new : List ℕ).
    IsSettled (byte_times code.field) code.root code.first_root code.word_length (code.word_length - code.dimension) old
    c.args.erasures.now (nat_eq (slice_index corrected d) 1) new in
    let own = c.loop-c.c in
    let now = set c.loop-c.corrected own c.from.result in
    let here : slice_index now own ≡ c.from.result =
    get_or-set_same c.loop-c.corrected own c.from.result 0 (omega (arith, c.loop-c-test.true, c.loop-c.invariant.0)) in
    let there = λ (d : ℕ) (below : d < own).
    get_or-set_other c.loop-c.corrected own d c.from.result 0 (λ e. absurd (omega (arith, e, below))) in (
      length-set c.loop-c.corrected own c.from.result ∙ c.loop-c.invariant.0,
      columns-more code.word_length c.args.depth (settles now) c.args.words.now c.loop-c.words c.settle_word.new.words own
          c.loop-c-test.true c.settle_word.ensures.long
          (subst (λ (said : Bool). IsSettled (byte_times code.field) code.root code.first_root code.word_length
          (code.word_length - code.dimension) (interleaved_word code.word_length c.args.depth c.loop-c.words own)
          c.args.erasures.now said (interleaved_word code.word_length c.args.depth c.settle_word.new.words own))
          (sym (ap (λ (v : ℕ). nat_eq v 1) here ∙ flag-told c.settle_word.result c.from.result c.from.ensures))
          c.settle_word.ensures.settled)
          c.settle_word.ensures.others
          (columns-as code.word_length c.args.depth own (settles c.loop-c.corrected) (settles now) c.args.words.now c.loop-c.words
          (λ d a b below given.
          subst (λ (said : ℕ). IsSettled (byte_times code.field) code.root code.first_root code.word_length
          (code.word_length - code.dimension) a c.args.erasures.now (nat_eq said 1) b) (sym (there d below)) given)
          c.loop-c.invariant.1),
      below_more (λ d. slice_index now d < 2) own
          (λ d below. subst (λ (v : ℕ). v < 2) (sym (there d below)) (c.loop-c.invariant.2 d below))
          (subst (λ (v : ℕ). v < 2) (sym here) (flag-small c.settle_word.result c.from.result c.from.ensures)),
    )
