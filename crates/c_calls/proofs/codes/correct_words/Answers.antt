use Rattle.std.proofs.Common.{◌+◌, ◌-◌, ◌*◌, ◌/◌, ◌<◌, ℕ, List, length, set, sym, subst, ◌∙◌, arith}
use Rattle.std.specs.Prelude.{slice_index}
use Rattle.std.proofs.lemmas.List.{get_or-set_other, get_or-set_same, length-set}
use borrow.Rule.Slice.PartMut.{mid_of}
use Rattle.reed_solomon.specs.ByteFields.{byte_times}
use Rattle.c_calls.specs.Codes.{IsCorrectedWord, nth_word}
use Rattle.c_calls.proofs.FlaggedPlaces.{flags_word}
use Rattle.c_calls.proofs.ManyWords.{word_inside, words-lent, words-mapped}
use Rattle.c_calls.proofs.codes.correct_words.Goals as goal

pub loop-i-preserved : goal.loop-i-preserved
loop-i-preserved c =
    let code = c.args.code.now in
    let n = code.word_length in
    let i = c.loop-i.i in
    let size = c.word_length-size.result in
    let same = c.word_length-size.ensures in
    let flags = c.args.erasures.now in
    let words = c.args.words.now in
    let counts = c.loop-i.corrected in
    let count = c.correct_word.result in
    let mid = mid_of (i * size) (i * size + size - i * size) c.loop-i.words in
    let part = c.correct_word.new.word in
    let corrected = λ (own : List ℕ) (old new : List ℕ) (k : ℕ).
    IsCorrectedWord (byte_times code.field) code.root code.first_root n (n - code.dimension) own old new k in
    let holds = λ (all : List ℕ) (j : ℕ) (old new : List ℕ). corrected (nth_word n j flags) old new (slice_index all j) in
    let below : i < length words / n = omega arith in
    let room : i < length counts = omega arith in
    let own = flags_word n size i c.min-from.result c.min-to.result flags same c.min-from.ensures c.min-to.ensures in (
      length-set counts i count ∙ c.loop-i.invariant.0,
      words-lent n (holds (set counts i count)) words c.loop-i.words part i size same (word_inside n (length words) i below)
          c.correct_word.ensures.long
          (subst (λ (k : ℕ). corrected (nth_word n i flags) mid part k) (sym (get_or-set_same counts i count 0 room))
          (subst (λ (f : List ℕ). corrected f mid part count) own c.correct_word.ensures.corrected))
          (words-mapped n (holds counts) (holds (set counts i count)) words c.loop-i.words i
          (λ j before was.
          subst (λ (k : ℕ). corrected (nth_word n j flags) (nth_word n j words) (nth_word n j c.loop-i.words) k)
          (sym (get_or-set_other counts i j count 0 (λ e. absurd (omega (arith, e, before))))) was)
          c.loop-i.invariant.1),
    )
