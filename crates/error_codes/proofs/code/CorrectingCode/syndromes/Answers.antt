use Rattle.std.proofs.Common.{◌≡◌, ◌-◌, ◌<◌, ◌^◌, ℕ, List, length, replicate, slice_index, sym, ◌∙◌, ap, ap₂, subst, arith, lit<}
use Rattle.std.proofs.lemmas.List.{get_or-take, length-take-le}
use Rattle.reed_solomon.proofs.ByteFields.{bytes_are_fields}
use Rattle.reed_solomon.specs.ByteFields.{byte_times}
use Rattle.error_codes.specs.Correcting.{code_value}
use Rattle.error_codes.proofs.ByteWords.{behind-left, front-written}
use Rattle.error_codes.proofs.CodeValues.{value-lt}
use Rattle.error_codes.proofs.code.CorrectingCode.syndromes.Goals as goal

pub narrow-requires-clause-bytes : goal.narrow-requires-clause-bytes
narrow-requires-clause-bytes c = λ m below.
    let code = c.args.self.now in
    subst (λ (v : ℕ). v < 2 ^ 8) (sym (c.evaluate.ensures.values m (omega (arith, below, c.evaluate.ensures.long))))
    (value-lt 8 (byte_times code.field) (lit< tt) (bytes_are_fields code.field) (length c.widen.new.words) (slice_index c.widen.new.words)
    (slice_index c.widen-2.new.words m))

pub returns-clause-values : goal.returns-clause-values
returns-clause-values c = λ m below.
    let code = c.args.self.now in
    let times = byte_times code.field in
    let checks = code.word_length - code.dimension in
    let value = λ (w : List ℕ) (x : ℕ). code_value times (length w) (slice_index w) x in
    let size = length-take-le checks code.roots (omega (arith, code.short)) in
    let long : length c.evaluate.new.points ≡ checks =
    c.evaluate.ensures.long ∙ ap (λ (l : List ℕ). length l) c.widen-2.ensures ∙ size in
    front-written checks (replicate 256 0) c.narrow.new.bytes m 0 (ap (λ (l : List ℕ). length l) c.narrow.ensures ∙ long) below
    ∙ ap (λ (l : List ℕ). slice_index l m) c.narrow.ensures
    ∙ c.evaluate.ensures.values m (omega (arith, below, long, c.evaluate.ensures.long))
    ∙ ap₂ value c.widen.ensures
    (ap (λ (l : List ℕ). slice_index l m) c.widen-2.ensures ∙ get_or-take checks code.roots m 0 below ∙ code.roots_are m below)

pub returns-clause-zeros : goal.returns-clause-zeros
returns-clause-zeros c = λ m above.
    let code = c.args.self.now in
    let checks = code.word_length - code.dimension in
    let long : length c.narrow.new.bytes ≡ checks =
    ap (λ (l : List ℕ). length l) c.narrow.ensures ∙ c.evaluate.ensures.long ∙ ap (λ (l : List ℕ). length l) c.widen-2.ensures
    ∙ length-take-le checks code.roots (omega (arith, code.short)) in
    behind-left 256 checks c.narrow.new.bytes m 0 long above
