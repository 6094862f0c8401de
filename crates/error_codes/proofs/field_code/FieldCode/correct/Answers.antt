use Rattle.std.proofs.Common.{◌≡◌, ◌-◌, ◌/◌, ◌<◌, ℕ, slice_index, refl, sym, ◌∙◌, ap, subst, arith}
use Rattle.field_slices.specs.Marks.{marked_below}
use Rattle.error_codes.specs.Correcting.{IsMeantIn}
use Rattle.error_codes.specs.Filling.{is_marked}
use Rattle.error_codes.proofs.FieldMeanings.{meant-accepts, accepts-meant}
use Rattle.error_codes.proofs.Meanings.{meant-few, meant-sent, on-ok, on-ok-then}
use Rattle.error_codes.proofs.field_code.FieldCode.correct.Goals as goal

pub decode-requires-clause-few : goal.decode-requires-clause-few
decode-requires-clause-few g c = omega (arith, c.count_marks-count.ensures, c.if-count-checks.false)

pub returns-then-count-checks-clause-found : goal.returns-then-count-checks-clause-found
returns-then-count-checks-clause-found g c = λ sent meant.
    let code = c.args.self.now in
    let width = g.F.SymbolField.width code.field in
    let times = g.F.SymbolField.product code.field in
    let wide = g.met.F.SymbolField.wide_law code.field in
    let field = g.met.F.SymbolField.field_law code.field in
    let n = code.word_length in
    let checks = n - code.dimension in
    let erased = is_marked c.mark_listed.new.marks in
    let few = meant-few width times wide field code.root code.first_root n checks
    c.args.word.now c.args.erasures.now erased
    (λ i below. c.mark_listed.ensures.listed i (omega (arith, below, c.requires.erased)))
    ((checks - marked_below erased n) / 2) refl sent meant in
    absurd (omega (arith, few, c.count_marks-count.ensures, c.if-count-checks.true))

pub returns-then-not-decode-clause-found : goal.returns-then-not-decode-clause-found
returns-then-not-decode-clause-found g c = λ sent meant.
    let code = c.args.self.now in
    let width = g.F.SymbolField.width code.field in
    let times = g.F.SymbolField.product code.field in
    let wide = g.met.F.SymbolField.wide_law code.field in
    let field = g.met.F.SymbolField.field_law code.field in
    let n = code.word_length in
    let checks = n - code.dimension in
    let yes = (c.decode.ensures.found (slice_index sent)
    (meant-sent width times wide field code.root code.first_root n checks c.args.word.now c.args.erasures.now
    (is_marked c.mark_listed.new.marks) (λ i below. c.mark_listed.ensures.listed i (omega (arith, below, c.requires.erased)))
    _ (ap (λ (k : ℕ). (checks - k) / 2) c.count_marks-count.ensures) sent meant)).0 in
    let no = c.if-not-decode.true in
    absurd (cc)

pub returns-clause-found : goal.returns-clause-found
returns-clause-found g c = λ sent meant.
    let code = c.args.self.now in
    let width = g.F.SymbolField.width code.field in
    let times = g.F.SymbolField.product code.field in
    let wide = g.met.F.SymbolField.wide_law code.field in
    let field = g.met.F.SymbolField.field_law code.field in
    let n = code.word_length in
    let checks = n - code.dimension in
    let erased = is_marked c.mark_listed.new.marks in
    let most = (checks - c.count_marks-count.result) / 2 in
    let erased_are = λ (i : ℕ) (below : i < n). c.mark_listed.ensures.listed i (omega (arith, below, c.requires.erased)) in
    let most_is = ap (λ (k : ℕ). (checks - k) / 2) c.count_marks-count.ensures in
    let fixed = c.decode.new.symbols in
    let whole = c.decode.ensures.room ∙ (let front = c.split_at_mut-symbols.ensures.front_len in omega (arith, front)) in
    let same = (c.decode.ensures.found (slice_index sent)
    (meant-sent width times wide field code.root code.first_root n checks c.args.word.now c.args.erasures.now erased erased_are most
    most_is sent meant)).1 in
    let accepts = meant-accepts width times wide field code.root code.first_root n checks c.args.word.now c.args.erasures.now erased
    erased_are most most_is fixed whole sent meant same in
    let ok = c.check_decoded.ensures.accepted.1 accepts.0 in (
      ok,
      on-ok (c.check_decoded.new.word ≡ fixed) c.check_decoded.result ok c.check_decoded.ensures.taken ∙ accepts.1,
    )

pub returns-clause-right : goal.returns-clause-right
returns-clause-right g c =
    let code = c.args.self.now in
    let width = g.F.SymbolField.width code.field in
    let times = g.F.SymbolField.product code.field in
    let wide = g.met.F.SymbolField.wide_law code.field in
    let field = g.met.F.SymbolField.field_law code.field in
    let n = code.word_length in
    let checks = n - code.dimension in
    let erased = is_marked c.mark_listed.new.marks in
    let most = (checks - c.count_marks-count.result) / 2 in
    let erased_are = λ (i : ℕ) (below : i < n). c.mark_listed.ensures.listed i (omega (arith, below, c.requires.erased)) in
    let most_is = ap (λ (k : ℕ). (checks - k) / 2) c.count_marks-count.ensures in
    let fixed = c.decode.new.symbols in
    let whole = c.decode.ensures.room ∙ (let front = c.split_at_mut-symbols.ensures.front_len in omega (arith, front)) in
    on-ok-then (c.check_decoded.new.word ≡ fixed)
    (IsMeantIn width times code.root code.first_root n checks c.args.word.now c.args.erasures.now c.check_decoded.new.word)
    c.check_decoded.result
    (λ ok is.
    let holds = c.check_decoded.ensures.accepted.0 ok in
    subst (IsMeantIn width times code.root code.first_root n checks c.args.word.now c.args.erasures.now) (sym is)
    (accepts-meant width times wide field code.root code.first_root n checks c.args.word.now c.args.erasures.now erased erased_are
    most most_is fixed whole holds.0 (omega (arith, c.count_marks-count.ensures, c.if-count-checks.false)) holds.1 holds.2))
    c.check_decoded.ensures.taken
