use Rattle.std.proofs.Common.{◌<◌, ◌+◌, ◌-◌, ◌^◌, ℕ, Bool, List, slice_index, refl, sym, ◌∙◌, ap, ap₂, subst, arith}
use Rattle.std.specs.Prelude.{nat_eq, ◌||◌}
use Rattle.field_base.specs.Powers.{power}
use Rattle.error_codes.specs.Filling.{falling_point, falling_scale, is_marked, is_other, marked_product}
use Rattle.error_codes.proofs.Candidates.{all-marked, register-fits, suspected-fit, trusted-right}
use Rattle.error_codes.proofs.CodeValues.{falling-scaled, syndrome-read}
use Rattle.error_codes.proofs.FieldEncoding.{front-value}
use Rattle.error_codes.proofs.FieldRegisters.{sum-fits}
use Rattle.error_codes.proofs.field_code.FieldCode.decode.Goals as goal

pub modified_syndromes-left-requires-clause-few : goal.modified_syndromes-left-requires-clause-few
modified_syndromes-left-requires-clause-few g c =
    let same = all-marked c.args.erased.now c.args.self.now.word_length in omega (arith, same, c.requires.few)

pub fill_erasures-requires-clause-values : goal.fill_erasures-requires-clause-values
fill_erasures-requires-clause-values g c = λ m below.
    let code = c.args.self.now in
    syndrome-read (g.F.SymbolField.width code.field) (g.F.SymbolField.product code.field) (g.met.F.SymbolField.wide_law code.field)
    (g.met.F.SymbolField.field_law code.field) code.word_length code.root code.first_root m (slice_index c.args.syndromes.now m)
    c.args.word.now c.requires.long (c.requires.values m below)

pub write_register-size-requires-clause-elements : goal.write_register-size-requires-clause-elements
write_register-size-requires-clause-elements g c = λ m below.
    let code = c.args.self.now in
    let width = g.F.SymbolField.width code.field in
    let times = g.F.SymbolField.product code.field in
    let wide = g.met.F.SymbolField.wide_law code.field in
    let field = g.met.F.SymbolField.field_law code.field in
    let n = code.word_length in
    let point = falling_point times code.root n in
    let scale = falling_scale times code.root code.first_root n in
    let word = slice_index c.args.word.now in
    let product = marked_product times point (is_other c.args.erased.now n) n in
    subst (λ (v : ℕ). v < 2 ^ width)
    (sym (c.modified_syndromes-left.ensures.sums (λ i. times (scale i) (word i))
    (λ k inside.
    ap (λ (l : List ℕ). slice_index l k) c.copy_from_slice.ensures.after
    ∙ syndrome-read width times wide field n code.root code.first_root k (slice_index c.args.syndromes.now k)
    c.args.word.now c.requires.long (c.requires.values k inside)) m below))
    (sum-fits width (λ i. times (times (times (scale i) (word i)) (power 1 times (point i) m)) (product (point i)))
    (λ i. field.ring.below (times (times (scale i) (word i)) (power 1 times (point i) m)) (product (point i))) n)

pub returns-then-size-most-clause-found : goal.returns-then-size-most-clause-found
returns-then-size-most-clause-found g c = λ sent is_sent.
    let code = c.args.self.now in
    let width = g.F.SymbolField.width code.field in
    let times = g.F.SymbolField.product code.field in
    let wide = g.met.F.SymbolField.wide_law code.field in
    let field = g.met.F.SymbolField.field_law code.field in
    let n = code.word_length in
    let point = falling_point times code.root n in
    let scale = falling_scale times code.root code.first_root n in
    let word = slice_index c.args.word.now in
    let fits = register-fits width times wide field n (n - code.dimension) c.args.most point scale
    (falling-scaled width times wide field n code.root code.first_root code.scaled) word c.requires.elements
    c.args.erased.now c.requires.few (omega (arith, code.some_data, code.some_checks))
    (slice_index c.modified_syndromes-left.new.sums) c.modified_syndromes-left.result c.modified_syndromes-left.ensures.left
    (c.modified_syndromes-left.ensures.sums (λ i. times (scale i) (word i))
    (λ m below.
    ap (λ (l : List ℕ). slice_index l m) c.copy_from_slice.ensures.after
    ∙ syndrome-read width times wide field n code.root code.first_root m (slice_index c.args.syndromes.now m)
    c.args.word.now c.requires.long (c.requires.values m below)))
    c.write_register-size.result (slice_index c.write_register-size.new.coefficients)
    c.write_register-size.ensures.shortest sent is_sent in
    absurd (omega (arith, fits, c.if-size-most.true))

pub returns-then-count-checks-clause-found : goal.returns-then-count-checks-clause-found
returns-then-count-checks-clause-found g c = λ sent is_sent.
    let code = c.args.self.now in
    let width = g.F.SymbolField.width code.field in
    let times = g.F.SymbolField.product code.field in
    let wide = g.met.F.SymbolField.wide_law code.field in
    let field = g.met.F.SymbolField.field_law code.field in
    let n = code.word_length in
    let point = falling_point times code.root n in
    let scale = falling_scale times code.root code.first_root n in
    let word = slice_index c.args.word.now in
    let are = λ (i : ℕ) (below : i < n).
    c.locate_errors.ensures.marks i below
    ∙ ap₂ (λ (marks : List Bool) (v : ℕ). is_marked marks i || nat_eq v 0) c.copy_from_slice-2.ensures.after
    (front-value width times wide field c.write_register-size.new.coefficients (c.write_register-size.result + 1) (point i)
    (omega (arith, c.write_register-size.ensures.long, c.requires.scratch, c.if-size-most.false, c.requires.few))) in
    let few = suspected-fit width times wide field n (n - code.dimension) c.args.most point scale
    (falling-scaled width times wide field n code.root code.first_root code.scaled) word c.requires.elements
    c.args.erased.now c.requires.few (omega (arith, code.some_data, code.some_checks))
    (slice_index c.modified_syndromes-left.new.sums) c.modified_syndromes-left.result c.modified_syndromes-left.ensures.left
    (c.modified_syndromes-left.ensures.sums (λ i. times (scale i) (word i))
    (λ m below.
    ap (λ (l : List ℕ). slice_index l m) c.copy_from_slice.ensures.after
    ∙ syndrome-read width times wide field n code.root code.first_root m (slice_index c.args.syndromes.now m)
    c.args.word.now c.requires.long (c.requires.values m below)))
    c.write_register-size.result (slice_index c.write_register-size.new.coefficients)
    c.write_register-size.ensures.shortest sent is_sent
    c.locate_errors.new.marks are in
    absurd (omega (arith, few, c.count_marks-count.ensures, c.if-count-checks.true))

pub returns-clause-found : goal.returns-clause-found
returns-clause-found g c = λ sent is_sent.
    let code = c.args.self.now in
    let width = g.F.SymbolField.width code.field in
    let times = g.F.SymbolField.product code.field in
    let wide = g.met.F.SymbolField.wide_law code.field in
    let field = g.met.F.SymbolField.field_law code.field in
    let n = code.word_length in
    let point = falling_point times code.root n in
    let scale = falling_scale times code.root code.first_root n in
    let word = slice_index c.args.word.now in
    let are = λ (i : ℕ) (below : i < n).
    c.locate_errors.ensures.marks i below
    ∙ ap₂ (λ (marks : List Bool) (v : ℕ). is_marked marks i || nat_eq v 0) c.copy_from_slice-2.ensures.after
    (front-value width times wide field c.write_register-size.new.coefficients (c.write_register-size.result + 1) (point i)
    (omega (arith, c.write_register-size.ensures.long, c.requires.scratch, c.if-size-most.false, c.requires.few))) in (
      refl,
      c.fill_erasures.ensures.filled sent is_sent.checked
          (trusted-right width times wide field n (n - code.dimension) c.args.most point scale
          (falling-scaled width times wide field n code.root code.first_root code.scaled) word c.requires.elements
          c.args.erased.now c.requires.few (omega (arith, code.some_data, code.some_checks))
          (slice_index c.modified_syndromes-left.new.sums) c.modified_syndromes-left.result c.modified_syndromes-left.ensures.left
          (c.modified_syndromes-left.ensures.sums (λ i. times (scale i) (word i))
          (λ m below.
          ap (λ (l : List ℕ). slice_index l m) c.copy_from_slice.ensures.after
          ∙ syndrome-read width times wide field n code.root code.first_root m (slice_index c.args.syndromes.now m)
          c.args.word.now c.requires.long (c.requires.values m below)))
          c.write_register-size.result (slice_index c.write_register-size.new.coefficients)
          c.write_register-size.ensures.shortest sent is_sent
          c.locate_errors.new.marks are),
    )
