use Rattle.std.proofs.Common.{◌≡◌, ◌<◌, ◌+◌, ◌-◌, ◌^◌, ℕ, length, slice_index, sym, ◌∙◌, ap, subst, arith}
use Rattle.std.proofs.lemmas.Nat.{pow_pos}
use Rattle.field_base.specs.Powers.{power}
use Rattle.error_codes.specs.Correcting.{code_value}
use Rattle.error_codes.proofs.Encoding.{rest-starts}
use Rattle.error_codes.proofs.FieldEncoding.{rest-encodes, shifted-fits, shifted-rest}
use Rattle.error_codes.proofs.field_code.FieldCode.encode.Goals as goal

pub loop-i-init : goal.loop-i-init
loop-i-init g c =
    let s = g.F.SymbolField in
    let law = g.met.F.SymbolField in
    let code = c.args.self.now in
    let times = s.product code.field in
    let word = c.clear_from.new.word in
    let zeros = λ (j : ℕ). c.clear_from.ensures.cleared (code.dimension + j) (omega arith) in (
      c.clear_from.ensures.long,
      c.clear_from.ensures.kept,
      λ j. subst (λ (v : ℕ). v < 2 ^ s.width code.field) (sym (zeros j)) (pow_pos (s.width code.field)),
      λ m below.
          rest-starts (s.width code.field) times (law.wide_law code.field) (law.field_law code.field)
          (code.word_length - code.dimension) (power 1 times code.root (code.first_root + m)) (slice_index c.args.word.now)
          (λ j. slice_index word (code.dimension + j)) zeros,
    )

pub loop-i-preserved : goal.loop-i-preserved
loop-i-preserved g c =
    let s = g.F.SymbolField in
    let law = g.met.F.SymbolField in
    let code = c.args.self.now in
    let times = s.product code.field in
    let checks = code.word_length - code.dimension in
    let i = c.loop-i.i in
    let long : length c.loop-i.word ≡ code.dimension + checks =
    omega (arith, c.loop-i.invariant.0, c.requires.whole, code.some_checks) in (
      c.shift_rest.ensures.long ∙ c.loop-i.invariant.0,
      λ n below. c.shift_rest.ensures.kept n below ∙ c.loop-i.invariant.1 n below,
      shifted-fits (s.width code.field) times (law.wide_law code.field) (law.field_law code.field) code.dimension _
          (slice_index c.args.generator.now) c.loop-i.word c.shift_rest.new.word c.shift_rest.ensures.long
          c.shift_rest.ensures.shifted c.loop-i.invariant.2,
      λ m below.
          shifted-rest (s.width code.field) times (law.wide_law code.field) (law.field_law code.field) code.dimension checks i
          (power 1 times code.root (code.first_root + m)) _ (slice_index c.args.word.now) (slice_index c.args.generator.now)
          c.loop-i.word c.shift_rest.new.word long c.requires.generates.monic (c.requires.generates.zeros m below)
          (c.loop-i.invariant.1 i c.loop-i-test.true) c.shift_rest.ensures.shifted (c.loop-i.invariant.3 m below),
    )

pub returns-clause-encoded : goal.returns-clause-encoded
returns-clause-encoded g c =
    let s = g.F.SymbolField in
    let law = g.met.F.SymbolField in
    let code = c.args.self.now in
    let times = s.product code.field in
    let checks = code.word_length - code.dimension in
    let end : c.loop-i.i ≡ code.dimension = omega arith in
    rest-encodes (s.width code.field) times (law.wide_law code.field) (law.field_law code.field) code.dimension checks code.root
    code.first_root (slice_index c.args.word.now) c.loop-i.word
    (omega (arith, c.loop-i.invariant.0, c.requires.whole, code.some_checks)) c.loop-i.invariant.1
    (λ m below.
    c.loop-i.invariant.3 m below
    ∙ ap (λ (k : ℕ). times (code_value times k (slice_index c.args.word.now) (power 1 times code.root (code.first_root + m)))
    (power 1 times (power 1 times code.root (code.first_root + m)) checks)) end)

pub shift_rest-requires-clause-whole : goal.shift_rest-requires-clause-whole
shift_rest-requires-clause-whole g c =
    omega (arith, c.requires.generates.count, c.loop-i.invariant.0, c.requires.whole, c.args.self.now.some_checks)

pub returns-clause-elements : goal.returns-clause-elements
returns-clause-elements g c = c.loop-i.invariant.2

pub returns-clause-kept : goal.returns-clause-kept
returns-clause-kept g c = c.loop-i.invariant.1
