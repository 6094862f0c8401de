use Rattle.std.proofs.Common.{◌≡◌, inl, inr, ◌+◌, ◌-◌, ℕ, set, slice_index, ◌∙◌, ap, ap₂, subst, arith}
use Rattle.std.specs.Prelude.{bit_xor}
use Rattle.std.proofs.lemmas.Bool.{cases_lt}
use Rattle.error_codes.proofs.FieldRows.{AreBelow, below-more, below-starts}
use Rattle.error_codes.proofs.FieldEncoding.{product-behind}
use Rattle.error_codes.proofs.field_code.encoding.multiply_by_root.Goals as goal

pub loop-k-init : goal.loop-k-init
loop-k-init g c =
    let h = c.args.coefficients.now in
    let value = λ (n : ℕ). bit_xor (slice_index h (n + 1)) (g.F.SymbolField.product c.args.field c.args.root (slice_index h n)) in
    let whole : c.args.degree + 1 ≡ c.args.degree + 1 - 0 = omega arith in
    subst (λ (k : ℕ). AreBelow value (c.args.degree + 1) k h h) whole (below-starts value (c.args.degree + 1) h)

pub loop-k-preserved : goal.loop-k-preserved
loop-k-preserved g c =
    let h = c.args.coefficients.now in
    let value = λ (n : ℕ). bit_xor (slice_index h (n + 1)) (g.F.SymbolField.product c.args.field c.args.root (slice_index h n)) in
    let k = c.loop-k.k in
    let j = c.args.degree - k in
    let next : j ≡ c.args.degree + 1 - (k + 1) = omega (arith, c.loop-k-test.true) in
    let before = c.loop-k.invariant.before in
    let entry = bit_xor (slice_index c.loop-k.coefficients (j + 1)) c.multiply.result in
    subst (λ (m : ℕ). AreBelow value (c.args.degree + 1) m h (set c.loop-k.coefficients (j + 1) entry)) next
    (below-more value (c.args.degree + 1) (c.args.degree + 1 - k) j entry h c.loop-k.coefficients c.loop-k.invariant
    (omega (arith, c.loop-k-test.true)) (omega arith) (omega (arith, c.loop-k.invariant.long, c.requires.room))
    (ap₂ bit_xor (before (j + 1) (omega (arith, c.loop-k-test.true)))
    (c.multiply.ensures ∙ ap (g.F.SymbolField.product c.args.field c.args.root) (before j (omega (arith, c.loop-k-test.true))))))

pub returns-clause-next : goal.returns-clause-next
returns-clause-next g c = λ n below.
    let field = c.args.field in
    let end : c.args.degree + 1 - c.loop-k.k ≡ 0 = omega (arith, c.loop-k-test.false) in
    elim (cases_lt n (c.args.degree + 1)) [
      | inl early ↦ c.loop-k.invariant.written n (omega (arith, end)) early
      | inr late ↦
          c.loop-k.invariant.behind (n + 1) (omega (arith, late))
          ∙ product-behind (g.F.SymbolField.width field) (g.F.SymbolField.product field) (g.met.F.SymbolField.wide_law field)
          (g.met.F.SymbolField.field_law field) c.args.root (slice_index c.args.coefficients.now (n + 1))
          (slice_index c.args.coefficients.now n) (c.requires.zeros n (omega (arith, late)))
    ]
