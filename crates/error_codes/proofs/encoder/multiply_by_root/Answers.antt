use Rattle.std.proofs.Common.{◌≡◌, inl, inr, ◌+◌, ◌-◌, ℕ, slice_index, sym, ◌∙◌, ap, ap₂, arith}
use Rattle.std.specs.Prelude.{bit_xor}
use Rattle.std.proofs.lemmas.Bool.{cases_lt}
use Rattle.std.proofs.lemmas.List.{get_or-set_other}
use lib.Bits.{xor_zero_r}
use Rattle.field_base.proofs.RingLemmas.{times-zero}
use Rattle.reed_solomon.specs.ByteFields.{byte_times}
use Rattle.reed_solomon.proofs.ByteFields.{bytes_are_fields}
use Rattle.error_codes.proofs.CodeValues.{next-entry}
use Rattle.error_codes.proofs.encoder.multiply_by_root.Goals as goal

pub loop-j-preserved : goal.loop-j-preserved
loop-j-preserved c =
    let h = c.args.coefficients.now in
    let j = c.loop-j.j in (
      next-entry 256 j _ (slice_index h 0)
          (λ n. bit_xor (slice_index h (n + 1)) (byte_times c.args.field c.args.root (slice_index h n))) c.loop-j.product
          (omega arith) (omega arith) c.loop-j.invariant.0
          (λ n is. let before : j - 1 ≡ n = omega (arith, is) in
          ap₂ bit_xor (ap (slice_index h) (sym is))
          (c.multiply.ensures ∙ ap (λ (k : ℕ). byte_times c.args.field c.args.root (slice_index h k)) before)),
      λ n above.
          get_or-set_other c.loop-j.product j n _ 0 (λ e. absurd (omega (arith, e, above)))
          ∙ c.loop-j.invariant.1 n (omega (arith, above)),
    )

pub returns-clause-next : goal.returns-clause-next
returns-clause-next c = λ n below.
    let h = c.args.coefficients.now in
    let times = byte_times c.args.field in
    elim (cases_lt (n + 1) c.loop-j.j) [
      | inl early ↦ c.loop-j.invariant.0.2 n early
      | inr late ↦
          c.loop-j.invariant.1 (n + 1) late ∙ sym (xor_zero_r (slice_index h (n + 1)))
          ∙ ap (bit_xor (slice_index h (n + 1)))
          (sym (ap (times c.args.root) (c.requires.zeros n (omega (arith, late, c.loop-j-test.false)) (omega (arith, below)))
          ∙ times-zero 8 1 times (bytes_are_fields c.args.field).ring c.args.root))
    ]
