use Rattle.std.proofs.Common.{◌≡◌, ◌≢◌, ℕ, slice_index, refl, sym, ◌∙◌, ap, subst, arith, lit<}
use Rattle.field_base.specs.Powers.{power}
use Rattle.reed_solomon.specs.ByteFields.{byte_generator, byte_times}
use Rattle.error_codes.specs.Correcting.{HasOrder}
use Rattle.reed_solomon.proofs.ByteFields.{bytes_are_fields, generator-fits, generator-nonzero}
use Rattle.error_codes.proofs.CodeValues.{order-scaled, root-power}
use Rattle.error_codes.proofs.Generators.{power-nonzero}
use Rattle.error_codes.proofs.code.CorrectingCode.new.Goals as goal

pub invariant_of-result : goal.invariant_of-result
invariant_of-result c =
    let times = byte_times c.args.field in
    let field = bytes_are_fields c.args.field in
    let root = c.power_of-root.result in
    let root_is : power 1 times (byte_generator c.args.field) c.args.root_step ≡ root =
    ap (λ (g : ℕ). power 1 times g c.args.root_step) (sym c.generator.ensures) ∙ sym c.power_of-root.ensures in
    record {
      some_data = omega arith;
      some_checks = omega arith;
      short = omega arith;
      scaled =
          order-scaled 8 times (lit< tt) field c.args.word_length root c.args.first_root (omega arith)
          (subst (λ (r : ℕ). r ≢ 0) root_is
          (power-nonzero 8 times (lit< tt) field (byte_generator c.args.field) (generator-fits c.args.field)
          (generator-nonzero c.args.field) c.args.root_step))
          (c.has_order.ensures.0 c.if-not-has_order.false);
      roots_are = λ m below.
          root-power 8 times (lit< tt) field root c.args.first_root m c.power_of-first.result
          (slice_index c.rising_powers-roots.result m) c.power_of-first.ensures (c.rising_powers-roots.ensures m below);
      monic = c.generator_polynomial-generator.ensures.monic;
      zeros = c.generator_polynomial-generator.ensures.zeros;
    }

pub returns-clause-accepted : goal.returns-clause-accepted
returns-clause-accepted c =
    let times = byte_times c.args.field in
    let field = bytes_are_fields c.args.field in
    let root = c.power_of-root.result in
    let root_is : power 1 times (byte_generator c.args.field) c.args.root_step ≡ root =
    ap (λ (g : ℕ). power 1 times g c.args.root_step) (sym c.generator.ensures) ∙ sym c.power_of-root.ensures in (
      λ is. (
        omega arith,
        omega arith,
        omega arith,
        subst (λ (r : ℕ). HasOrder times r c.args.word_length) (sym root_is)
            (c.has_order.ensures.0 c.if-not-has_order.false),
      ),
      λ holds. refl,
    )
