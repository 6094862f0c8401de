use Rattle.std.proofs.Common.{◌≡◌, ◌+◌, ◌-◌, ℕ, ◌∙◌, ap, subst, arith}
use Rattle.std.proofs.lemmas.List.{get_or-set_other, get_or-set_same, length-set}
use Rattle.field_base.specs.Powers.{power}
use Rattle.error_codes.proofs.FieldEncoding.{HasFirstRoots, first-roots-more}
use Rattle.error_codes.proofs.FieldPowers.{next-root}
use Rattle.error_codes.proofs.field_code.FieldCode.write_generator.Goals as goal

pub loop-m-init : goal.loop-m-init
loop-m-init g c =
    let code = c.args.self.now in
    let times = g.F.SymbolField.product code.field in
    let start : code.first_root ≡ code.first_root + 0 = omega arith in
    let cleared = c.clear_from.new.word in (
      c.power_of-x.ensures ∙ ap (power 1 times code.root) start,
      length-set cleared 0 1 ∙ c.clear_from.ensures.long,
      record {
        monic = get_or-set_same cleared 0 1 0 (omega (arith, c.clear_from.ensures.long, c.requires));
        above = λ j above.
            get_or-set_other cleared 0 j 1 0 (λ e. absurd (omega (arith, e, above))) ∙ c.clear_from.ensures.cleared j (omega arith);
        zeros = λ n below. absurd (omega (arith, below));
      },
    )

pub loop-m-preserved : goal.loop-m-preserved
loop-m-preserved g c =
    let s = g.F.SymbolField in
    let law = g.met.F.SymbolField in
    let code = c.args.self.now in
    let times = s.product code.field in
    let m = c.loop-m.m in (
      next-root times code.root code.first_root m c.loop-m.x c.multiply-x.result c.loop-m.invariant.0 c.multiply-x.ensures,
      c.multiply_by_root.ensures.long ∙ c.loop-m.invariant.1,
      first-roots-more (s.width code.field) times (law.wide_law code.field) (law.field_law code.field) m c.loop-m.x
          (λ n. power 1 times code.root (code.first_root + n)) c.loop-m.generator c.multiply_by_root.new.coefficients
          (omega (arith, c.loop-m.invariant.1, c.requires, c.loop-m-test.true)) c.multiply_by_root.ensures.long
          c.loop-m.invariant.0 c.multiply_by_root.ensures.first c.multiply_by_root.ensures.next c.loop-m.invariant.2,
    )

pub returns : goal.returns
returns g c =
    let code = c.args.self.now in
    let times = g.F.SymbolField.product code.field in
    let end : c.loop-m.m ≡ code.word_length - code.dimension = omega arith in
    let roots = subst (λ (k : ℕ). HasFirstRoots times (λ n. power 1 times code.root (code.first_root + n)) k c.loop-m.generator) end
    c.loop-m.invariant.2 in
    record {
      count = c.loop-m.invariant.1 ∙ c.requires;
      monic = roots.monic;
      zeros = roots.zeros;
    }

pub multiply_by_root-requires-clause-zeros : goal.multiply_by_root-requires-clause-zeros
multiply_by_root-requires-clause-zeros g c = c.loop-m.invariant.2.above

pub multiply_by_root-requires-clause-room : goal.multiply_by_root-requires-clause-room
multiply_by_root-requires-clause-room g c = omega (arith, c.loop-m.invariant.1, c.requires, c.loop-m-test.true)
