use Rattle.std.proofs.Common.{refl, sym, ◌∙◌, arith, false, true, ◌≡◌}
use Rattle.error_codes.proofs.WordColumns.{word-at}
use Rattle.error_codes.proofs.interleaved.is_zero_word.Goals as goal

pub returns-then-symbols-m-ne0 : goal.returns-then-symbols-m-ne0
returns-then-symbols-m-ne0 c = (
  λ said. let none : false ≡ true = said in absurd (cc),
  λ zeros. absurd (c.if-symbols-m-ne0.true
      (sym (word-at c.args.count c.args.depth c.args.symbols.now c.args.c c.loop-m.m c.loop-m-test.true)
      ∙ zeros c.loop-m.m c.loop-m-test.true)),
)

pub returns : goal.returns
returns c = (
  λ said m below.
      word-at c.args.count c.args.depth c.args.symbols.now c.args.c m below
      ∙ c.loop-m.invariant m (omega (arith, below, c.loop-m-test.false)),
  λ zeros. refl,
)
