use Rattle.std.proofs.Common.{◌≡◌, inl, inr, ℕ, ◌+◌, ◌-◌, ◌*◌, ◌<◌, ◌∙◌, arith, refl, subst}
use Rattle.std.proofs.lemmas.Bool.{cases_lt}
use Rattle.bits_packed.specs.BitMatrices.{bit_entry, entry_within}
use Rattle.bits_packed.proofs.transposes.transpose_words.Goals as goal

pub loop-word-init : goal.loop-word-init
loop-word-init c = (refl, λ i j inside below. absurd (omega (arith, below)))

pub loop-word-preserved : goal.loop-word-preserved
loop-word-preserved c =
    let word = c.loop-word.word in
    let A = bit_entry c.args.from.words c.args.source.now in
    let write = c.write_column.ensures in
    let within : word < c.args.to.words = omega arith in (
      write.shape ∙ c.loop-word.invariant.0,
      λ i j inside below. elim (cases_lt j (64 * word)) [
        | inl earlier ↦
            write.others i j inside (omega (arith, earlier, within)) (inl earlier) ∙ c.loop-word.invariant.1 i j inside earlier
        | inr later ↦
            let split : 64 * word + (j - 64 * word) ≡ j = omega (arith, later) in
            subst (λ (n : ℕ). bit_entry c.args.to.words c.write_column.new.target i n ≡ entry_within c.args.from.rows A n i) split
            (write.written i (j - 64 * word) (omega arith) (omega (arith, inside, c.requires.columns)) inside (omega (arith, below, later)))
      ],
    )

pub returns-clause-entries : goal.returns-clause-entries
returns-clause-entries c = λ i j inside fits. c.loop-word.invariant.1 i j inside (omega (arith, fits))
