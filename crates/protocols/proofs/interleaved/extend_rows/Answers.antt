use Rattle.std.proofs.Common.{◌≡◌, ◌++◌, ◌*◌, ◌^◌, ℕ, length, map, take, sym, ◌∙◌, ap}
use Rattle.std.proofs.lemmas.List.{length-map}
use Rattle.protocols.specs.CodeWords.{IsCodeWordOf}
use Rattle.transcripts.specs.Commitments.{row_at}
use Rattle.protocols.proofs.CodeColumns.{rows-more, rows-size}
use Rattle.protocols.proofs.interleaved.extend_rows.Goals as goal

pub rows-preserved : goal.rows-preserved
rows-preserved g c =
    let ring = g.F.Represented in
    let vector : ℕ → ℕ = λ (i : ℕ). g.F.TowerLevel.basis (g.F.TowerLevel.cantor i) in
    let size : ℕ = 2 ^ c.args.expansion * 2 ^ c.args.levels in
    let before = c.rows.matrix.items in
    let word = c.in_ok-word.word.items in
    let joined : c.extend_from_slice.new.self.items ≡ before ++ word =
    c.in_ok-extend_from_slice.ensures.items ∙ ap (λ l. before ++ l) c.as_slice.ensures.value in
    let whole : length word ≡ size = sym (length-map word ring.repr) ∙ c.in_ok-word.ensures.code_word.size in
    let message : take (2 ^ c.args.levels) word ≡ row_at (2 ^ c.args.levels) c.args.messages.now c.rows.row =
    c.in_ok-word.ensures.systematic ∙ c.row_of-message.ensures
    ∙ ap (λ (n : ℕ). row_at n c.args.messages.now c.rows.row) c.power_of_two.ensures.power in
    record {
      size = rows-size size c.rows.row before word c.extend_from_slice.new.self.items joined c.rows.invariant.size whole;
      systematic =
          rows-more (λ (i : ℕ) row. take (2 ^ c.args.levels) row ≡ row_at (2 ^ c.args.levels) c.args.messages.now i) size c.rows.row before word
          c.extend_from_slice.new.self.items joined c.rows.invariant.size whole c.rows.invariant.systematic message;
      code_words =
          rows-more (λ (i : ℕ) row. IsCodeWordOf ring.width ring.product vector c.args.levels c.args.expansion (map ring.repr row)) size
          c.rows.row before word c.extend_from_slice.new.self.items joined c.rows.invariant.size whole c.rows.invariant.code_words
          c.in_ok-word.ensures.code_word;
    }
