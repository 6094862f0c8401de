use Rattle.std.proofs.Common.{ℕ, ◌<◌, ◌^◌, ◌↔◌, get_or, IsTrue}
use Rattle.many_words.specs.Fields.{field_of}
use Rattle.c_calls.proofs.slices.are_elements.Given as goal

abbrev pub invariant-loop-word : goal.invariant-loop-word
invariant-loop-word g l =
    let field = field_of g.W.Reads.number g.K.FieldKernel.width g.K.FieldKernel.product g.K.FieldKernel.generator in
    IsTrue l.all ↔ ((k : ℕ) → k < l.word-index → (d : _) → field.number (get_or l.words k d) < 2 ^ field.width)
