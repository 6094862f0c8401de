use Rattle.std.proofs.Common.{◌≡◌, take}
use Rattle.field_base.specs.Powers.{product_of}
use Rattle.c_calls.proofs.slices.product.Given as goal

abbrev pub invariant-loop-word : goal.invariant-loop-word
invariant-loop-word g l =
    let field = g.S.ScalarWords.field l.field in
    field.number l.value ≡ product_of 1 field.times field.number (take l.word-index l.words)
