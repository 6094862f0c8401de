use Rattle.std.proofs.Common.{◌*◌, ◌+◌, ◌-◌, ◌≡◌, ◌<◌, ℕ, List, length, slice_index, sym, subst, ◌∙◌, ap, arith, lit<}
use Rattle.field_base.specs.Basis.{sum_below}
use Rattle.reed_solomon.specs.ByteFields.{byte_times}
use Rattle.error_codes.specs.Correcting.{code_value}
use Rattle.reed_solomon.proofs.ByteFields.{bytes_are_fields}
use Rattle.error_codes.proofs.CodeValues.{horner-more, value-lt, zeros-at}
use Rattle.error_codes.proofs.Encoding.{value-same}
use Rattle.error_codes.proofs.WordColumns.{part-at, word-at}
use Rattle.error_codes.proofs.interleaved.values_in_row.Goals as goal

pub loop-i-init : goal.loop-i-init
unfolding sum_below
loop-i-init c = (
  c.fill.ensures.len,
  λ d below.
      ap (λ (l : List ℕ). slice_index l d) (c.fill.ensures.after (λ y is. is)) ∙ zeros-at (length c.args.values.now) d,
)

pub loop-i-preserved : goal.loop-i-preserved
loop-i-preserved c = (
  c.add_symbols.ensures.long ∙ c.loop-i.invariant.0,
  λ d below.
      let depth = length c.args.values.now in
      let times = byte_times c.args.field in
      let field = bytes_are_fields c.args.field in
      let i = c.loop-i.i in
      let words = c.args.words.now in
      let symbol = λ (k : ℕ). slice_index words (k * depth + d) in
      let value_is = c.loop-i.invariant.1 d below in
      c.add_symbols.ensures.added d (omega (arith, below, c.loop-i.invariant.0))
      ∙ horner-more 8 times (lit< tt) field i symbol c.args.x (slice_index c.loop-i.values d) _ _
      (subst (λ (v : ℕ). v < 256) (sym (part-at (i * depth) (i * depth + depth - i * depth) words d (omega (arith, below))))
      (let fits = c.type_inv.words (i * depth + d) in omega (arith, fits)))
      value_is
      (c.images_of-images.ensures (slice_index c.loop-i.values d)
      (subst (λ (v : ℕ). v < 256) (sym value_is) (value-lt 8 times (lit< tt) field i symbol c.args.x)))
      (part-at (i * depth) (i * depth + depth - i * depth) words d (omega (arith, below))),
)

pub returns-clause-values : goal.returns-clause-values
returns-clause-values c = λ d below.
    let depth = length c.args.values.now in
    let times = byte_times c.args.field in
    let n = c.args.count in
    let whole : c.loop-i.i ≡ n = omega (arith, c.loop-i-test.false, c.loop-i.auto.i-end) in
    let symbol = λ (k : ℕ). slice_index c.args.words.now (k * depth + d) in
    c.loop-i.invariant.1 d below ∙ ap (λ (k : ℕ). code_value times k symbol c.args.x) whole
    ∙ value-same 8 times (lit< tt) (bytes_are_fields c.args.field) n symbol _ c.args.x
    (λ j inside. sym (word-at n depth c.args.words.now d j inside))
