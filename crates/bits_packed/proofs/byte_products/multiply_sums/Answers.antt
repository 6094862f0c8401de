use Rattle.std.proofs.Common.{◌≡◌, ◌+◌, ◌*◌, ◌<◌, ◌≤◌, ◌∙◌, ap, arith, refl, drop, length}
use Rattle.std.proofs.lemmas.Grind.{div_ceil_times}
use Rattle.std.proofs.lemmas.List.{length-take-le, take_at}
use Rattle.bits_packed.proofs.SumsProducts.{few-words, first_terms, front-long, lesser-end, none-done, part-done, sums-named, words-times}
use Rattle.bits_packed.proofs.byte_products.multiply_sums.Goals as goal

pub loop-part-init : goal.loop-part-init
loop-part-init c = (
  c.clear.ensures.shape ∙ c.requires.room,
  refl,
  refl,
  refl,
  λ i j inside within.
      none-done c.args.mask c.args.inner c.args.block.width c.args.left.now c.args.right.now c.args.block.row c.args.block.column i j
      c.args.product.now c.clear.new.words c.clear.ensures (omega (arith, inside, c.requires.rows)) (omega (arith, within, c.requires.columns)),
)

pub multiply_strip-requires-clause-left : goal.multiply_strip-requires-clause-left
multiply_strip-requires-clause-left c =
    let n = c.div_ceil-words.result * c.args.block.rows in
    let room = few-words c.div_ceil-words.result c.args.block.rows c.least-count.result c.div_ceil-words.ensures c.least-count.ensures.first
    c.requires.rows in
    let long : length c.write_sums.new.bits ≡ n
    = c.write_sums.ensures.shape ∙ length-take-le n c.loop-part.left_sums (omega (arith, room, c.loop-part.invariant.1)) in
    ap length (take_at c.write_sums.new.bits (drop n c.loop-part.left_sums) n long) ∙ long
    ∙ words-times c.div_ceil-words.result c.args.block.rows c.least-count.result c.div_ceil-words.ensures

pub loop-part-preserved : goal.loop-part-preserved
loop-part-preserved c =
    let block = c.args.block in
    let words = c.div_ceil-words.result in
    let count = c.least-count.result in
    let product = c.loop-part.product in
    let target = c.multiply_strip.new.target in
    let few = c.least-count.ensures.first in
    let room = few-words words block.rows count c.div_ceil-words.ensures few c.requires.rows in
    let left_long : length c.write_sums.new.bits ≡ words * block.rows
    = c.write_sums.ensures.shape ∙ length-take-le (words * block.rows) c.loop-part.left_sums (omega (arith, room, c.loop-part.invariant.1)) in
    let right_long : length c.write_sums-in-loop-part.new.bits ≡ 8 * count
    = c.write_sums-in-loop-part.ensures.shape
    ∙ length-take-le (8 * count) c.loop-part.right_sums (omega (arith, few, c.loop-part.invariant.2)) in
    let less : 128 * c.loop-part.part < c.args.inner
    = let narrow = (div_ceil_times c.args.inner 128 (omega arith)).1 in
    omega (arith, narrow, c.div_ceil-part-end.ensures, c.loop-part-test.true) in
    let lefts = sums-named c.write_sums.new.bits c.args.left.now words c.args.mask c.left_part-rows.ensures.width c.left_part-rows.ensures.row
    c.left_part-rows.ensures.rows c.left_part-rows.ensures.column c.left_part-rows.ensures.columns c.write_sums.ensures.sums in
    let rights = sums-named c.write_sums-in-loop-part.new.bits c.args.right.now 8 c.args.mask c.right_part.ensures.width c.right_part.ensures.row
    c.right_part.ensures.rows c.right_part.ensures.column c.right_part.ensures.columns c.write_sums-in-loop-part.ensures.sums in (
      front-long target product (8 * block.rows) 4096 (c.multiply_strip.ensures.sums.shape
          ∙ length-take-le (8 * block.rows) product (omega (arith, c.loop-part.invariant.0, c.requires.rows)))
          (omega (arith, c.requires.rows)) c.loop-part.invariant.0,
      front-long c.write_sums.new.bits c.loop-part.left_sums (words * block.rows) 1024 left_long room c.loop-part.invariant.1,
      front-long c.write_sums-in-loop-part.new.bits c.loop-part.right_sums (8 * count) 1024 right_long (omega (arith, few)) c.loop-part.invariant.2,
      c.multiply_strip.ensures.tables,
      part-done c.args.mask c.args.inner block.width c.args.left.now c.args.right.now block.row block.rows block.column block.columns
          c.loop-part.part count words c.write_sums.new.bits (drop (words * block.rows) c.loop-part.left_sums) c.write_sums-in-loop-part.new.bits
          (drop (8 * count) c.loop-part.right_sums) product target less c.least-count.ensures.is c.div_ceil-words.ensures c.requires.columns
          c.requires.rows c.loop-part.invariant.0 left_long right_long lefts rights c.multiply_strip.ensures.sums c.loop-part.invariant.4,
    )

pub returns-clause-sums : goal.returns-clause-sums
returns-clause-sums c =
    let enough = (div_ceil_times c.args.inner 128 (omega arith)).0 in
    let all : c.args.inner ≤ 128 * c.loop-part.part = omega (arith, enough, c.div_ceil-part-end.ensures) in
    λ i j inside within.
    c.loop-part.invariant.4 i j inside within
    ∙ ap (first_terms c.args.mask c.args.inner c.args.block.width c.args.left.now c.args.right.now (c.args.block.row + i) (c.args.block.column + j))
    (lesser-end (128 * c.loop-part.part) c.args.inner all)
