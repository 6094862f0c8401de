use Rattle.std.proofs.Common.{ℕ, ◌^◌, ◌<◌, List, refl, subst}
use Rattle.std.specs.Prelude.{slice_index}
use Rattle.field_slices.specs.Matrices.{IsMatrixProduct}
use Rattle.bits_packed.specs.BitMatrices.{word_of}
use Rattle.bits_packed.specs.BytesAsBits.{bilinear_product}
use Rattle.many_words.specs.Fields.{field_of, itself}
use Rattle.c_calls.proofs.ByteMatrices.{bytes-are, bytes-product, product-by-forms}
use Rattle.c_calls.proofs.Endings.{call_done, call_misfit, refuted}
use Rattle.c_calls.proofs.byte_matrices.multiply.Goals as goal

pub multiply_bytes_into-requires-clause-left : goal.multiply_bytes_into-requires-clause-left
multiply_bytes_into-requires-clause-left g c = (c.have_product_shapes.ensures.0 c.if-not-have_product_shapes.false).0

pub multiply_bytes_into-requires-clause-right : goal.multiply_bytes_into-requires-clause-right
multiply_bytes_into-requires-clause-right g c = (c.have_product_shapes.ensures.0 c.if-not-have_product_shapes.false).1

pub multiply_bytes_into-requires-clause-shape : goal.multiply_bytes_into-requires-clause-shape
multiply_bytes_into-requires-clause-shape g c = (c.have_product_shapes.ensures.0 c.if-not-have_product_shapes.false).2

pub returns-then-not-have_product_shapes : goal.returns-then-not-have_product_shapes
returns-then-not-have_product_shapes g c =
    call_misfit (λ fit. refuted c.if-not-have_product_shapes.true (c.have_product_shapes.ensures.1 fit))

pub returns : goal.returns
returns g c =
    let times = g.K.FieldKernel.product in
    let field = field_of itself g.K.FieldKernel.width times g.K.FieldKernel.generator in
    let rows = c.args.rows in
    let inner = c.args.inner in
    let columns = c.args.columns in
    let left = c.args.left.now in
    let right = c.args.right.now in
    let target = c.multiply_bytes_into.new.target in
    let lefts : (p : ℕ) → slice_index left p < 2 ^ 8 = λ p. (c.type_inv.left p).fits in
    let rights : (p : ℕ) → slice_index right p < 2 ^ 8 = λ p. (c.type_inv.right p).fits in
    call_done (c.have_product_shapes.ensures.0 c.if-not-have_product_shapes.false)
    (bytes-are field left g.met.K.ByteForms.bytes_law (λ x. refl) lefts, bytes-are field right g.met.K.ByteForms.bytes_law (λ x. refl) rights)
    (bytes-product times rows inner columns left right target
    (product-by-forms times g.K.ByteForms.FORMS rows inner columns left right target g.met.K.ByteForms.forms_law lefts rights
    (subst (λ (forms : List (ℕ × ℕ)).
    IsMatrixProduct (bilinear_product forms) rows inner columns (word_of inner left) (word_of columns right) (word_of columns target))
    c.FORMS.ensures c.multiply_bytes_into.ensures.product)))
