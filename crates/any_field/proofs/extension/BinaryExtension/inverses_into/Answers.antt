use Rattle.std.proofs.Common.{sym, ◌∙◌, ap₂}
use native.Mathlib.Nat.{mod-eq_of_lt}
use Rattle.any_field.specs.Contexts.{field_product}
use Rattle.any_field.proofs.extension.BinaryExtension.inverses_into.Goals as goal

pub inverses_from_products-requires-clause-inverse : goal.inverses_from_products-requires-clause-inverse
inverses_from_products-requires-clause-inverse c =
    ap₂ (field_product c.args.self.degree c.args.self.tail) (sym c.products_before-product.ensures.whole) (mod-eq_of_lt c.invert-inverse.ensures.fits)
    ∙ c.invert-inverse.ensures.inverse.1 c.products_before-product.ensures.nonzero
