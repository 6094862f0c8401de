use Rattle.std.proofs.Common.{ℕ, ◌∙◌, ap}
use Rattle.std.specs.Prelude.{bit_xor}
use Rattle.ghash_slices.specs.Fours.{product_at}
use Rattle.ghash_slices.proofs.width.U64x2Width.add_four_products.Goals as goal

pub returns : goal.returns
returns c =
    c.add_two_products.ensures
    ∙ ap (λ (x : ℕ). bit_xor (bit_xor x (product_at c.args.left c.args.right 2)) (product_at c.args.left c.args.right 3))
    c.add_two_products-sum_low.ensures
