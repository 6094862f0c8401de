use Rattle.std.proofs.Common.{ℕ, List, ◌*◌, ◌+◌, get_or, ◌∙◌, ap}
use Rattle.std.proofs.lemmas.Simd.{get_or-chunk}
use Rattle.additive_transforms.specs.declared.multiples.literals.TheConstants.{PRODUCTS}
use Rattle.additive_transforms.proofs.Tables.{high_product, low_product}
use Rattle.additive_transforms.proofs.multiples.multiples_8.Goals as goal

pub returns : goal.returns
returns c =
    let s = c.args.scalar in
    record {
      of_low =
          λ n half.
          ap (λ (l : List ℕ). get_or l n 0) c.entries_at.ensures ∙ get_or-chunk (32 * s) 16 PRODUCTS n 0 half
          ∙ low_product s n c.ranges.scalar.fits half;
      of_high =
          λ n half.
          ap (λ (l : List ℕ). get_or l n 0) c.entries_at-2.ensures ∙ get_or-chunk (32 * s + 16) 16 PRODUCTS n 0 half
          ∙ high_product s n c.ranges.scalar.fits half;
    }
