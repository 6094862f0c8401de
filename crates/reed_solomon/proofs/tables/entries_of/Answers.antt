use Rattle.std.proofs.Common.{◌*◌, ℕ, List, get_or, length, sym, ◌∙◌, ap, subst, arith}
use Rattle.std.proofs.lemmas.Simd.{get_or-chunk, length-chunk}
use Rattle.reed_solomon.specs.Tables.{IsEntry}
use Rattle.reed_solomon.specs.declared.byte_field.literals.TheConstants.{PRODUCTS}
use Rattle.reed_solomon.proofs.ByteTables.{products_at, products_long}
use Rattle.reed_solomon.proofs.tables.entries_of.Goals as goal

pub returns-clause-long : goal.returns-clause-long
returns-clause-long c =
    ap (λ (l : List ℕ). length l) c.bytes_at.ensures
    ∙ length-chunk (32 * c.args.factor) 32 PRODUCTS (omega (arith, products_long, c.ranges.factor.fits))

pub returns-clause-entries : goal.returns-clause-entries
returns-clause-entries c =
    λ n inside.
    subst (IsEntry c.args.factor n)
    (sym (ap (λ (l : List ℕ). get_or l n 0) c.bytes_at.ensures ∙ get_or-chunk (32 * c.args.factor) 32 PRODUCTS n 0 inside))
    (products_at c.args.factor n c.ranges.factor.fits inside)
