use Rattle.std.proofs.Common.{◌≡◌, ◌^◌, ℕ, List, length, sym, ◌∙◌, ap, rules}
use Rattle.protocols.specs.CommitmentScheme.{HoldsColumns}
use Rattle.prove_sums.proofs.SumSteps.{sizes-same}
use Rattle.prove_sums.proofs.proving.commit.Goals as goal

pub commit-requires-clause-count : goal.commit-requires-clause-count
commit-requires-clause-count g c =
    let size : length c.args.elements.items ≡ 2 ^ c.args.shape.now.rounds = search rules in
    ap length c.as_slice.ensures.value ∙ size ∙ ap (λ (n : ℕ). 2 ^ n) (sym c.sizes-sizes.ensures.variables)

pub returns-clause-holds : goal.returns-clause-holds
returns-clause-holds g c =
    let field = g.F.Represented in
    let made = c.in_ok-held.held in
    let holds =
    sizes-same
    (λ (m n : ℕ) (table : List _).
    HoldsColumns (g.H.ByteHasher32.digest c.args.hasher.now) field.repr g.F.RawDataSerializable.NUM_BYTES field.width field.product
    (λ (i : ℕ). g.F.TowerLevel.basis (g.F.TowerLevel.cantor i)) m n table made.columns.items made.tree)
    c.sizes-sizes.ensures.queries c.sizes-sizes.ensures.variables c.as_slice.ensures.value c.in_ok-held.ensures in
    record { count = holds.count; extended = holds.extended; depth = holds.depth }

pub returns-clause-tree : goal.returns-clause-tree
returns-clause-tree g c =
    let field = g.F.Represented in
    let made = c.in_ok-held.held in
    (sizes-same
    (λ (m n : ℕ) (table : List _).
    HoldsColumns (g.H.ByteHasher32.digest c.args.hasher.now) field.repr g.F.RawDataSerializable.NUM_BYTES field.width field.product
    (λ (i : ℕ). g.F.TowerLevel.basis (g.F.TowerLevel.cantor i)) m n table made.columns.items made.tree)
    c.sizes-sizes.ensures.queries c.sizes-sizes.ensures.variables c.as_slice.ensures.value c.in_ok-held.ensures).over
