use Rattle.std.proofs.Common.{◌+◌, ◌*◌, ◌^◌, ◌≤◌, ℕ, List, length, sym, ◌∙◌, ap, subst, arith}
use Rattle.std.specs.Prelude.{slice_index}
use Rattle.std.proofs.Math.Nat.{mul-le-mul_right}
use Rattle.protocols.specs.Tables.{AreColumnsAt}
use Rattle.protocols.proofs.HonestColumns.{honest-opening}
use Rattle.protocols.proofs.tables.open_columns.Goals as goal

pub columns_at-requires : goal.columns_at-requires
columns_at-requires g c = λ i below.
    let inside = c.requires.places.below i below in
    let next : slice_index c.args.places.now i + 1 ≤ 2 ^ c.args.table.now.tree.depth = omega (arith, inside) in
    let room = mul-le-mul_right (2 ^ c.args.rows) next in
    let height = c.power_of_two-height.ensures.power in
    let long = ap length c.as_slice.ensures.value ∙ c.requires.count in
    subst (λ (n : ℕ). (slice_index c.args.places.now i + 1) * n ≤ length c.as_slice.result.now) (sym height)
    (subst (λ (n : ℕ). (slice_index c.args.places.now i + 1) * 2 ^ c.args.rows ≤ n) (sym long) room)

pub returns : goal.returns
returns g c =
    let ring = g.F.Represented in
    let law = g.met.F.Field in
    let held = c.args.table.now in
    let opened = c.in_ok-columns.columns.items in
    let height = c.power_of_two-height.ensures.power in
    let at = subst (λ (n : ℕ). AreColumnsAt n held.columns.items c.args.places.now opened) height
    (subst (λ (l : List _). AreColumnsAt c.power_of_two-height.result l c.args.places.now opened) c.as_slice.ensures.value c.in_ok-columns.ensures) in
    record {
      columns = at;
      nodes = c.in_ok-nodes.ensures;
      accepted = λ size vector.
          honest-opening ring.repr ring.width ring.product vector law.wide_law law.field_law.ring held.columns.items size c.args.rows held.tree
          c.args.places.now opened c.in_ok-nodes.nodes.items c.requires.places at.0 at.1 c.in_ok-nodes.ensures;
    }
