use Rattle.std.proofs.Common.{◌≡◌, ◌<◌, ◌∙◌, ap, sym, arith, ℕ, length}
use Rattle.std.proofs.lemmas.List.{get_or-map, length-set}
use Rattle.field_base.specs.Chunks.{chunk}
use Rattle.field_bytes.specs.Parallel.{entry_of_row}
use Rattle.field_bytes.proofs.Rows.{entry_put}
use Rattle.field_bytes.proofs.parallel.bytes_of_row.Goals as goal

pub loop-j-preserved : goal.loop-j-preserved
loop-j-preserved g c =
    let long : length c.args.row.now ≡ g.row.N = c.type_inv.row in
    let within : c.loop-j.j < length c.loop-j.bytes = omega (arith, c.loop-j-test.true, c.loop-j.invariant.0) in
    let in_row : c.loop-j.j < length c.args.row.now = omega (arith, c.loop-j-test.true, long) in
    let value = c.byte.ensures ∙ ap (λ (n : ℕ). chunk 8 c.args.place n) (sym (get_or-map g.E.Represented.repr c.args.row.now c.loop-j.j c.index-row-j.result 0 in_row)) in (
      length-set c.loop-j.bytes c.loop-j.j c.byte.result ∙ c.loop-j.invariant.0,
      entry_put (λ k. chunk 8 c.args.place (entry_of_row g.E.Represented.repr k c.args.row.now)) c.loop-j.bytes c.loop-j.j c.byte.result within value
          c.loop-j.invariant.1,
    )
