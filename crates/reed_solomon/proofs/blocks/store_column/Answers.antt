use Rattle.std.proofs.Common.{inl, inr, refl, arith}
use Rattle.reed_solomon.proofs.RowWriting.{byte_row}
use Rattle.reed_solomon.proofs.blocks.store_column.Goals as goal

pub loop-row-preserved : goal.loop-row-preserved
loop-row-preserved g c =
    let within = c.loop-row-test.true in
    byte_row _ _ c.loop-row.row _ _ _ c.loop-row.out c.loop-row.invariant refl
    (omega (arith, c.requires.room c.loop-row.row within, c.loop-row.auto.out)) refl
    (λ other below.
    elim (c.requires.apart c.loop-row.row other below within) [ inl low ↦ inl (omega (arith, low)) | inr high ↦ inr (omega (arith, high)) ])
