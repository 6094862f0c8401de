use Rattle.std.proofs.Common.{inl, inr, refl, arith}
use Rattle.reed_solomon.proofs.RowWriting.{block_row}
use Rattle.reed_solomon.proofs.blocks.store_block.Goals as goal

pub loop-row-preserved : goal.loop-row-preserved
loop-row-preserved g c =
    let within = c.loop-row-test.true in
    block_row _ _ c.loop-row.row 32 _ _ c.loop-row.out _ c.loop-row.invariant refl (c.requires.lanes c.loop-row.row within)
    (omega (arith, c.requires.room c.loop-row.row within, c.loop-row.auto.out)) (λ lane below. refl)
    (λ other below.
    elim (c.requires.apart c.loop-row.row other below within) [ inl low ↦ inl (omega (arith, low)) | inr high ↦ inr (omega (arith, high)) ])
