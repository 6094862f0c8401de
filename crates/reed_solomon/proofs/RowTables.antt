-- The loop that sets the tables of one row, shard by shard.
use Rattle.std.proofs.Common.{◌≡◌, ◌≢◌, ℕ, ◌+◌, ◌*◌, ◌/◌, ◌%◌, ◌<◌, ◌≤◌, inl, inr, List, length, get_or, sym, ◌∙◌, ap, subst, arith}
use Rattle.std.specs.Simd.Lanes.{put_chunk}
use Rattle.std.proofs.lemmas.Bool.{cases_lt}
use Rattle.std.proofs.lemmas.Simd.{length-put_chunk, get_or-put_chunk_below, get_or-put_chunk_at, get_or-put_chunk_above}
use Rattle.reed_solomon.specs.Tables.{HasRow, IsEntry}
use Rattle.reed_solomon.proofs.Samples.{below_next}

-- the entries of the first j shards in the row are set, and those of other rows are as they were
pub record IsRowBefore (factor : ℕ → ℕ) (row : ℕ) (old : List ℕ) (j : ℕ) (now : List ℕ) : Type 0 where
  pub long : length now ≡ length old
  pub entries : HasRow factor now row j
  pub others : (place : ℕ) → place / 32 % 4 ≢ row → get_or now place 0 ≡ get_or old place 0

-- the entries of one shard more
pub row_next : (factor : ℕ → ℕ) (row j start : ℕ) (old now lanes : List ℕ) → IsRowBefore factor row old j now → row < 4
    → start ≡ 128 * j + 32 * row → length lanes ≡ 32 → start + 32 ≤ length now
    → ((n : ℕ) → n < 32 → IsEntry (factor j) n (get_or lanes n 0)) → IsRowBefore factor row old (j + 1) (put_chunk start now lanes)
row_next factor row j start old now lanes before few is long room entries =
    record {
      long = length-put_chunk start now lanes ∙ before.long;
      entries =
          λ i n within inside.
          below_next (λ shard. IsEntry (factor shard) n (get_or (put_chunk start now lanes) (128 * shard + 32 * row + n) 0)) j i within
          (λ was.
          subst (IsEntry (factor i) n)
          (sym (get_or-put_chunk_below start now lanes (128 * i + 32 * row + n) 0 (omega (arith, is, was, inside)))) (before.entries i n was inside))
          (subst (IsEntry (factor j) n) (sym (here n inside)) (entries n inside));
      others = others;
    }
  where
    here : (n : ℕ) → n < 32 → get_or (put_chunk start now lanes) (128 * j + 32 * row + n) 0 ≡ get_or lanes n 0
    here n inside =
        let place : 128 * j + 32 * row + n ≡ start + n = omega (arith, is) in
        ap (λ (p : ℕ). get_or (put_chunk start now lanes) p 0) place
        ∙ get_or-put_chunk_at start now lanes n 0 (omega (arith, long, inside)) (omega (arith, long, room))

    others : (place : ℕ) → place / 32 % 4 ≢ row → get_or (put_chunk start now lanes) place 0 ≡ get_or old place 0
    others place other =
        elim (cases_lt place start) [
          | inl low ↦ get_or-put_chunk_below start now lanes place 0 low ∙ before.others place other
          | inr high ↦
              get_or-put_chunk_above start now lanes place 0
              (elim (cases_lt place (start + 32)) [
                | inl within ↦ absurd (other (omega (arith, high, within, is, few)))
                | inr past ↦ omega (arith, past, long)
              ])
              ∙ before.others place other
        ]
