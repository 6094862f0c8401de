-- Bytes that are written block by block as what a map makes of the bytes at their places, in blocks that may overlap.
use Rattle.std.proofs.Common.{◌≡◌, inl, inr, ℕ, ◌+◌, ◌-◌, ◌<◌, ◌≤◌, List, length, get_or, map, refl, sym, ◌∙◌, ap, subst, arith}
use Rattle.std.specs.Simd.Lanes.{chunk, put_chunk}
use Rattle.std.proofs.lemmas.Bool.{cases_lt}
use Rattle.std.proofs.lemmas.List.{get_or-map, length-map}
use Rattle.std.proofs.lemmas.Simd.{get_or-chunk, get_or-put_chunk_at, get_or-put_chunk_below, length-chunk, length-put_chunk}

-- the first n places have what f makes of the bytes of the same places
pub record AreWritten (f : ℕ → ℕ) (n : ℕ) (bytes old now : List ℕ) : Type 0 where
  pub long : length now ≡ length old
  pub done : (k : ℕ) → k < n → get_or now k 0 ≡ f (get_or bytes k 0)

-- at first none
pub none_written : (f : ℕ → ℕ) (n : ℕ) (bytes old : List ℕ) → n ≡ 0 → AreWritten f n bytes old old
none_written f n bytes old none = record { long = refl; done = λ k below. absurd (omega (arith, none, below)) }

-- a block is written over places of which some may be done
module _ (f : ℕ → ℕ) (bytes old : List ℕ) (same : length bytes ≡ length old) (place width : ℕ) (room : place + width ≤ length old) where
  pub block_written : (n : ℕ) (now out : List ℕ) → place ≤ n → AreWritten f n bytes old now → out ≡ map f (chunk place width bytes)
      → AreWritten f (place + width) bytes old (put_chunk place now out)
  block_written n now out reach so_far is =
      record {
        long = length-put_chunk place now out ∙ so_far.long;
        done = λ k below.
            elim (cases_lt k place) [
              | inl before ↦ get_or-put_chunk_below place now out k 0 before ∙ so_far.done k (omega (arith, before, reach))
              | inr here ↦ new k here below
            ];
      }
    where
      part : length (chunk place width bytes) ≡ width
      part = length-chunk place width bytes (omega (arith, room, same))

      size : length out ≡ width
      size = ap length is ∙ length-map (chunk place width bytes) f ∙ part

      new : (k : ℕ) → place ≤ k → k < place + width → get_or (put_chunk place now out) k 0 ≡ f (get_or bytes k 0)
      new k here below =
          let at : place + (k - place) ≡ k = omega (arith, here) in
          let small : k - place < width = omega (arith, here, below) in
          let all = so_far.long in
          subst (λ (p : ℕ). get_or (put_chunk place now out) p 0 ≡ f (get_or bytes p 0)) at
          (get_or-put_chunk_at place now out (k - place) 0 (omega (arith, size, small)) (omega (arith, size, room, all))
          ∙ ap (λ (l : List ℕ). get_or l (k - place) 0) is
          ∙ get_or-map f (chunk place width bytes) (k - place) 0 0 (omega (arith, part, small))
          ∙ ap f (get_or-chunk place width bytes (k - place) 0 small))
