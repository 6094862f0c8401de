-- Lists whose places are multiplied a block of thirty-two at once.
use Rattle.std.proofs.Common.{◌≡◌, ℕ, ◌+◌, ◌-◌, ◌*◌, ◌<◌, ◌≤◌, ◌⊎◌, inl, inr, List, length, get_or, refl, sym, ◌∙◌, ap, ap₂, subst, arith}
use Rattle.std.specs.Simd.Lanes.{chunk, put_chunk, zip2}
use Rattle.std.proofs.lemmas.Bool.{cases_lt}
use Rattle.std.proofs.lemmas.Simd.{get_or-chunk, get_or-put_chunk_above, get_or-put_chunk_at, get_or-put_chunk_below, get_or-zip2, length-chunk, length-put_chunk, length-zip2}
use Rattle.many_words.specs.Places.{FirstHold}

module _ (f : ℕ → ℕ → ℕ) (ys old : List ℕ) (also : length ys ≡ length old) where
  -- what is wanted at a place
  abbrev pub product_at : ℕ → ℕ → ℕ
  product_at k d = f (get_or old k d) (get_or ys k d)

  -- at first none is multiplied
  pub none_multiplied : FirstHold (λ x. x) 0 product_at old old
  none_multiplied = record {
    long = refl;
    few = omega arith;
    done = λ k below d. absurd (omega (arith, below));
    kept = λ k past inside d. refl;
  }

  -- a block more
  pub block_multiplied : (block : ℕ) (now products : List ℕ) → 32 * block + 32 ≤ length now
      → products ≡ zip2 f (chunk (32 * block) 32 now) (chunk (32 * block) 32 ys) → FirstHold (λ x. x) (32 * block) product_at old now
      → FirstHold (λ x. x) (32 * (block + 1)) product_at old (put_chunk (32 * block) now products)
  block_multiplied block now products room is so_far = record {
    long = length-put_chunk n now products ∙ so_far.long;
    few = let long = so_far.long in omega (arith, long, room);
    done = λ k below d. pick k d (omega (arith, below)) (cases_lt k n);
    kept =
        λ k past inside d.
        get_or-put_chunk_above n now products k d (omega (arith, count, past)) ∙ so_far.kept k (omega (arith, past)) inside d;
  }
    where
      n : ℕ
      n = 32 * block

      first : length (chunk n 32 now) ≡ 32
      first = length-chunk n 32 now room

      second : length (chunk n 32 ys) ≡ 32
      second = let long = so_far.long in length-chunk n 32 ys (omega (arith, also, long, room))

      count : length products ≡ 32
      count = ap length is ∙ length-zip2 f (chunk n 32 now) (chunk n 32 ys) (first ∙ sym second) ∙ first

      pick : (k d : ℕ) → k < n + 32 → (k < n) ⊎ (n ≤ k) → get_or (put_chunk n now products) k d ≡ product_at k d
      pick k d below (inl before) = get_or-put_chunk_below n now products k d before ∙ so_far.done k before d
      pick k d below (inr here) =
          let place : n + (k - n) ≡ k = omega (arith, here) in
          let small : k - n < 32 = omega (arith, here, below) in
          let long = so_far.long in
          subst (λ (m : ℕ). get_or (put_chunk n now products) m d ≡ product_at m d) place
          (get_or-put_chunk_at n now products (k - n) d (omega (arith, count, small)) (omega (arith, count, room))
          ∙ ap (λ (l : List ℕ). get_or l (k - n) d) is
          ∙ get_or-zip2 f (chunk n 32 now) (chunk n 32 ys) (k - n) d d d (omega (arith, first, small)) (omega (arith, second, small))
          ∙ ap₂ f
          (get_or-chunk n 32 now (k - n) d small ∙ so_far.kept (n + (k - n)) (omega arith) (omega (arith, room, small, long)) d)
          (get_or-chunk n 32 ys (k - n) d small))
