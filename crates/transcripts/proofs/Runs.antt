-- Runs of byte calls: two lists joined, and one more call at the end. `after` is the state that calls leave, `squeezed` the bytes
-- that they sample.
use Rattle.std.proofs.Common.{◌≡◌, ◌<◌, ◌≤◌, ◌+◌, ℕ, zero, suc, List, [], ◌∷◌, ◌++◌, length, slice_index, take, refl, ap, sym, ◌∙◌, add-one, arith}
use Rattle.std.proofs.Math.Seq.{take-append-add}
use Rattle.std.proofs.lemmas.List.{length-append, length-replicate, take-append-le}
use Rattle.transcripts.specs.ByteCalls.{after, ByteCall, IsPartlyRun, Observe, observing, RunsJoin, Sample, sampling, squeezed, Transitions}

module _ {S : Type 0} (transitions : Transitions S) where
  -- the state after two lists of calls joined is that after the second, from the state after the first
  pub after-append : (first second : List ByteCall) (state : S)
      → after transitions (first ++ second) state
      ≡ after transitions second (after transitions first state)
  unfolding after
  after-append [] second state = refl
  after-append (Observe byte ∷ calls) second state = after-append calls second (transitions.observed state byte)
  after-append (Sample ∷ calls) second state = after-append calls second (transitions.sampled state).1

  -- two lists of calls joined sample the bytes of the first, and then those of the second from the state after the first
  pub squeezed-append : (first second : List ByteCall) (state : S)
      → squeezed transitions (first ++ second) state
      ≡ squeezed transitions first state
      ++ squeezed transitions second (after transitions first state)
  unfolding squeezed after
  squeezed-append [] second state = refl
  squeezed-append (Observe byte ∷ calls) second state = squeezed-append calls second (transitions.observed state byte)
  squeezed-append (Sample ∷ calls) second state =
      ap (λ bytes. (transitions.sampled state).0 ∷ bytes) (squeezed-append calls second (transitions.sampled state).1)

  -- the law of runs: both of the above
  pub runs_join : RunsJoin transitions
  runs_join = record { state = after-append; bytes = squeezed-append }

  -- no calls leave the state as it is
  pub after_none : (state : S) → after transitions [] state ≡ state
  unfolding after
  after_none state = refl

  -- no calls sample no bytes
  pub squeezed_none : (state : S) → squeezed transitions [] state ≡ []
  unfolding squeezed
  squeezed_none state = refl

  -- the state after n + 1 bytes were observed is that after n, with byte n observed
  after-observing : (bytes : List ℕ) (count : ℕ) (state : S) → count < length bytes
      → after transitions (take (suc count) (observing bytes)) state
      ≡ transitions.observed (after transitions (take count (observing bytes)) state) (slice_index bytes count)
  unfolding after
  after-observing [] count state below = absurd (omega (arith, below))
  after-observing (byte ∷ bytes) zero state below = refl
  after-observing (byte ∷ bytes) (suc count) state below =
      after-observing bytes count (transitions.observed state byte) (omega (arith, below))

  -- a loop that has observed n bytes and observes byte n has observed n + 1
  pub observed_next : (bytes : List ℕ) (count : ℕ) (old now next : S) → count < length bytes
      → now ≡ after transitions (take count (observing bytes)) old → next ≡ transitions.observed now (slice_index bytes count)
      → next ≡ after transitions (take (count + 1) (observing bytes)) old
  observed_next bytes count old now next below run step =
      rw (add-one count, after-observing bytes count old below, ← run) step

  -- the state after n + 1 samples is that after one more sample from the state after n
  after-sampling : (count : ℕ) (state : S)
      → after transitions (sampling (suc count)) state
      ≡ (transitions.sampled (after transitions (sampling count) state)).1
  unfolding after
  after-sampling zero state = refl
  after-sampling (suc count) state = after-sampling count (transitions.sampled state).1

  -- n + 1 samples give the bytes of n samples, and then the byte sampled from the state after them
  squeezed-sampling : (count : ℕ) (state : S)
      → squeezed transitions (sampling (suc count)) state
      ≡ squeezed transitions (sampling count) state
      ++ (transitions.sampled (after transitions (sampling count) state)).0 ∷ []
  unfolding squeezed after
  squeezed-sampling zero state = refl
  squeezed-sampling (suc count) state =
      ap (λ bytes. (transitions.sampled state).0 ∷ bytes) (squeezed-sampling count (transitions.sampled state).1)

  -- a loop that has sampled n bytes and samples another is in the state after n + 1 samples
  pub sampled_next : (count byte : ℕ) (old now next : S)
      → now ≡ after transitions (sampling count) old → transitions.sampled now ≡ (byte, next)
      → next ≡ after transitions (sampling (count + 1)) old
  sampled_next count byte old now next run step =
      rw (add-one count, after-sampling count old, ← run, step) refl

  -- .. and with that byte it has the bytes of n + 1 samples
  pub byte_sampled_next : (count byte : ℕ) (old now next : S) (bytes : List ℕ)
      → now ≡ after transitions (sampling count) old
      → bytes ≡ squeezed transitions (sampling count) old → transitions.sampled now ≡ (byte, next)
      → bytes ++ byte ∷ [] ≡ squeezed transitions (sampling (count + 1)) old
  byte_sampled_next count byte old now next bytes run before step =
      rw (add-one count, squeezed-sampling count old, ← run, step, ← before) refl

  -- the first calls of n samples are fewer samples
  take-sampling : (few count : ℕ) → few ≤ count → take few (sampling count) ≡ sampling few
  take-sampling zero count most = refl
  take-sampling (suc few) zero most = absurd (omega (arith, most))
  take-sampling (suc few) (suc count) most = ap (λ calls. Sample ∷ calls) (take-sampling few count (omega (arith, most)))

  -- n samples are partly run where, after fewer samples, a call was refused
  pub sampling_is_partly_run : {C : Type 0} (state_of : C → S) (may_leave : C → C → Type 0) (few count : ℕ) (old : S) (before now : C)
      → few < count → state_of before ≡ after transitions (sampling few) old → may_leave before now
      → IsPartlyRun transitions state_of may_leave (sampling count) old now
  sampling_is_partly_run state_of may_leave few count old before now fewer run leaves = (
    few,
    before,
    rw (length-replicate count Sample) fewer,
    rw (take-sampling few count (omega (arith, fewer))) run,
    leaves,
  )

  -- calls run from the state that others left end in the state after both lists joined
  pub state_joined : (first second : List ByteCall) (old now next : S) → now ≡ after transitions first old
      → next ≡ after transitions second now → next ≡ after transitions (first ++ second) old
  state_joined first second old now next before last = rw (after-append first second old, ← before) last

  -- observing samples no bytes
  squeezed-observing : (bytes : List ℕ) (state : S) → squeezed transitions (observing bytes) state ≡ []
  unfolding squeezed
  squeezed-observing [] state = refl
  squeezed-observing (byte ∷ bytes) state = squeezed-observing bytes (transitions.observed state byte)

  -- so calls that follow observations sample the same bytes as from the state after those
  pub bytes_after_observing : (bytes : List ℕ) (calls : List ByteCall) (old now : S)
      → now ≡ after transitions (observing bytes) old
      → squeezed transitions (observing bytes ++ calls) old ≡ squeezed transitions calls now
  bytes_after_observing bytes calls old now before =
      rw (squeezed-append (observing bytes) calls old, squeezed-observing bytes old, before) refl

  -- ---- lists of calls that are partly run

  module _ {C : Type 0} (state_of : C → S) (may_leave : C → C → Type 0) where
    -- where the first of two lists is partly run, so are both joined
    pub partly_first : (first second : List ByteCall) (old : S) (now : C)
        → IsPartlyRun transitions state_of may_leave first old now
        → IsPartlyRun transitions state_of may_leave (first ++ second) old now
    partly_first first second old now (count, before, fewer, run, leaves) =
        let long = length-append first second in (
          count,
          before,
          omega (arith, fewer, long),
          run ∙ ap (λ calls. after transitions calls old) (sym (take-append-le count first second (omega (arith, fewer)))),
          leaves,
        )

    -- where the second is partly run after the first, so are both joined
    pub partly_second : (first second : List ByteCall) (old now : S) (last : C) → now ≡ after transitions first old
        → IsPartlyRun transitions state_of may_leave second now last
        → IsPartlyRun transitions state_of may_leave (first ++ second) old last
    partly_second first second old now last begun (count, before, fewer, run, leaves) =
        let long = length-append first second in (
          length first + count,
          before,
          omega (arith, fewer, long),
          state_joined first (take count second) old now (state_of before) begun run
              ∙ ap (λ calls. after transitions calls old) (sym (take-append-add first second count)),
          leaves,
        )
