-- Checking a witness: the state that it leaves, and whether the witness passes.
use Rattle.std.proofs.Common.{◌≡◌, ◌≢◌, ◌%◌, ◌^◌, ℕ, zero, suc, ap, refl, sym, ◌∙◌, nat_eq}
use Rattle.std.specs.Int.{from_le_bytes, w64}
use Rattle.transcripts.specs.ByteCalls.{after, IsPartlyRun, observing, sampling, squeezed_word, Transitions}
use Rattle.transcripts.proofs.Runs.{bytes_after_observing, after_none, partly_first, partly_second, state_joined}
use Rattle.field_bytes.specs.Bytes.{low_bytes}
use Rattle.transcript_elements.specs.Sampled.{check_calls, passes}

module _ {S : Type 0} (transitions : Transitions S) (size : ℕ) where
  -- checking for 0 bits leaves the state
  pub nothing_checked : (bits witness : ℕ) (state : S) → bits ≡ 0 → state ≡ after transitions (check_calls size bits witness) state
  nothing_checked zero witness state none = sym (after_none transitions state)
  nothing_checked (suc bits) witness state some = absurd (cc)

  -- observing the witness and then sampling a word leaves the state after the calls that check it
  pub state_checked : (bits witness : ℕ) (old now next : S) → bits ≢ 0
      → now ≡ after transitions (observing (low_bytes size witness)) old → next ≡ after transitions (sampling 8) now
      → next ≡ after transitions (check_calls size bits witness) old
  state_checked zero witness old now next some before last = absurd (some refl)
  state_checked (suc bits) witness old now next some before last =
      state_joined transitions (observing (low_bytes size witness)) (sampling 8) old now next before last

  -- the witness passes if the number that is sampled after it was observed is 0
  pub passes_checked : (bits witness number : ℕ) (old now : S) → bits ≢ 0
      → now ≡ after transitions (observing (low_bytes size witness)) old
      → number ≡ squeezed_word transitions (sampling 8) now % 2 ^ bits
      → nat_eq number 0 ≡ passes transitions size bits old witness
  passes_checked zero witness number old now some before is = absurd (some refl)
  passes_checked (suc bits) witness number old now some before is =
      ap (λ (n : ℕ). nat_eq n 0)
      (is ∙ ap (λ bytes. from_le_bytes w64 bytes % 2 ^ suc bits)
      (sym (bytes_after_observing transitions (low_bytes size witness) (sampling 8) old now before)))

  -- ---- a check that is refused

  module _ {C : Type 0} (state_of : C → S) (may_leave : C → C → Type 0) where
    -- where the witness was observed only partly, its check is partly run
    pub stops_observing : (bits witness : ℕ) (old : S) (now : C) → bits ≢ 0
        → IsPartlyRun transitions state_of may_leave (observing (low_bytes size witness)) old now
        → IsPartlyRun transitions state_of may_leave (check_calls size bits witness) old now
    stops_observing zero witness old now some partly = absurd (some refl)
    stops_observing (suc bits) witness old now some partly =
        partly_first transitions state_of may_leave (observing (low_bytes size witness)) (sampling 8) old now partly

    -- so it is where the witness was observed, and the word after it was sampled only partly
    pub stops_sampling : (bits witness : ℕ) (old now : S) (last : C) → bits ≢ 0
        → now ≡ after transitions (observing (low_bytes size witness)) old
        → IsPartlyRun transitions state_of may_leave (sampling 8) now last
        → IsPartlyRun transitions state_of may_leave (check_calls size bits witness) old last
    stops_sampling zero witness old now last some before partly = absurd (some refl)
    stops_sampling (suc bits) witness old now last some before partly =
        partly_second transitions state_of may_leave (observing (low_bytes size witness)) (sampling 8) old now last before partly
