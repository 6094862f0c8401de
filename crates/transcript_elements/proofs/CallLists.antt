-- Lists of calls of a challenger that are made one after the other: the state that they leave, and their sayings.
use Rattle.std.proofs.Common.{◌≡◌, ◌<◌, ◌≤◌, ◌+◌, ◌-◌, ℕ, List, [], ◌∷◌, ◌++◌, add-one, ap, ap₂, arith, drop, get_or, length, refl, sym, take, ◌∙◌}
use Rattle.std.proofs.Math.Seq.{take-suc}
use Rattle.std.proofs.lemmas.Grind.{flat_map-append}
use Rattle.std.proofs.lemmas.List.{append-nil, append_assoc, map-append, take-append-drop}
use Rattle.transcripts.specs.ByteCalls.{after, squeezed, Transitions}
use Rattle.transcripts.proofs.Runs.{after-append, after_none, state_joined}
use Rattle.transcript_elements.specs.Calls.{saying_from, call_sayings, AppendsSayings, byte_calls, joined_calls, said}
use Rattle.transcript_elements.specs.declared.calls.Call.{Call}
use Rattle.transcript_elements.specs.declared.calls.Reply.{Reply}

module _ {F S : Type 0} (size width : ℕ) (repr : F → ℕ) (transitions : Transitions S) where
  -- an empty list of calls leaves the state
  pub nothing_called : (state : S) → state ≡ after transitions (joined_calls size repr []) state
  nothing_called state = sym (after_none transitions state)

  -- an empty list of calls has no replies
  pub nothing_replied : (old : List (Reply F)) (state : S)
      → AppendsSayings repr (call_sayings size width repr transitions [] state) old old
  unfolding call_sayings
  nothing_replied old state = ([], sym (append-nil old), refl)

  -- the first n + 1 calls are the first n and call n
  one_more_call : (calls : List (Call F)) (count : ℕ) (call default : Call F) → count < length calls → call ≡ get_or calls count default
      → take (count + 1) calls ≡ take count calls ++ call ∷ []
  one_more_call calls count call default inside is =
      ap (λ (k : ℕ). take k calls) (add-one count) ∙ take-suc calls count default inside ∙ ap (λ c. take count calls ++ c ∷ []) (sym is)

  -- call n stands between the first n calls and the rest
  pub call_apart : (calls : List (Call F)) (count : ℕ) (call default : Call F) → count < length calls → call ≡ get_or calls count default
      → calls ≡ take count calls ++ call ∷ drop (count + 1) calls
  call_apart calls count call default inside is =
      sym (take-append-drop (count + 1) calls)
      ∙ ap (λ front. front ++ drop (count + 1) calls) (one_more_call calls count call default inside is)
      ∙ append_assoc (take count calls) (call ∷ []) (drop (count + 1) calls)

  -- a loop that has made n calls and makes call n is in the state after n + 1 calls
  pub called_next : (calls : List (Call F)) (count : ℕ) (call default : Call F) (old now next : S) → count < length calls
      → call ≡ get_or calls count default
      → now ≡ after transitions (joined_calls size repr (take count calls)) old
      → next ≡ after transitions (byte_calls size repr call) now
      → next ≡ after transitions (joined_calls size repr (take (count + 1) calls)) old
  called_next calls count call default old now next inside is before step =
      let joined : joined_calls size repr (take (count + 1) calls) ≡ joined_calls size repr (take count calls) ++ byte_calls size repr call =
      ap (joined_calls size repr) (one_more_call calls count call default inside is)
      ∙ flat_map-append (byte_calls size repr) (take count calls) (call ∷ [])
      ∙ ap (λ more. joined_calls size repr (take count calls) ++ more) (append-nil (byte_calls size repr call)) in
      state_joined transitions (joined_calls size repr (take count calls)) (byte_calls size repr call) old now next before step
      ∙ ap (λ bytes. after transitions bytes old) (sym joined)

  -- the sayings of two joined lists are those of the first, and then those of the second from the state after the first
  sayings-append : (first second : List (Call F)) (state : S)
      → call_sayings size width repr transitions (first ++ second) state
      ≡ call_sayings size width repr transitions first state
      ++ call_sayings size width repr transitions second (after transitions (joined_calls size repr first) state)
  unfolding call_sayings
  sayings-append [] second state = ap (call_sayings size width repr transitions second) (nothing_called state)
  sayings-append (call ∷ calls) second state =
      let next = after transitions (byte_calls size repr call) state in
      ap (λ rest. saying_from width call (squeezed transitions (byte_calls size repr call) state) ∷ rest)
      (sayings-append calls second next
      ∙ ap (λ last. call_sayings size width repr transitions calls next ++ call_sayings size width repr transitions second last)
      (sym (after-append transitions (byte_calls size repr call) (joined_calls size repr calls) state)))

  -- .. and with the reply to call n it has appended the sayings of n + 1 calls
  pub replied_next : (calls : List (Call F)) (count : ℕ) (call default : Call F) (reply : Reply F) (old now : S)
      (before replies : List (Reply F)) → count < length calls → call ≡ get_or calls count default
      → now ≡ after transitions (joined_calls size repr (take count calls)) old
      → said repr reply ≡ saying_from width call (squeezed transitions (byte_calls size repr call) now)
      → AppendsSayings repr (call_sayings size width repr transitions (take count calls) old) before replies
      → AppendsSayings repr (call_sayings size width repr transitions (take (count + 1) calls) old) before (replies ++ reply ∷ [])
  unfolding call_sayings
  replied_next calls count call default reply old now before replies inside is run answered (made, are, say) = (
    made ++ reply ∷ [],
    ap (λ items. items ++ reply ∷ []) are ∙ append_assoc before made (reply ∷ []),
    map-append (said repr) made (reply ∷ [])
        ∙ ap₂ (λ first last. first ++ last ∷ []) say answered
        ∙ ap (λ state. call_sayings size width repr transitions (take count calls) old
        ++ call_sayings size width repr transitions (call ∷ []) state) run
        ∙ sym (sayings-append (take count calls) (call ∷ []) old)
        ∙ ap (λ list. call_sayings size width repr transitions list old) (sym (one_more_call calls count call default inside is)),
  )

-- with room for the replies to the other calls there is room for one
pub has_room : {index count len capacity : ℕ} → index < count → len + (count - index) ≤ capacity → len < capacity
has_room less room = omega arith

-- with one reply pushed there is room for those to the calls after it
pub room_left : {index count next capacity same : ℕ} (len : ℕ) → index < count → next ≡ len + 1 → same ≡ capacity
    → len + (count - index) ≤ capacity → next + (count - (index + 1)) ≤ same
room_left len less is kept room = omega arith
