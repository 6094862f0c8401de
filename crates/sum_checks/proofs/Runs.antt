-- Runs of sum-check: how many messages and challenges they have, and two of them in transcripts of the same state.
use Rattle.std.proofs.Common.{◌≡◌, ℕ, zero, suc, List, [], ◌∷◌, length, map, drop, refl, sym, ◌∙◌, ap, ap₂, arith}
use Rattle.std.specs.Prelude.{slice_index}
use Rattle.transcripts.specs.Lists.{InTurn}
use Rattle.transcripts.specs.States.{GivesByState, LeadsByState}
use Rattle.sum_checks.specs.Sumcheck.{AreTurns, IsTurn, messages_of}

-- ---- sizes

-- values cut into n messages are n messages
pub messages-length : {F : Type 0} (d n : ℕ) (values : List F) → length (messages_of d n values) ≡ n
unfolding messages_of
messages-length d zero values = refl
messages-length d (suc n) values = ap suc (messages-length d n (drop d values))

module _ {C F : Type 0} (observes : C → F → C → Type 0) (gives : C → F → C → Type 0) where
  -- there is a challenge for each message
  pub turns-length : (gs : List (List F)) (rs : List F) (old new : C) → AreTurns observes gives old gs rs new → length rs ≡ length gs
  unfolding AreTurns
  turns-length [] [] old new turns = refl
  turns-length [] (r ∷ rs) old new turns = absurd turns
  turns-length (g ∷ gs) [] old new turns = absurd turns
  turns-length (g ∷ gs) (r ∷ rs) old new turns = ap suc (turns-length gs rs turns.0 new turns.2)

  -- ---- two runs that begin in one state

  module _ {S : Type 0} (state : C → S) (observes_law : (value : F) → LeadsByState state (λ old new. observes old value new))
      (gives_law : GivesByState state gives) where
    -- what is observed leads to the same state
    pub observed-same : (xs : List F) (old new other_old other_new : C) → state old ≡ state other_old → InTurn observes xs old new
        → InTurn observes xs other_old other_new → state new ≡ state other_new
    unfolding InTurn
    observed-same [] old new other_old other_new same is are = ap state is ∙ same ∙ sym (ap state are)
    observed-same (x ∷ xs) old new other_old other_new same is are =
        observed-same xs is.0 new are.0 other_new (observes_law x old is.0 other_old are.0 same is.1 are.1) is.2 are.2

    -- and one message to the same challenge
    pub turn-same : (old new other_old other_new : C) (g : List F) (r s : F) → state old ≡ state other_old
        → IsTurn observes gives old g r new → IsTurn observes gives other_old g s other_new → (r ≡ s) × (state new ≡ state other_new)
    turn-same old new other_old other_new g r s same is are =
        gives_law is.0 new are.0 other_new r s (observed-same g old is.0 other_old are.0 same is.1 are.1) is.2 are.2

    -- turns with the same messages have the same challenges, and end in the same state
    pub turns-same : (gs : List (List F)) (rs ss : List F) (old new other_old other_new : C) → state old ≡ state other_old
        → AreTurns observes gives old gs rs new → AreTurns observes gives other_old gs ss other_new
        → (rs ≡ ss) × (state new ≡ state other_new)
    unfolding AreTurns
    turns-same [] [] [] old new other_old other_new same is are = (refl, sym (ap state is) ∙ same ∙ ap state are)
    turns-same [] [] (s ∷ ss) old new other_old other_new same is are = absurd are
    turns-same [] (r ∷ rs) ss old new other_old other_new same is are = absurd is
    turns-same (g ∷ gs) [] ss old new other_old other_new same is are = absurd is
    turns-same (g ∷ gs) (r ∷ rs) [] old new other_old other_new same is are = absurd are
    turns-same (g ∷ gs) (r ∷ rs) (s ∷ ss) old new other_old other_new same is are =
        let first : (r ≡ s) × (state is.0 ≡ state are.0) = turn-same old is.0 other_old are.0 g r s same is.1 are.1 in
        let later = turns-same gs rs ss is.0 new are.0 other_new first.1 is.2 are.2 in
        (ap₂ (λ (x : F) (xs : List F). x ∷ xs) first.0 later.0, later.1)

-- elements with the same numbers are the same
pub elements-same : {F : Type 0} (repr : F → ℕ) → ((x y : F) → repr x ≡ repr y → x ≡ y) → (xs ys : List F) → map repr xs ≡ map repr ys → xs ≡ ys
elements-same repr same [] [] are = refl
elements-same repr same [] (y ∷ ys) are = let none = ap length are in absurd (omega (arith, none))
elements-same repr same (x ∷ xs) [] are = let none = ap length are in absurd (omega (arith, none))
elements-same repr same (x ∷ xs) (y ∷ ys) are =
    ap₂ (λ (z : _) (zs : List _). z ∷ zs) (same x y (ap (λ (ns : List ℕ). slice_index ns 0) are))
    (elements-same repr same xs ys (ap (λ (ns : List ℕ). drop 1 ns) are))
