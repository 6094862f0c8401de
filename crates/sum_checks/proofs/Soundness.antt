-- The polynomial of a round by a claim and a message, completeness and soundness: by induction on the challenges.
use Rattle.std.proofs.Common.{◌≡◌, ◌≢◌, ℕ, zero, suc, ◌-◌, ◌*◌, ◌^◌, ◌<◌, ◌≤◌, inl, inr, List, [], ◌∷◌, length, take, get_or, refl, sym, ◌∙◌, ap, ap₂, subst, arith}
use Rattle.std.specs.Prelude.{bit_xor, slice_index}
use Rattle.std.proofs.lemmas.Bool.{cases_lt}
use Rattle.std.proofs.lemmas.Bool.Decides.{eqb_tells}
use Rattle.std.proofs.lemmas.List.FromFn.{get_or-map-range_with_len, length-map-range_with_len}
use Rattle.std.proofs.lemmas.Nat.{xor_lt, xor_comm}
use Rattle.field_base.specs.Field.{IsField}
use Rattle.field_base.proofs.RingLemmas.{xor_cancel}
use Rattle.field_base.specs.Interpolation.{interpolated}
use Rattle.field_base.proofs.Interpolation.{interpolated-at, interpolated-is, interpolated-polynomial}
use Rattle.field_base.proofs.Polynomials.{IsPolynomial, polynomial-lt, polynomial-unique}
use Rattle.field_slices.specs.Multilinear.{folded, folded_all}
use Rattle.sum_checks.proofs.Rows.{cube_sum-halves, cube_sum-none, even-length, folded-fit, folded-values, honest-polynomial, rows-twice, terms_value-same}
use Rattle.sum_checks.specs.SumcheckClaims.{AreHonestMessages, AreMessages, FalseClaimsNeedLuck, FewChallengesSave, HonestReduces, IsClaimShape, IsSaved, honest_message, message_at, node_values, reduced_claim}
use Rattle.sum_checks.specs.Terms.{Product, cube_sum, honest_at, table_value, terms_value}

-- the nodes are different elements
identity-differs : (k : ℕ) (i j : ℕ) → i < k → j < k → i ≡ j → i ≡ j
identity-differs k i j i_below j_below same = same

-- ---- the polynomial of a message

module _ (width : ℕ) (times : ℕ → ℕ → ℕ) (field : IsField width times) (wide : 0 < width) where
  -- as many nodes as a message has values, and one
  nodes-length : (claim d : ℕ) (message : List ℕ) → 0 < d → length message ≡ d → length (node_values claim message) ≡ suc d
  nodes-length claim d [] some long = absurd (omega (arith, some, long))
  nodes-length claim d (v ∷ vs) some long = omega (arith, long)

  nodes-fit : (claim : ℕ) (message : List ℕ) → claim < 2 ^ width → ((i : ℕ) → slice_index message i < 2 ^ width)
      → (i : ℕ) → slice_index (node_values claim message) i < 2 ^ width
  nodes-fit claim [] claim_fits fits i = fits i
  nodes-fit claim (v ∷ vs) claim_fits fits zero = fits 0
  nodes-fit claim (v ∷ vs) claim_fits fits (suc zero) = xor_lt width claim v claim_fits (fits 0)
  nodes-fit claim (v ∷ vs) claim_fits fits (suc (suc i)) = fits (suc i)

  module _ (d : ℕ) (some : 0 < d) (room : suc d ≤ 2 ^ width) (claim : ℕ) (message : List ℕ) (long : length message ≡ d) where
    count : length (node_values claim message) ≡ suc d
    count = nodes-length claim d message some long

    below : (i : ℕ) → i < suc d → i < 2 ^ width
    below i inside = omega (arith, inside, room)

    -- with the number of nodes written as d + 1
    counted : (x : ℕ) → interpolated width times (λ i. i) (slice_index (node_values claim message)) (suc d) x
        ≡ message_at width times claim message x
    counted x = ap (λ (k : ℕ). interpolated width times (λ i. i) (slice_index (node_values claim message)) k x) (sym count)

    pub message-polynomial : IsPolynomial times (suc d) (message_at width times claim message)
    message-polynomial =
        subst (λ (k : ℕ). IsPolynomial times k (message_at width times claim message)) count
        (interpolated-polynomial width times field wide (λ i. i) (length (node_values claim message))
        (λ i inside. below i (subst (λ (k : ℕ). i < k) count inside)) (identity-differs (length (node_values claim message)))
        (slice_index (node_values claim message)))

    -- it is the polynomial of d + 1 coefficients that has the values at the nodes
    pub message-is : (f : ℕ → ℕ) → IsPolynomial times (suc d) f
        → ((i : ℕ) → i < suc d → slice_index (node_values claim message) i ≡ f i) → (x : ℕ) → message_at width times claim message x ≡ f x
    message-is f p through x =
        sym (counted x)
        ∙ interpolated-is width times field wide (λ i. i) (suc d) below (identity-differs (suc d)) f p (slice_index (node_values claim message)) through
        (λ i inside. subst (λ (v : ℕ). v < 2 ^ width) (sym (through i inside)) (polynomial-lt width times field.ring (suc d) f p i)) x

    module _ (claim_fits : claim < 2 ^ width) (fits : (i : ℕ) → slice_index message i < 2 ^ width) where
      at-node : (i : ℕ) → i < suc d → message_at width times claim message i ≡ slice_index (node_values claim message) i
      at-node i inside =
          sym (counted i)
          ∙ interpolated-at width times field wide (λ i. i) (suc d) below (identity-differs (suc d)) (slice_index (node_values claim message)) i inside
          (nodes-fit claim message claim_fits fits i)

      pub message-lt : (x : ℕ) → message_at width times claim message x < 2 ^ width
      message-lt x = polynomial-lt width times field.ring (suc d) (message_at width times claim message) message-polynomial x

      ends : (values : List ℕ) → length values ≡ d
          → bit_xor (slice_index (node_values claim values) 0) (slice_index (node_values claim values) 1) ≡ claim
      ends [] short = absurd (omega (arith, some, short))
      ends (v ∷ vs) is = ap (bit_xor v) (xor_comm claim v) ∙ xor_cancel v claim

      -- the values at 0 and 1 have the claim as their sum
      pub message-ends : bit_xor (message_at width times claim message 0) (message_at width times claim message 1) ≡ claim
      message-ends = ap₂ bit_xor (at-node 0 (omega arith)) (at-node 1 (omega (arith, some))) ∙ ends message long

-- ---- one round

-- what is left of a shape where the first coordinate is set
pub shape-folded : (width : ℕ) (times : ℕ → ℕ → ℕ) (terms : List Product) (count d n r : ℕ) (values : List ℕ)
    → IsClaimShape width times terms count d (suc n) values → IsClaimShape width times terms count d n (folded times r values)
shape-folded width times terms count d n r values shape = record {
  summed = shape.summed;
  size = even-length (2 ^ n * count) values (rows-twice count n values shape.size) times r;
  fits =
      folded-fit width times shape.summed.field.ring shape.summed.wide (2 ^ n * count) r values (rows-twice count n values shape.size) shape.fits;
}

module _ (width : ℕ) (times : ℕ → ℕ → ℕ) (terms : List Product) (count d n : ℕ) (values : List ℕ)
    (shape : IsClaimShape width times terms count d (suc n) values) where
  round-polynomial : IsPolynomial times (suc d) (honest_at times terms count n values)
  round-polynomial =
      honest-polynomial width times shape.summed.field.ring shape.summed.wide terms count shape.summed.within d n values shape.size shape.fits
      shape.summed.few

  halves : cube_sum times terms count (suc n) values ≡ bit_xor (honest_at times terms count n values 0) (honest_at times terms count n values 1)
  halves =
      cube_sum-halves width times shape.summed.field.ring shape.summed.wide terms count shape.summed.within n values shape.size shape.fits

  honest-length : length (honest_message times terms count n values d) ≡ d
  honest-length =
      let long = length-map-range_with_len (honest_at times terms count n values) 2 (d - 1) in
      let more = shape.summed.some in
      omega (arith, long, more)

  -- the honest message of a true claim has the values of the round's polynomial at the nodes
  honest-nodes : (claim : ℕ) → claim ≡ cube_sum times terms count (suc n) values → (i : ℕ) → i < suc d
      → slice_index (node_values claim (honest_message times terms count n values d)) i ≡ honest_at times terms count n values i
  honest-nodes claim true_claim zero inside = refl
  honest-nodes claim true_claim (suc zero) inside =
      ap (λ (c : ℕ). bit_xor c (honest_at times terms count n values 0)) (true_claim ∙ halves)
      ∙ xor_comm (bit_xor (honest_at times terms count n values 0) (honest_at times terms count n values 1)) (honest_at times terms count n values 0)
      ∙ xor_cancel (honest_at times terms count n values 0) (honest_at times terms count n values 1)
  honest-nodes claim true_claim (suc (suc i)) inside =
      get_or-map-range_with_len (honest_at times terms count n values) 2 (d - 1) i (suc (suc i)) 0 (omega (arith, inside)) (omega arith)

  honest-reduced : (claim : ℕ) (message : List ℕ) → claim ≡ cube_sum times terms count (suc n) values
      → message ≡ honest_message times terms count n values d → (x : ℕ)
      → message_at width times claim message x ≡ honest_at times terms count n values x
  honest-reduced claim message true_claim honest x =
      ap (λ (g : List ℕ). message_at width times claim g x) honest
      ∙ message-is width times shape.summed.field shape.summed.wide d shape.summed.some shape.summed.nodes claim
      (honest_message times terms count n values d) honest-length
      (honest_at times terms count n values) round-polynomial (honest-nodes claim true_claim) x

  -- of a false claim the polynomial is not the honest one
  pub false-differs : (claim : ℕ) (message : List ℕ) → claim < 2 ^ width → length message ≡ d → ((i : ℕ) → slice_index message i < 2 ^ width)
      → claim ≢ cube_sum times terms count (suc n) values
      → (x : ℕ) × (message_at width times claim message x ≢ honest_at times terms count n values x)
  false-differs claim message claim_fits long fits wrong =
      elim (eqb_tells (message_at width times claim message 0) (honest_at times terms count n values 0)) [
        | inl same ↦ (1, λ also. wrong (sym sums ∙ ap₂ bit_xor same.1 also ∙ sym halves))
        | inr other ↦ (0, other.1)
      ]
    where
      sums : bit_xor (message_at width times claim message 0) (message_at width times claim message 1) ≡ claim
      sums = message-ends width times shape.summed.field shape.summed.wide d shape.summed.some shape.summed.nodes claim message long claim_fits fits

-- ---- completeness

module _ (width : ℕ) (times : ℕ → ℕ → ℕ) (terms : List Product) (count d : ℕ) where
  -- the claim that is left, by what folding leaves
  left-over : (claim : ℕ) (values challenges : List ℕ) (messages : List (List ℕ))
      → IsClaimShape width times terms count d (length challenges) values → claim ≡ cube_sum times terms count (length challenges) values
      → AreHonestMessages times terms count d values messages challenges
      → reduced_claim width times claim messages challenges ≡ terms_value times terms (slice_index (folded_all times challenges values))
  unfolding reduced_claim AreHonestMessages folded_all
  left-over claim values [] [] shape true_claim honest =
      true_claim ∙ cube_sum-none width times shape.summed.field.ring shape.summed.wide terms count shape.summed.within values
  left-over claim values [] (g ∷ gs) shape true_claim honest = absurd honest
  left-over claim values (r ∷ rs) [] shape true_claim honest = absurd honest
  left-over claim values (r ∷ rs) (g ∷ gs) shape true_claim honest =
      left-over (message_at width times claim g r) (folded times r values) rs gs (shape-folded width times terms count d (length rs) r values shape)
      (honest-reduced width times terms count d (length rs) values shape claim g true_claim honest.0 r) honest.1

  pub at-point : (values challenges : List ℕ) → IsClaimShape width times terms count d (length challenges) values
      → terms_value times terms (slice_index (folded_all times challenges values)) ≡ terms_value times terms (table_value times count values challenges)
  at-point values challenges shape =
      terms_value-same times count terms (slice_index (folded_all times challenges values)) (table_value times count values challenges)
      shape.summed.within
      (folded-values width times shape.summed.field.ring shape.summed.wide count challenges values shape.size shape.fits)

pub honest_reduces : HonestReduces
honest_reduces width times terms count d claim values challenges messages shape true_claim honest =
    left-over width times terms count d claim values challenges messages shape true_claim honest
    ∙ at-point width times terms count d values challenges shape

-- ---- soundness

module _ (width : ℕ) (times : ℕ → ℕ → ℕ) (terms : List Product) (count d : ℕ) where
  -- a round that is saved after the first is saved among all
  saved-later : (claim r : ℕ) (values challenges g : List ℕ) (messages : List (List ℕ)) (k : ℕ)
      → IsSaved width times terms count (message_at width times claim g r) (folded times r values) challenges messages k
      → IsSaved width times terms count claim values (r ∷ challenges) (g ∷ messages) (suc k)
  unfolding reduced_claim folded_all
  saved-later claim r values challenges g messages k saved =
      let fewer : length challenges - suc k ≡ suc (length challenges) - suc (suc k) = omega arith in
      record {
        inside = omega (arith, saved.inside);
        point = saved.point;
        differs =
            subst (λ (n : ℕ).
            message_at width times (reduced_claim width times (message_at width times claim g r) (take k messages) (take k challenges))
            (get_or messages k []) saved.point
            ≢ honest_at times terms count n (folded_all times (take k challenges) (folded times r values)) saved.point) fewer saved.differs;
        agrees =
            subst (λ (n : ℕ).
            message_at width times (reduced_claim width times (message_at width times claim g r) (take k messages) (take k challenges))
            (get_or messages k []) (slice_index challenges k)
            ≡ honest_at times terms count n (folded_all times (take k challenges) (folded times r values)) (slice_index challenges k)) fewer
            saved.agrees;
      }

  saved-first : (claim r x : ℕ) (values challenges g : List ℕ) (messages : List (List ℕ))
      → message_at width times claim g x ≢ honest_at times terms count (length challenges) values x
      → message_at width times claim g r ≡ honest_at times terms count (length challenges) values r
      → IsSaved width times terms count claim values (r ∷ challenges) (g ∷ messages) 0
  unfolding reduced_claim folded_all
  saved-first claim r x values challenges g messages differs agrees =
      let fewer : length challenges ≡ suc (length challenges) - 1 = omega arith in
      record {
        inside = omega arith;
        point = x;
        differs = subst (λ (n : ℕ). message_at width times claim g x ≢ honest_at times terms count n values x) fewer differs;
        agrees = subst (λ (n : ℕ). message_at width times claim g r ≡ honest_at times terms count n values r) fewer agrees;
      }

  false-saved : (claim : ℕ) (values challenges : List ℕ) (messages : List (List ℕ))
      → IsClaimShape width times terms count d (length challenges) values → claim < 2 ^ width → AreMessages width d messages
      → length messages ≡ length challenges → claim ≢ cube_sum times terms count (length challenges) values
      → reduced_claim width times claim messages challenges ≡ terms_value times terms (slice_index (folded_all times challenges values))
      → (k : ℕ) × IsSaved width times terms count claim values challenges messages k
  unfolding reduced_claim folded_all AreMessages
  false-saved claim values [] [] shape claim_fits are same wrong reaches =
      absurd (wrong (reaches ∙ sym (cube_sum-none width times shape.summed.field.ring shape.summed.wide terms count shape.summed.within values)))
  false-saved claim values [] (g ∷ gs) shape claim_fits are same wrong reaches = absurd (omega (arith, same))
  false-saved claim values (r ∷ rs) [] shape claim_fits are same wrong reaches = absurd (omega (arith, same))
  false-saved claim values (r ∷ rs) (g ∷ gs) shape claim_fits are same wrong reaches =
      elim (eqb_tells (message_at width times claim g r) (honest_at times terms count (length rs) values r)) [
        | inl agrees ↦
            let apart = false-differs width times terms count d (length rs) values shape claim g claim_fits are.0 are.1 wrong in
            (0, saved-first claim r apart.0 values rs g gs apart.1 agrees.1)
        | inr other ↦
            let later =
            false-saved (message_at width times claim g r) (folded times r values) rs gs (shape-folded width times terms count d (length rs) r values shape)
            (message-lt width times shape.summed.field shape.summed.wide d shape.summed.some shape.summed.nodes claim g are.0 claim_fits are.1 r) are.2
            (omega (arith, same)) other.1
            reaches in
            (suc later.0, saved-later claim r values rs g gs later.0 later.1)
      ]

pub false_claims_need_luck : FalseClaimsNeedLuck
false_claims_need_luck width times terms count d claim values challenges messages shape claim_fits are same wrong reaches =
    false-saved width times terms count d claim values challenges messages shape claim_fits are same wrong
    (reaches ∙ sym (at-point width times terms count d values challenges shape))

pub few_challenges_save : FewChallengesSave
few_challenges_save width times terms count d n claim values message shape long x differs m point distinct agree =
    elim (cases_lt d m) [
      | inr few ↦ few
      | inl many ↦ absurd (differs (polynomial-unique width times shape.summed.field.ring shape.summed.field.inverses (suc d)
          (message_at width times claim message) (honest_at times terms count n values)
          (message-polynomial width times shape.summed.field shape.summed.wide d shape.summed.some shape.summed.nodes claim message long)
          (round-polynomial width times terms count d n values shape) point
          (λ i inside. distinct.below i (within i inside many)) (λ i j i_inside j_inside. distinct.differ i j (within i i_inside many) (within j j_inside many))
          (λ i inside. agree i (within i inside many)) x))
    ]
  where
    within : (i : ℕ) → i < suc d → d < m → i < m
    within i inside many = omega (arith, inside, many)
