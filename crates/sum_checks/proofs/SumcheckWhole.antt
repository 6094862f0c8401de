-- The whole of a proof by sum-check and of its verification.
use Rattle.std.proofs.Common.{◌≡◌, ◌↔◌, Bool, ℕ, ◌*◌, ◌^◌, ◌<◌, ◌≤◌, List, [], ◌∷◌, ◌++◌, length, map, sym, ◌∙◌, ap, subst, arith, lit<}
use Rattle.std.specs.Prelude.{IsTrue, min, slice_index}
use Rattle.std.proofs.Math.Nat.{max-le, min-le_left, min-le_right, pow-le-pow_right}
use Rattle.std.proofs.lemmas.List.{length-map, length-take}
use Rattle.field_base.specs.Field.{IsField}
use Rattle.field_base.proofs.Places.{numbers-lt}
use Rattle.field_slices.specs.Multilinear.{folded, folded_all}
use Rattle.transcripts.specs.Lists.{InTurn}
use Rattle.transcripts.specs.States.{GivesByState, LeadsByState}
use Rattle.sum_checks.proofs.Rows.{even-length, folded-values, rows-twice, terms_value-same}
use Rattle.sum_checks.proofs.Soundness.{honest_reduces}
use Rattle.sum_checks.proofs.Runs.{elements-same, messages-length, observed-same, turns-length, turns-same}
use Rattle.sum_checks.proofs.SumcheckSteps.{Proved, Verified}
use Rattle.sum_checks.proofs.TermSteps.{degree-most, degree-some}
use Rattle.sum_checks.specs.Products.{term_product}
use Rattle.sum_checks.specs.Sumcheck.{AreTurns, IsRunOf, Statement, messages_of, statement_numbers, statement_of}
use Rattle.sum_checks.specs.SumcheckClaims.{AreHonestMessages, IsClaimShape, reduced_claim}
use Rattle.sum_checks.specs.SumcheckRuns.{IsProofAndVerdict}
use Rattle.sum_checks.specs.declared.terms.Term.{Term}
use Rattle.sum_checks.specs.Terms.{AreWithin, Product, cube_sum, degree_of, table_value, terms_value}

-- no term over elements has more than four factors
pub degree-few : {F : Type 0} (repr : F → ℕ) (terms : List (Term F)) → degree_of (map (term_product repr) terms) ≤ 4
unfolding degree_of
degree-few repr [] = omega arith
degree-few repr (term ∷ terms) =
    max-le
    (let some = length-take (min term.count 4) term.factors in
    let fewer = min-le_left (min term.count 4) (length term.factors) in
    let four = min-le_right term.count 4 in
    omega (arith, some, fewer, four))
    (degree-few repr terms)

-- folding by every coordinate leaves a value of each polynomial
pub folded_all-length : (times : ℕ → ℕ → ℕ) (count : ℕ) (point values : List ℕ) → length values ≡ 2 ^ length point * count
    → length (folded_all times point values) ≡ count
unfolding folded_all
folded_all-length times count [] values size = let one : 2 ^ 0 * count ≡ count = omega arith in size ∙ one
folded_all-length times count (r ∷ rs) values size =
    folded_all-length times count rs (folded times r values)
    (even-length (2 ^ length rs * count) values (rows-twice count (length rs) values size) times r)

-- what folding has left is a value of each polynomial, that at the point
module _ {F : Type 0} (repr : F → ℕ) (times : ℕ → ℕ → ℕ) (count rounds : ℕ) (values left : List F) (point : List ℕ)
    (size : length values ≡ 2 ^ rounds * count) (long : length point ≡ rounds) (is : map repr left ≡ folded_all times point (map repr values)) where
  numbers : length (map repr values) ≡ 2 ^ length point * count
  numbers = length-map values repr ∙ size ∙ ap (λ (n : ℕ). 2 ^ n * count) (sym long)

  pub left-count : length left ≡ count
  left-count = sym (length-map left repr) ∙ ap length is ∙ folded_all-length times count point (map repr values) numbers

  pub left-values : (width : ℕ) → IsField width times → 0 < width → ((x : F) → repr x < 2 ^ width) → (j : ℕ) → j < count
      → slice_index (map repr left) j ≡ table_value times count (map repr values) point j
  left-values width field wide range j inside =
      ap (λ (ns : List ℕ). slice_index ns j) is
      ∙ folded-values width times field.ring wide count point (map repr values) numbers (numbers-lt repr width range values) j inside

module _ {C F : Type 0} (observes : C → F → C → Type 0) (gives : C → F → C → Type 0) (width : ℕ) (times : ℕ → ℕ → ℕ) (repr : F → ℕ) where
  -- what a verifier has read after the last round
  pub verified-run : (old begun new : C) (statement : Statement) (elements : List F) (claim rounds e d : ℕ) (values items final : List F)
      (last : ℕ) → items ≡ [] → map repr elements ≡ statement_numbers statement → InTurn observes elements old begun → e ≡ d
      → Verified observes gives width times repr e begun claim rounds values items final new last
      → IsRunOf observes gives repr old statement (messages_of d rounds values) final new
      × (last ≡ reduced_claim width times claim (map (map repr) (messages_of d rounds values)) (map repr final)) × (length final ≡ rounds)
  verified-run old begun new statement elements claim rounds e d values items final last none numbers observed same verified =
      let all : Verified observes gives width times repr d begun claim rounds values items final new last =
      subst (λ (n : ℕ). Verified observes gives width times repr n begun claim rounds values items final new last) same verified in
      let point : final ≡ all.0 = all.1 ∙ ap (λ (xs : List F). xs ++ all.0) none in
      let turns : AreTurns observes gives begun (messages_of d rounds values) final new =
      subst (λ (rs : List F). AreTurns observes gives begun (messages_of d rounds values) rs new) (sym point) all.2 in (
        (elements, begun, numbers, observed, turns),
        all.3 ∙ ap (λ (rs : List F). reduced_claim width times claim (map (map repr) (messages_of d rounds values)) (map repr rs)) (sym point),
        turns-length observes gives (messages_of d rounds values) final begun new turns ∙ messages-length d rounds values,
      )

  module _ (terms : List Product) (count d : ℕ) where
    -- what a prover has sent after the last round
    pub proved-run : (old begun new : C) (statement : Statement) (elements : List F) (rounds : ℕ) (values : List ℕ)
        (messages messages' point point' left : List F) → messages ≡ [] → point ≡ [] → map repr elements ≡ statement_numbers statement
        → InTurn observes elements old begun → Proved observes gives width times repr d terms count begun rounds values messages messages' point point' left new
        → IsRunOf observes gives repr old statement (messages_of d rounds messages') point' new
        × AreHonestMessages times terms count d values (map (map repr) (messages_of d rounds messages')) (map repr point')
        × (map repr left ≡ folded_all times (map repr point') values) × (length (map repr point') ≡ rounds) × (length messages' ≡ rounds * d)
    proved-run old begun new statement elements rounds values messages messages' point point' left no_messages no_point numbers observed proved =
        let sent : messages' ≡ proved.0 = proved.3 ∙ ap (λ (xs : List F). xs ++ proved.0) no_messages in
        let given : point' ≡ proved.1 = proved.4 ∙ ap (λ (xs : List F). xs ++ proved.1) no_point in
        let turns : AreTurns observes gives begun (messages_of d rounds messages') point' new =
        subst (λ (xs : List F). AreTurns observes gives begun (messages_of d rounds xs) point' new) (sym sent)
        (subst (λ (rs : List F). AreTurns observes gives begun (messages_of d rounds proved.0) rs new) (sym given) proved.7) in (
          (elements, begun, numbers, observed, turns),
          subst (λ (xs : List F). AreHonestMessages times terms count d values (map (map repr) (messages_of d rounds xs)) (map repr point')) (sym sent)
              (subst (λ (rs : List F). AreHonestMessages times terms count d values (map (map repr) (messages_of d rounds proved.0)) (map repr rs)) (sym given) proved.8),
          ap (map repr) proved.5 ∙ proved.9 ∙ ap (λ (rs : List F). folded_all times (map repr rs) values) (sym given),
          length-map point' repr ∙ turns-length observes gives (messages_of d rounds messages') point' begun new turns ∙ messages-length d rounds messages',
          ap length sent ∙ proved.6,
        )

  -- ---- both

  module _ {S : Type 0} (state : C → S) (observes_law : (value : F) → LeadsByState state (λ old new. observes old value new))
      (gives_law : GivesByState state gives) (field : IsField width times) (wide : 0 < width) (range : (x : F) → repr x < 2 ^ width)
      (same_law : (x y : F) → repr x ≡ repr y → x ≡ y) where
    -- An honest prover of a true claim, and a verifier whose transcript begins in the same state, and that reads the messages in another
    -- slice.
    module _ (old new other_old other_new : C) (statement : Statement) (terms : List Product) (count rounds claim last value : ℕ)
        (values : List F) (messages read point other_point left left_read : List F)
        (same : state old ≡ state other_old) (enough : 3 ≤ width) (few : degree_of terms ≤ 4) (within : AreWithin count terms)
        (size : length values ≡ 2 ^ rounds * count) (true_claim : claim ≡ cube_sum times terms count rounds (map repr values))
        (run : IsRunOf observes gives repr old statement (messages_of (degree_of terms) rounds messages) point new)
        (honest : AreHonestMessages times terms count (degree_of terms) (map repr values) (map (map repr) (messages_of (degree_of terms) rounds messages)) (map repr point))
        (over : (j : ℕ) → j < count → slice_index (map repr left) j ≡ table_value times count (map repr values) (map repr point) j)
        (is_read : read ≡ messages) (is_left : left_read ≡ left)
        (other_run : IsRunOf observes gives repr other_old statement (messages_of (degree_of terms) rounds read) other_point other_new)
        (is_last : last ≡ reduced_claim width times claim (map (map repr) (messages_of (degree_of terms) rounds read)) (map repr other_point))
        (is_value : value ≡ terms_value times terms (slice_index (map repr left_read))) where
      begun_same : state run.1 ≡ state other_run.1
      begun_same =
          observed-same observes gives state observes_law gives_law run.0 old run.1 other_old other_run.1 same run.3
          (subst (λ (xs : List F). InTurn observes xs other_old other_run.1)
          (elements-same repr same_law other_run.0 run.0 (other_run.2 ∙ sym run.2)) other_run.3)

      points : point ≡ other_point
      points =
          (turns-same observes gives state observes_law gives_law (messages_of (degree_of terms) rounds messages) point other_point run.1 new
          other_run.1 other_new begun_same run.4
          (subst (λ (xs : List F). AreTurns observes gives other_run.1 (messages_of (degree_of terms) rounds xs) other_point other_new) is_read other_run.4)).0

      long : length (map repr point) ≡ rounds
      long =
          length-map point repr ∙ turns-length observes gives (messages_of (degree_of terms) rounds messages) point run.1 new run.4
          ∙ messages-length (degree_of terms) rounds messages

      shape : IsClaimShape width times terms count (degree_of terms) (length (map repr point)) (map repr values)
      shape = record {
        summed = record {
          field = field;
          wide = wide;
          nodes = let power : 2 ^ 3 ≤ 2 ^ width = pow-le-pow_right (lit< tt) enough in omega (arith, power, few);
          some = degree-some terms;
          few = degree-most terms;
          within = within;
        };
        size = length-map values repr ∙ size ∙ ap (λ (n : ℕ). 2 ^ n * count) (sym long);
        fits = numbers-lt repr width range values;
      }

      last_is : last ≡ reduced_claim width times claim (map (map repr) (messages_of (degree_of terms) rounds messages)) (map repr point)
      last_is =
          is_last
          ∙ ap (λ (xs : List F). reduced_claim width times claim (map (map repr) (messages_of (degree_of terms) rounds xs)) (map repr other_point)) is_read
          ∙ ap (λ (rs : List F). reduced_claim width times claim (map (map repr) (messages_of (degree_of terms) rounds messages)) (map repr rs)) (sym points)

      value_is : value ≡ terms_value times terms (table_value times count (map repr values) (map repr point))
      value_is =
          is_value ∙ ap (λ (xs : List F). terms_value times terms (slice_index (map repr xs))) is_left
          ∙ terms_value-same times count terms (slice_index (map repr left)) (table_value times count (map repr values) (map repr point)) within over

      -- the verifier accepts
      accepted-whole : last ≡ value
      accepted-whole =
          last_is
          ∙ honest_reduces width times terms count (degree_of terms) claim (map repr values) (map repr point)
          (map (map repr) (messages_of (degree_of terms) rounds messages)) shape
          (true_claim ∙ ap (λ (n : ℕ). cube_sum times terms count n (map repr values)) (sym long)) honest
          ∙ sym value_is

      -- and it is in the challenges of the prover that it does
      proof-and-verdict : (accepted : Bool) → statement ≡ statement_of width times rounds count terms claim
          → length messages ≡ rounds * degree_of terms → IsTrue accepted ↔ (last ≡ value)
          → IsProofAndVerdict observes gives width times repr terms count rounds values old new other_old other_new accepted
      proof-and-verdict accepted is_statement sent decides =
          let stated : statement ≡ statement_of width times rounds count terms (cube_sum times terms count rounds (map repr values)) =
          is_statement ∙ ap (statement_of width times rounds count terms) true_claim in
          let final : last ≡ reduced_claim width times (cube_sum times terms count rounds (map repr values))
          (map (map repr) (messages_of (degree_of terms) rounds messages)) (map repr point) =
          last_is
          ∙ ap (λ (c : ℕ). reduced_claim width times c (map (map repr) (messages_of (degree_of terms) rounds messages)) (map repr point)) true_claim in
          record {
            messages = messages;
            challenges = point;
            count_of_messages = sent;
            proved = subst (λ (s : Statement). IsRunOf observes gives repr old s (messages_of (degree_of terms) rounds messages) point new) stated run;
            honest = honest;
            verified =
                subst (λ (s : Statement). IsRunOf observes gives repr other_old s (messages_of (degree_of terms) rounds messages) point other_new) stated
                (subst (λ (rs : List F). IsRunOf observes gives repr other_old statement (messages_of (degree_of terms) rounds messages) rs other_new) (sym points)
                (subst (λ (xs : List F). IsRunOf observes gives repr other_old statement (messages_of (degree_of terms) rounds xs) other_point other_new) is_read other_run));
            verdict = (λ holds. sym final ∙ decides.0 holds ∙ value_is, λ meets. decides.1 (final ∙ meets ∙ sym value_is));
          }

      pub proved-and-accepted : (accepted : Bool) → statement ≡ statement_of width times rounds count terms claim
          → length messages ≡ rounds * degree_of terms → IsTrue accepted ↔ (last ≡ value)
          → IsTrue accepted × IsProofAndVerdict observes gives width times repr terms count rounds values old new other_old other_new accepted
      proved-and-accepted accepted is_statement sent decides =
          (decides.1 accepted-whole, proof-and-verdict accepted is_statement sent decides)
