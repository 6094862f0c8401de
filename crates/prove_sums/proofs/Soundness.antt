-- What accepted proofs of a sum of products of two tables show.
use Rattle.std.proofs.Common.{◌≡◌, ◌⊎◌, inl, inr, ℕ, zero, suc, ◌+◌, ◌-◌, ◌*◌, ◌/◌, ◌^◌, ◌<◌, ◌≤◌, List, [], ◌∷◌, ◌++◌, length, map, take, drop, get_or, refl, sym, ◌∙◌, ap, ap₂, subst, arith, lit≤}
use Rattle.std.specs.Prelude.{Bool, slice_index}
use Rattle.std.proofs.lemmas.Bool.Decides.{eqb_tells}
use Rattle.std.proofs.lemmas.List.{drop-map, get_or-drop, get_or-take, length-append, length-drop, length-map, length-take, length-take-le, map-append, take-append-drop, take-map}
use Rattle.std.proofs.lemmas.Nat.{pow-add}
use Rattle.field_base.specs.Field.{IsField}
use Rattle.field_base.proofs.Places.{numbers-lt}
use Rattle.field_bytes.specs.Streams.{joined_bytes}
use Rattle.field_slices.specs.Multilinear.{multilinear_value}
use Rattle.transcripts.specs.Commitments.{row_at}
use Rattle.transcripts.specs.MerkleTrees.{HaveDigestSize}
use Rattle.sum_checks.specs.Sumcheck.{messages_of}
use Rattle.sum_checks.specs.SumcheckClaims.{AreMessages, FalseClaimsNeedLuck, IsClaimShape, IsSaved, reduced_claim}
use Rattle.sum_checks.specs.Terms.{cube_sum}
use Rattle.sum_checks.specs.ZeroCheck.{IsRootAt}
use Rattle.sum_checks.proofs.Runs.{messages-length}
use Rattle.protocols.specs.JointTables.{HoldTables, IsLeastCube, OpenedTablesNeedLuck, OpensBytes, OpensTables, ShowsTables, sent_column}
use Rattle.protocols.specs.JointTables.{table_at, value_differences}
use Rattle.protocols.specs.OpenedTables.{AreColumnsOf, CommitsTo}
use Rattle.protocols.specs.RootColumns.{AreAccepted, HasSent, HaveOtherColumns, RootsHoldColumns, SentColumns, column_bytes}
use Rattle.protocols.specs.SoundnessErrors.{sent_messages}
use Rattle.protocols.specs.Tables.{AgreesAt}
use Rattle.protocols.proofs.OpenedColumns.{column-long, number-bytes}
use Rattle.protocols.proofs.ProofBytes.{length-proof}
use Rattle.protocols.proofs.StackedTables.{stacked-same}
use Rattle.protocols.proofs.TableOpenings.{opens-same}
use Rattle.protocols.specs.CommitmentScheme.{matrix_rows, row_levels, word_levels}
use Rattle.protocols.specs.ProductSums.{interleaved, product_terms}
use Rattle.protocols.proofs.ProductSums.{messages-are, tables-shape, values-product}
use Rattle.prove_sums.specs.Shapes.{columns_in, columns_size, element_count, messages_in, nodes_in, row_in, row_size, sent_in, sum_in, values_in}
use Rattle.prove_sums.specs.ProofFiles.{file_bytes}
use Rattle.prove_sums.specs.Soundness.{AcceptedFile, AcceptedProof, ElementsAreRun, ElementsShowSum, FilesShowSums, HasPoints, HaveColumns, RootsShowSums, ShowsSum}
use Rattle.prove_sums.specs.Soundness.{SumsAreProved, SumsNeedLuck, both_differences, sent_columns}
use Rattle.prove_sums.specs.SoundnessErrors.{both_columns, joint_column}
use Rattle.prove_sums.specs.Verdicts.{IsProductOf, checks_number, gives_number, observes_number, passes_number, samples_bits, word_times, word_vector}

-- ---- of columns

-- Messages that leave the product of two values as the claim, and what is shown of the columns of two tables.
module _ (false_claims : FalseClaimsNeedLuck) (width : ℕ) (times : ℕ → ℕ → ℕ) (vector : ℕ → ℕ) (wide : 2 ≤ width) (field : IsField width times)
    (k r e : ℕ) (left right : ℕ → List ℕ) (sum : ℕ) (messages : List (List ℕ)) (combining values first others row places : List ℕ)
    (single : length combining ≡ 1) (long : length others ≡ k) (sum_fits : sum < 2 ^ width) (are : AreMessages width 2 messages)
    (same_length : length messages ≡ length (first ++ others))
    (reduced : reduced_claim width times sum messages (first ++ others) ≡ times (slice_index values 0) (slice_index values 1)) where
  corners : 2 ^ length first * 2 ^ k ≡ 2 ^ length (first ++ others)
  corners = sym (ap (λ (v : ℕ). 2 ^ v) (length-append first others ∙ ap (λ (v : ℕ). length first + v) long) ∙ pow-add 2 (length first) k)

  -- what holds of the sum, of two tables
  abbrev Told : List ℕ → List ℕ → Type 0
  Told one other =
      (sum ≡ cube_sum times product_terms 2 (length (first ++ others)) (interleaved one other))
      ⊎ ((j : ℕ) × IsSaved width times product_terms 2 sum (interleaved one other) (first ++ others) messages j)
      ⊎ ((j : ℕ) × IsRootAt times (both_differences times values one other (first ++ others)) combining j)

  claimed : (one other : List ℕ) → CommitsTo width times vector k r e (2 ^ length first) left one
      → CommitsTo width times vector k r e (2 ^ length first) right other
      → slice_index values 0 ≡ multilinear_value times one (first ++ others) → slice_index values 1 ≡ multilinear_value times other (first ++ others)
      → Told one other
  claimed one other a b one_is other_is =
      elim (eqb_tells sum (cube_sum times product_terms 2 (length (first ++ others)) (interleaved one other))) [
        | inl same ↦ inl same.1
        | inr differs ↦ inr (inl (false_claims width times product_terms 2 2 sum (interleaved one other) (first ++ others) messages
            shape sum_fits are same_length differs.1
            (reduced ∙ ap₂ times one_is other_is
            ∙ sym (values-product width times field.ring one other (first ++ others) whole (b.size ∙ sym a.size)))))
      ]
    where
      whole : length one ≡ 2 ^ length (first ++ others)
      whole = a.size ∙ corners

      shape : IsClaimShape width times product_terms 2 2 (length (first ++ others)) (interleaved one other)
      shape = tables-shape width times wide field (length (first ++ others)) one other whole (b.size ∙ sym a.size) a.fits b.fits

  -- the table of one of the roots
  abbrev one_of : List ℕ → ℕ → List ℕ
  one_of tables i = table_at (length (first ++ others)) tables i

  told : (tables : List ℕ)
      → HoldTables width times vector k r e (2 ^ length first) 2 (both_columns left right) combining values (first ++ others) tables
      → Told (one_of tables 0) (one_of tables 1)
  told tables held = pick held.evaluates
    where
      differences : value_differences times (length combining) values tables (first ++ others)
          ≡ both_differences times values (one_of tables 0) (one_of tables 1) (first ++ others)
      differences = ap (λ (l : ℕ). value_differences times l values tables (first ++ others)) single

      pick : ((i : ℕ) → i < 2 → slice_index values i ≡ multilinear_value times (one_of tables i) (first ++ others))
          ⊎ ((j : ℕ) × IsRootAt times (value_differences times (length combining) values tables (first ++ others)) combining j)
          → Told (one_of tables 0) (one_of tables 1)
      pick (inl each) =
          claimed (one_of tables 0) (one_of tables 1) (held.commits 0 (omega arith)) (held.commits 1 (omega arith)) (each 0 (omega arith))
          (each 1 (omega arith))
      pick (inr (j, root)) = inr (inr (j, subst (λ (l : List ℕ). IsRootAt times l combining j) differences root))

  pub sum-shown : ShowsTables width times vector k r e 2 (both_columns left right) combining values first others row places
      → ShowsSum width times vector k r e left right sum messages combining values first others row places
  sum-shown (inr lucky) = inr lucky
  sum-shown (inl (tables, commits, held)) =
      inl (one_of tables 0, one_of tables 1, held.commits 0 (omega arith), held.commits 1 (omega arith), told tables held)

pub sums_need_luck : FalseClaimsNeedLuck → OpenedTablesNeedLuck → SumsNeedLuck
sums_need_luck false_claims opened width times vector wide field vectors fit k r e left right sum messages combining values first others row places few
    radius single long left_fits right_fits sum_fits are same_length values_fit reduced agrees evaluates =
    sum-shown false_claims width times vector wide field k r e left right sum messages combining values first others row places single long sum_fits
    are same_length reduced
    (opened width times vector (omega (arith, wide)) field vectors fit k r e 2 (both_columns left right) combining values first others row places few
    radius long room values_fit fits agrees evaluates)
  where
    room : 2 ≤ 2 ^ length combining
    room = subst (λ (l : ℕ). 2 ≤ 2 ^ l) (sym single) (lit≤ tt)

    fits : (i : ℕ) → i < 2 → AreColumnsOf width (2 ^ r * 2 ^ k) (both_columns left right i)
    fits zero below = left_fits
    fits (suc i) below = right_fits

-- ---- parts of a proof

-- a prover that sends messages whatever the challenges are sends these
sent-always : (messages : List (List ℕ)) (point : List ℕ) → length messages ≡ length point
    → sent_messages (λ past. get_or messages (length past) []) point ≡ messages
unfolding sent_messages
sent-always [] [] same = refl
sent-always [] (r ∷ rs) same = absurd (omega (arith, same))
sent-always (g ∷ gs) [] same = absurd (omega (arith, same))
sent-always (g ∷ gs) (r ∷ rs) same = ap (λ (l : List (List ℕ)). g ∷ l) (sent-always gs rs (omega (arith, same)))

-- digests of a part have the size of all
part-digests : (digest from size : ℕ) (nodes : List (List ℕ)) → HaveDigestSize digest nodes → HaveDigestSize digest (take size (drop from nodes))
part-digests digest from size nodes all k below =
    let front = length-take size (drop from nodes) in
    let back = length-drop from nodes in
    let inside : k < size = omega (arith, front, below) in
    let within : from + k < length nodes = omega (arith, front, back, below) in
    ap length (get_or-take size (drop from nodes) k [] inside ∙ get_or-drop from nodes k []) ∙ all (from + k) within

-- ---- of proofs

-- the least cube with a corner for each of two tables has one coordinate
one-level : (levels : ℕ) → IsLeastCube 2 levels → levels ≡ 1
one-level zero cube = absurd (let room = cube.room in omega (arith, room))
one-level (suc zero) cube = refl
one-level (suc (suc levels)) cube = absurd (let less = cube.least 1 (omega arith) in omega (arith, less))

module _ {C F : Type 0} (observes : C → F → C → Type 0) (gives : C → F → C → Type 0) (passing : C → ℕ → ℕ → Bool)
    (checks : C → ℕ → ℕ → C → Type 0) (gives_bits : C → ℕ → ℕ → C → Type 0) (number repr : F → ℕ) (size width : ℕ) (times : ℕ → ℕ → ℕ)
    (vector : ℕ → ℕ) (points : HasPoints repr size width times vector) (hold : RootsHoldColumns) (luck : SumsNeedLuck)
    (hash : List ℕ → List ℕ) (digest : ℕ) (digests : (bytes : List ℕ) → length (hash bytes) ≡ digest) (m n e : ℕ) (left right : List ℕ)
    (wide : 2 ≤ width) (deep : word_levels m n ≤ width) (radius : 2 * e + 2 ^ row_levels m n ≤ 2 ^ 2 * 2 ^ row_levels m n) where
  abbrev Proof : Type 0
  Proof = AcceptedProof observes gives passing checks gives_bits number repr size width times vector hash digest m n left right

  opens : (p : Proof) → OpensTables hash repr size width times vector m n (left ∷ right ∷ []) (sent_in number m n p.elements p.nodes)
      p.verdict.opened.challenges p.verdict.point p.verdict.opened.places
  opens p = (p.verdict.opened.decided.0 (p.verdict.decided.0 refl).0).1

  abbrev height : ℕ
  height = 2 ^ matrix_rows m n

  abbrev sent : ℕ → Proof → SentColumns
  sent which p = sent_columns repr m n which p.elements p.nodes p.verdict.opened.places

  -- the columns of table 0 or 1 are accepted under its root
  accepted : (which : ℕ) (root : List ℕ) (p : Proof)
      → OpensBytes hash repr size (word_levels m n) height p.verdict.opened.places root (columns_in m n which p.elements) (nodes_in which p.nodes)
      → AreAccepted hash digest size width (word_levels m n) height root (sent which p)
  accepted which root p opened = record {
    digests = part-digests digest (which * (length p.nodes / 2)) (length p.nodes / 2) p.nodes p.digests;
    heights = λ k below.
        length-map (row_at height (columns_in m n which p.elements) k) repr
        ∙ column-long (length p.verdict.opened.places) height (columns_in m n which p.elements) k opened.count below;
    fits = λ k below. numbers-lt repr width points.range (row_at height (columns_in m n which p.elements) k);
    opened =
        opens-same hash (word_levels m n) root p.verdict.opened.places
        (λ k. joined_bytes size repr (row_at height (columns_in m n which p.elements) k)) (column_bytes size (sent which p)) (nodes_in which p.nodes)
        (λ k below. number-bytes size repr (row_at height (columns_in m n which p.elements) k)) opened.opened;
  }

  left-accepted : (p : Proof) → AreAccepted hash digest size width (word_levels m n) height left (sent 0 p)
  left-accepted p = accepted 0 left p ((opens p).opened 0 (omega arith))

  right-accepted : (p : Proof) → AreAccepted hash digest size width (word_levels m n) height right (sent 1 p)
  right-accepted p = accepted 1 right p ((opens p).opened 1 (omega arith))

  -- the claim that the messages leave is the product of both values
  product : (p : Proof) → IsProductOf repr times (values_in n p.elements) p.verdict.claim
  product p = (p.verdict.decided.0 refl).1

  -- ---- what is sent

  abbrev messages : Proof → List (List ℕ)
  messages p = map (map repr) (messages_of 2 n (messages_in n p.elements))

  messages-long : (p : Proof) → length (messages p) ≡ n
  messages-long p = length-map (messages_of 2 n (messages_in n p.elements)) (map repr) ∙ messages-length 2 n (messages_in n p.elements)

  part-long : (p : Proof) → length (messages_in n p.elements) ≡ n * 2
  part-long p =
      let behind = length-drop 1 p.elements in
      let room : 2 * n ≤ length (drop 1 p.elements) =
      enough (row_size m n) (columns_size m n) (length p.elements) (length (drop 1 p.elements)) p.count behind in
      length-take-le (2 * n) (drop 1 p.elements) room ∙ omega arith
    where
      enough : (r s all left : ℕ) → all ≡ 2 * n + 4 + r + 2 * s → left ≡ all - 1 → 2 * n ≤ left
      enough r s all left is behind = omega (arith, is, behind)

  abbrev first : Proof → List ℕ
  first p = map repr (take (matrix_rows m n) p.verdict.point)

  abbrev others : Proof → List ℕ
  others p = map repr (drop (matrix_rows m n) p.verdict.point)

  whole-point : (p : Proof) → first p ++ others p ≡ map repr p.verdict.point
  whole-point p =
      sym (map-append repr (take (matrix_rows m n) p.verdict.point) (drop (matrix_rows m n) p.verdict.point))
      ∙ ap (map repr) (take-append-drop (matrix_rows m n) p.verdict.point)

  first-long : (p : Proof) → length (first p) ≡ matrix_rows m n
  first-long p =
      let long = p.verdict.reduced.challenge_count in
      length-map (take (matrix_rows m n) p.verdict.point) repr ∙ length-take-le (matrix_rows m n) p.verdict.point (omega (arith, long))

  single : (p : Proof) → length (map repr p.verdict.opened.challenges) ≡ 1
  single p = length-map p.verdict.opened.challenges repr ∙ one-level (length p.verdict.opened.challenges) p.verdict.opened.combined.cube

  -- the row agrees with functions of columns that have those that are opened
  agreed : (one other : ℕ → List ℕ) (p : Proof)
      → ((k : ℕ) → k < length p.verdict.opened.places
      → map repr (row_at height (columns_in m n 0 p.elements) k) ≡ one (slice_index p.verdict.opened.places k))
      → ((k : ℕ) → k < length p.verdict.opened.places
      → map repr (row_at height (columns_in m n 1 p.elements) k) ≡ other (slice_index p.verdict.opened.places k))
      → AgreesAt width times vector (row_levels m n) 2 (map repr p.verdict.opened.challenges ++ first p) (map repr (row_in m n p.elements))
      p.verdict.opened.places (λ k. joint_column height one other (slice_index p.verdict.opened.places k))
  agreed one other p one_same other_same = let held = (opens p).agrees in record {
    word = held.word;
    code_word = held.code_word;
    begins = held.begins;
    below = held.below;
    agrees = λ k below.
        ap (λ (l : List ℕ). multilinear_value times l (map repr p.verdict.opened.challenges ++ first p))
        (sym (stacked-same 2 (2 ^ matrix_rows m n)
        (sent_column repr (2 ^ matrix_rows m n) (columns_in m n 0 p.elements ∷ columns_in m n 1 p.elements ∷ [])) (both_columns one other) k
        (slice_index p.verdict.opened.places k) (λ i inside. same i inside k below)))
        ∙ held.agrees k below;
  }
    where
      same : (i : ℕ) → i < 2 → (k : ℕ) → k < length p.verdict.opened.places
          → map repr (row_at height (get_or (columns_in m n 0 p.elements ∷ columns_in m n 1 p.elements ∷ []) i []) k)
          ≡ both_columns one other i (slice_index p.verdict.opened.places k)
      same zero inside k below = one_same k below
      same (suc zero) inside k below = other_same k below
      same (suc (suc i)) inside k below = absurd (omega (arith, inside))

  shows : (one other : ℕ → List ℕ) → AreColumnsOf width (2 ^ 2 * 2 ^ row_levels m n) one → AreColumnsOf width (2 ^ 2 * 2 ^ row_levels m n) other
      → (p : Proof)
      → ((k : ℕ) → k < length p.verdict.opened.places
      → map repr (row_at height (columns_in m n 0 p.elements) k) ≡ one (slice_index p.verdict.opened.places k))
      → ((k : ℕ) → k < length p.verdict.opened.places
      → map repr (row_at height (columns_in m n 1 p.elements) k) ≡ other (slice_index p.verdict.opened.places k))
      → ElementsShowSum repr width times vector m n e one other p.elements p.verdict.point p.verdict.opened.challenges p.verdict.opened.places
  shows one other one_fits other_fits p one_same other_same =
      luck width times vector wide points.field points.vectors points.fit (row_levels m n) 2 e one other (sum_in repr p.elements) (messages p)
      (map repr p.verdict.opened.challenges) (map repr (values_in n p.elements)) (first p) (others p) (map repr (row_in m n p.elements))
      p.verdict.opened.places deep radius (single p) others_long one_fits other_fits (numbers-lt repr width points.range p.elements 0)
      (messages-are repr width n points.range (messages_in n p.elements) (part-long p)) same_length
      (numbers-lt repr width points.range (values_in n p.elements)) reduced
      (subst (λ (h : ℕ). AgreesAt width times vector (row_levels m n) 2 (map repr p.verdict.opened.challenges ++ first p)
      (map repr (row_in m n p.elements)) p.verdict.opened.places (λ k. joint_column (2 ^ h) one other (slice_index p.verdict.opened.places k)))
      (sym (first-long p)) (agreed one other p one_same other_same)) (opens p).evaluates
    where
      others_long : length (others p) ≡ row_levels m n
      others_long =
          length-map (drop (matrix_rows m n) p.verdict.point) repr ∙ length-drop (matrix_rows m n) p.verdict.point
          ∙ ap (λ (v : ℕ). v - matrix_rows m n) p.verdict.reduced.challenge_count

      same_length : length (messages p) ≡ length (first p ++ others p)
      same_length =
          messages-long p ∙ sym (ap length (whole-point p) ∙ length-map p.verdict.point repr ∙ p.verdict.reduced.challenge_count)

      reduced : reduced_claim width times (sum_in repr p.elements) (messages p) (first p ++ others p)
          ≡ times (slice_index (map repr (values_in n p.elements)) 0) (slice_index (map repr (values_in n p.elements)) 1)
      reduced =
          ap (reduced_claim width times (sum_in repr p.elements) (messages p)) (whole-point p) ∙ sym p.verdict.reduced.left ∙ product p

  runs : (one other : ℕ → List ℕ) (p : Proof)
      → ((k : ℕ) → k < length p.verdict.opened.places
      → map repr (row_at height (columns_in m n 0 p.elements) k) ≡ one (slice_index p.verdict.opened.places k))
      → ((k : ℕ) → k < length p.verdict.opened.places
      → map repr (row_at height (columns_in m n 1 p.elements) k) ≡ other (slice_index p.verdict.opened.places k))
      → ElementsAreRun repr width times vector m n one other p.elements p.verdict.point p.verdict.opened.challenges p.verdict.opened.places
  runs one other p one_same other_same = record {
    reduced =
        ap (λ (l : List (List ℕ)). reduced_claim width times (sum_in repr p.elements) l (map repr p.verdict.point))
        (sent-always (messages p) (map repr p.verdict.point)
        (messages-long p ∙ sym (length-map p.verdict.point repr ∙ p.verdict.reduced.challenge_count)))
        ∙ sym p.verdict.reduced.left ∙ product p;
    agrees =
        subst (λ (l : List ℕ). AgreesAt width times vector (row_levels m n) 2 (map repr p.verdict.opened.challenges ++ l)
        (map repr (row_in m n p.elements)) p.verdict.opened.places
        (λ k. joint_column (2 ^ matrix_rows m n) one other (slice_index p.verdict.opened.places k)))
        (sym (take-map repr (matrix_rows m n) p.verdict.point)) (agreed one other p one_same other_same);
    evaluates =
        (opens p).evaluates
        ∙ ap (multilinear_value times (map repr (row_in m n p.elements))) (sym (drop-map repr (matrix_rows m n) p.verdict.point));
  }

  module _ (count : ℕ) (proof : ℕ → Proof) where
    abbrev Held : ℕ → Type 0
    Held which = HaveColumns width (2 ^ 2 * 2 ^ row_levels m n) count (λ i. sent which (proof i))

    abbrev Other : ℕ → List ℕ → Type 0
    Other which root = HaveOtherColumns hash size (word_levels m n) root count (λ i. sent which (proof i))

    held : (which : ℕ) (root : List ℕ) → ((p : Proof) → AreAccepted hash digest size width (word_levels m n) height root (sent which p))
        → Held which ⊎ Other which root
    held which root opened =
        within
        (hold hash digest digests size width (word_levels m n) height root points.room count (λ i. sent which (proof i)) (λ i below. opened (proof i)))
      where
        within : ((column : ℕ → List ℕ) × ((p i : ℕ) → slice_index (column p) i < 2 ^ width) × HasSent count (λ i. sent which (proof i)) column)
            ⊎ Other which root → Held which ⊎ Other which root
        within (inl found) = inl (found.0, (λ p i below. found.1 p i), found.2)
        within (inr collision) = inr collision

    abbrev Shown : Type 0
    Shown = RootsShowSums repr hash size width times vector m n e left right count (λ i. (proof i).elements) (λ i. (proof i).nodes)
        (λ i. (proof i).verdict.point) (λ i. (proof i).verdict.opened.challenges) (λ i. (proof i).verdict.opened.places)

    pub proofs-show : Shown
    proofs-show = join (held 0 left left-accepted) (held 1 right right-accepted)
      where
        join : Held 0 ⊎ Other 0 left → Held 1 ⊎ Other 1 right → Shown
        join (inr collision) other = inr (inl collision)
        join (inl one) (inr collision) = inr (inr collision)
        join (inl one) (inl other) =
            inl (
              one,
              other,
              λ a b a_fits b_fits a_has b_has i below. (
                shows a b a_fits b_fits (proof i) (λ k inside. a_has i k below inside) (λ k inside. b_has i k below inside),
                runs a b (proof i) (λ k inside. a_has i k below inside) (λ k inside. b_has i k below inside),
              ),
            )

pub sums_are_proved : {C F : Type 0} (observes gives : C → F → C → Type 0) (passing : C → ℕ → ℕ → Bool) (checks : C → ℕ → ℕ → C → Type 0)
    (gives_bits : C → ℕ → ℕ → C → Type 0) (number repr : F → ℕ) (size width : ℕ) (times : ℕ → ℕ → ℕ) (vector : ℕ → ℕ)
    → HasPoints repr size width times vector → RootsHoldColumns → SumsNeedLuck
    → SumsAreProved observes gives passing checks gives_bits number repr size width times vector
sums_are_proved observes gives passing checks gives_bits number repr size width times vector points hold luck hash digest digests m n e left
    right wide deep radius count proof =
    proofs-show observes gives passing checks gives_bits number repr size width times vector points hold luck hash digest digests m n e left
    right wide deep radius count proof

-- ---- of files

pub files_show_sums : {F H : Type 0} (digest : H → List ℕ → List ℕ) (repr : F → ℕ) → HasPoints repr 16 128 word_times word_vector
    → RootsHoldColumns → SumsNeedLuck → FilesShowSums digest repr
files_show_sums {F} {H} digest repr points hold luck hasher digests m n e left right radius count file =
    sums_are_proved (λ old x new. observes_number digest old (repr x) new) (λ old x new. gives_number digest old (repr x) new)
    (passes_number digest) (checks_number digest) (samples_bits digest) repr repr 16 128 word_times word_vector points hold luck
    (digest hasher) 32
    digests m n e left right (lit≤ tt) deep radius count (λ i. proof (file i))
  where
    deep : word_levels m n ≤ 128
    deep = let few = (file 0).file.may_be.few in omega (arith, few)

    proof : AcceptedFile digest hasher repr m n left right
        → AcceptedProof (λ old x new. observes_number digest old (repr x) new) (λ old x new. gives_number digest old (repr x) new)
        (passes_number digest) (checks_number digest) (samples_bits digest) repr repr 16 128 word_times word_vector (digest hasher) 32 m n left right
    proof held = record {
      elements = held.elements;
      nodes = held.nodes;
      old = (hasher, file_bytes held.field m n left right [] [], []);
      count = enough (length held.elements) (element_count m n) (sym (length-proof 16 repr held.elements) ∙ held.file.may_be.body_size);
      digests = held.file.may_be.node_size;
      verdict = held.verdict;
    }
      where
        enough : (a b : ℕ) → a * 16 ≡ b * 16 → a ≡ b
        enough a b is = omega (arith, is)
