-- What an honest prover sends of two tables is accepted.
use Rattle.std.proofs.Common.{◌≡◌, ℕ, ◌+◌, ◌-◌, ◌*◌, ◌/◌, ◌%◌, ◌^◌, ◌≤◌, Bool, true, List, [], ◌∷◌, ◌++◌, length, map, take, drop, get_or}
use Rattle.std.proofs.Common.{append_assoc, refl, sym, ◌∙◌, ap, ap₂, subst, arith}
use Rattle.std.specs.Prelude.{slice_index}
use Rattle.std.specs.List.{flat_map}
use Rattle.std.specs.declared.alloc.Global.{Global}
use Rattle.std.proofs.Math.Seq.{drop-append_seam, take-append_seam}
use Rattle.std.proofs.lemmas.List.{append-nil, get_or-append_right, length-append, length-map, map-append}
use Rattle.std.proofs.lemmas.List.FromFn.{length-map-range_with_len}
use Rattle.transcripts.specs.States.{GivesByState, LeadsByState}
use Rattle.field_base.proofs.Places.{numbers-lt}
use Rattle.field_bytes.specs.Streams.{joined_bytes}
use Rattle.field_slices.specs.Multilinear.{multilinear_value}
use Rattle.transcripts.specs.Commitments.{root_of, row_at}
use Rattle.transcripts.specs.Openings.{OpeningsHaveOneCount}
use Rattle.transcripts.specs.declared.merkle_tree.MerkleTree.{MerkleTree}
use Rattle.sum_checks.specs.Sumcheck.{IsRunOf, messages_of}
use Rattle.sum_checks.specs.SumcheckClaims.{AreHonestMessages, HonestReduces, IsClaimShape, reduced_claim}
use Rattle.sum_checks.specs.Terms.{cube_sum}
use Rattle.protocols.specs.CommitmentScheme.{HoldsColumns, matrix_rows, place_bits, place_count, row_levels, word_levels}
use Rattle.protocols.specs.JointTables.{OpensTables, SentTables, VerifiesTables, sent_tables}
use Rattle.protocols.proofs.SchemeTurns.{runs-same, table_verdicts_agree}
use Rattle.protocols.proofs.TableOpenings.{row-long}
use Rattle.protocols.specs.ProductSums.{interleaved, product_terms, sum_statement}
use Rattle.protocols.proofs.ProductSums.{map-interleaved, tables-shape, values-product}
use Rattle.prove_sums.specs.Completeness.{HonestSumsAreAccepted}
use Rattle.prove_sums.specs.ProofFiles.{IsFile}
use Rattle.prove_sums.specs.Shapes.{columns_in, columns_size, element_count, messages_in, nodes_in, part, row_in, row_size, sent_in, sum_in}
use Rattle.prove_sums.specs.Shapes.{values_in, witness_in}
use Rattle.prove_sums.specs.Soundness.{HasPoints}
use Rattle.prove_sums.specs.Verdicts.{IsHonestProof, IsProductOf, SentParts, VerifiesSum, sent_elements}
use Rattle.prove_sums.proofs.Files.{AreNodes, length-joined}

-- ---- parts of what is sent

-- a part between others
part-at : {X : Type 0} (front middle back : List X) {all : List X} {from size : ℕ} → all ≡ front ++ (middle ++ back) → from ≡ length front
    → size ≡ length middle → part from size all ≡ middle
part-at front middle back {all} {from} {size} is begins ends =
    ap (λ (l : List _). take size (drop from l)) is
    ∙ ap (λ (n : ℕ). take size (drop n (front ++ (middle ++ back)))) begins
    ∙ ap (take size) (drop-append_seam front (middle ++ back)) ∙ ap (λ (n : ℕ). take n (middle ++ back)) ends ∙ take-append_seam middle back

-- halves of nodes
halves : (one other : List (List ℕ)) {nodes : List (List ℕ)} → nodes ≡ one ++ other → length one ≡ length other
    → (nodes_in 0 nodes ≡ one) × (nodes_in 1 nodes ≡ other)
halves one other {nodes} is same =
    let long : length nodes ≡ length one + length other = ap length is ∙ length-append one other in
    let half : length nodes / 2 ≡ length one = omega (arith, long, same) in (
      part-at [] one other is (omega arith) half,
      part-at one other [] (is ∙ ap (λ (l : List (List ℕ)). one ++ l) (sym (append-nil other))) (omega (arith, half)) (half ∙ same),
    )

-- a list of two
two-long : {X : Type 0} (xs : List X) (d : X) → length xs ≡ 2 → xs ≡ get_or xs 0 d ∷ get_or xs 1 d ∷ []
two-long [] d long = absurd (omega (arith, long))
two-long (x ∷ []) d long = absurd (omega (arith, long))
two-long (x ∷ y ∷ []) d long = refl
two-long (x ∷ y ∷ z ∷ xs) d long = absurd (omega (arith, long))

-- two lists, one after the other
flat-two : {X : Type 0} (lists : List (List X)) → length lists ≡ 2 → flat_map (λ list. list) lists ≡ get_or lists 0 [] ++ get_or lists 1 []
flat-two {X} lists long =
    ap (flat_map (λ (list : List X). list)) (two-long lists [] long) ∙ ap (λ (l : List X). get_or lists 0 [] ++ l) (append-nil (get_or lists 1 []))

-- what is sent of tables, by its parts
pub sent-same : {F : Type 0} {values values_read row row_read : List F} {witness witness_read : ℕ} {columns columns_read : List (List F)}
    {nodes nodes_read : List (List (List ℕ))} → values_read ≡ values → row_read ≡ row → witness_read ≡ witness → columns_read ≡ columns
    → nodes_read ≡ nodes
    → sent_tables values_read row_read witness_read columns_read nodes_read ≡ sent_tables values row witness columns nodes
sent-same {F} {values} {values_read} {row} {row_read} {witness} {witness_read} {columns} {columns_read} {nodes} {nodes_read} one two three four five =
    ap (λ (l : List F). sent_tables l row_read witness_read columns_read nodes_read) one
    ∙ ap (λ (l : List F). sent_tables values l witness_read columns_read nodes_read) two
    ∙ ap (λ (v : ℕ). sent_tables values row v columns_read nodes_read) three
    ∙ ap (λ (l : List (List F)). sent_tables values row witness l nodes_read) four
    ∙ ap (λ (l : List (List (List ℕ))). sent_tables values row witness columns l) five

module _ {F : Type 0} (m n : ℕ) (parts : SentParts F) (elements : List F) (written : elements ≡ sent_elements parts)
    (message_count : length parts.messages ≡ 2 * n) (value_count : length parts.values ≡ 2) (row_count : length parts.row ≡ row_size m n)
    (table_count : length parts.columns ≡ 2) (left_count : length (get_or parts.columns 0 []) ≡ columns_size m n)
    (right_count : length (get_or parts.columns 1 []) ≡ columns_size m n) where
  abbrev left : List F
  left = get_or parts.columns 0 []

  abbrev right : List F
  right = get_or parts.columns 1 []

  -- the sum, the messages and both values
  abbrev front : List F
  front = (parts.sum ∷ parts.messages) ++ parts.values

  -- .. and the witness
  abbrev claimed : List F
  claimed = front ++ (parts.witness ∷ [])

  front-long : length front ≡ 2 * n + 3
  front-long = let both = length-append (parts.sum ∷ parts.messages) parts.values in omega (arith, both, message_count, value_count)

  claimed-long : length claimed ≡ 2 * n + 4
  claimed-long = let both = length-append front (parts.witness ∷ []) in omega (arith, both, front-long)

  behind-messages : elements ≡ (parts.sum ∷ parts.messages) ++ (parts.values ++ (parts.witness ∷ parts.row ++ (left ++ right)))
  behind-messages =
      written
      ∙ ap (λ (l : List F). (parts.sum ∷ parts.messages) ++ (parts.values ++ (parts.witness ∷ parts.row ++ l))) (flat-two parts.columns table_count)

  behind-front : elements ≡ front ++ (parts.witness ∷ parts.row ++ (left ++ right))
  behind-front =
      behind-messages ∙ sym (append_assoc (parts.sum ∷ parts.messages) parts.values (parts.witness ∷ parts.row ++ (left ++ right)))

  behind-claimed : elements ≡ claimed ++ (parts.row ++ (left ++ right))
  behind-claimed = behind-front ∙ sym (append_assoc front (parts.witness ∷ []) (parts.row ++ (left ++ right)))

  behind-row : elements ≡ (claimed ++ parts.row) ++ (left ++ right)
  behind-row = behind-claimed ∙ sym (append_assoc claimed parts.row (left ++ right))

  pub sent-sum : (repr : F → ℕ) → sum_in repr elements ≡ repr parts.sum
  sent-sum repr = ap (sum_in repr) written

  pub sent-messages : messages_in n elements ≡ parts.messages
  sent-messages =
      part-at (parts.sum ∷ []) parts.messages (parts.values ++ (parts.witness ∷ parts.row ++ (left ++ right))) behind-messages refl (sym message_count)

  pub sent-values : values_in n elements ≡ parts.values
  sent-values =
      part-at (parts.sum ∷ parts.messages) parts.values (parts.witness ∷ parts.row ++ (left ++ right)) behind-messages
      (omega (arith, message_count)) (sym value_count)

  sent-witness : (number : F → ℕ) → witness_in number n elements ≡ number parts.witness
  sent-witness number =
      let long : length (map number front) ≡ 2 * n + 3 = length-map front number ∙ front-long in
      ap (λ (l : List F). slice_index (map number l) (2 * n + 3)) behind-front
      ∙ ap (λ (l : List ℕ). slice_index l (2 * n + 3)) (map-append number front (parts.witness ∷ parts.row ++ (left ++ right)))
      ∙ get_or-append_right (map number front) (map number (parts.witness ∷ parts.row ++ (left ++ right))) (2 * n + 3) (2 * n + 3) 0 long
      (omega arith)
      ∙ ap (slice_index (map number (parts.witness ∷ parts.row ++ (left ++ right))))
      (let none : 2 * n + 3 - (2 * n + 3) ≡ 0 = omega arith in none)

  sent-row : row_in m n elements ≡ parts.row
  sent-row = part-at claimed parts.row (left ++ right) behind-claimed (sym claimed-long) (sym row_count)

  -- the columns of both
  sent-left : columns_in m n 0 elements ≡ left
  sent-left =
      let long = length-append claimed parts.row in
      part-at (claimed ++ parts.row) left right behind-row (omega (arith, long, claimed-long, row_count)) (sym left_count)

  sent-right : columns_in m n 1 elements ≡ right
  sent-right =
      let long = length-append claimed parts.row in
      let longer = length-append (claimed ++ parts.row) left in
      part-at ((claimed ++ parts.row) ++ left) right []
      (behind-row ∙ sym (append_assoc (claimed ++ parts.row) left right)
      ∙ ap (λ (l : List F). ((claimed ++ parts.row) ++ left) ++ l) (sym (append-nil right)))
      (omega (arith, longer, long, claimed-long, row_count, left_count)) (sym right_count)

  -- what is read of both tables is what was sent
  pub sent-read : (number : F → ℕ) (openers : List (List (List ℕ))) (nodes : List (List ℕ)) → length openers ≡ 2
      → length (get_or openers 0 []) ≡ length (get_or openers 1 []) → nodes ≡ flat_map (λ opening. opening) openers
      → sent_in number m n elements nodes ≡ sent_tables parts.values parts.row (number parts.witness) parts.columns openers
  sent-read number openers nodes two same is =
      let read = halves (get_or openers 0 []) (get_or openers 1 []) (is ∙ flat-two openers two) same in
      sent-same sent-values sent-row (sent-witness number)
      (ap₂ (λ (a b : List F). a ∷ b ∷ []) sent-left sent-right ∙ sym (two-long parts.columns [] table_count))
      (ap₂ (λ (a b : List (List ℕ)). a ∷ b ∷ []) read.0 read.1 ∙ sym (two-long openers [] two))

  -- so many elements are sent
  pub sent-count : length elements ≡ element_count m n
  sent-count =
      let last = length-append left right in
      let all = length-append (claimed ++ parts.row) (left ++ right) in
      let middle = length-append claimed parts.row in
      ap length behind-row
      ∙ enough (row_size m n) (columns_size m n) (length claimed) (length parts.row) (length left) (length right) (length (left ++ right))
      (length (claimed ++ parts.row)) (length ((claimed ++ parts.row) ++ (left ++ right))) claimed-long row_count left_count right_count last middle all
    where
      enough : (r s claimed row one other ends front all : ℕ) → claimed ≡ 2 * n + 4 → row ≡ r → one ≡ s → other ≡ s → ends ≡ one + other
          → front ≡ claimed + row → all ≡ front + ends → all ≡ 2 * n + 4 + r + 2 * s
      enough r s claimed row one other ends front all a b c d e f g = omega (arith, a, b, c, d, e, f, g)

-- ---- what an honest prover sends

module _ {C F A : Type 0} {observes gives : C → F → C → Type 0} {passing : C → ℕ → ℕ → Bool} {checks gives_bits : C → ℕ → ℕ → C → Type 0}
    {number repr : F → ℕ} {size width : ℕ} {times : ℕ → ℕ → ℕ} {vector : ℕ → ℕ} {m n : ℕ} {left right left_columns right_columns : List F}
    {left_tree right_tree : MerkleTree A} {elements : List F} {nodes : List (List ℕ)} {prover : C} (counts : OpeningsHaveOneCount)
    (hash : List ℕ → List ℕ) (left_held : HoldsColumns hash repr size width times vector m n left left_columns left_tree)
    (right_held : HoldsColumns hash repr size width times vector m n right right_columns right_tree)
    (honest : IsHonestProof observes gives passing checks gives_bits number repr size width times vector m n left right left_columns right_columns
    left_tree right_tree elements nodes prover) where
  abbrev pub sent : SentTables F
  sent = sent_tables honest.parts.values honest.parts.row (number honest.parts.witness) honest.parts.columns honest.openers

  -- both tables' values at the point, and a verdict that is true
  pub honest-opened : (map repr honest.parts.values
      ≡ multilinear_value times (map repr left) (map repr honest.point) ∷ multilinear_value times (map repr right) (map repr honest.point) ∷ [])
      × VerifiesTables observes gives passing checks gives_bits repr hash size width times vector m n (root_of left_tree ∷ root_of right_tree ∷ [])
      honest.point sent honest.between true honest.new
  honest-opened = honest.opened hash (left ∷ right ∷ []) (left_held, (right_held, tt))

  opens : OpensTables hash repr size width times vector m n (root_of left_tree ∷ root_of right_tree ∷ []) sent honest-opened.1.challenges honest.point
      honest-opened.1.places
  opens = (honest-opened.1.decided.0 refl).1

  places-count : length honest-opened.1.places ≡ place_count m n
  places-count =
      ap length honest-opened.1.drawn.chosen
      ∙ length-map-range_with_len (λ i. i * 2 ^ place_bits m n + slice_index honest-opened.1.drawn.numbers i % 2 ^ place_bits m n) 0
      (length honest-opened.1.drawn.numbers)
      ∙ honest-opened.1.drawn.count

  honest-row : length honest.parts.row ≡ row_size m n
  honest-row = sym (length-map honest.parts.row repr) ∙ row-long (row_levels m n) 2 opens.agrees

  honest-left : length (get_or honest.parts.columns 0 []) ≡ columns_size m n
  honest-left = (opens.opened 0 (omega arith)).count ∙ ap (λ (v : ℕ). v * 2 ^ matrix_rows m n) places-count

  honest-right : length (get_or honest.parts.columns 1 []) ≡ columns_size m n
  honest-right = (opens.opened 1 (omega arith)).count ∙ ap (λ (v : ℕ). v * 2 ^ matrix_rows m n) places-count

  -- as many nodes open one tree as the other
  honest-halves : length (get_or honest.openers 0 []) ≡ length (get_or honest.openers 1 [])
  honest-halves =
      counts hash hash (word_levels m n) (root_of left_tree) (root_of right_tree) honest-opened.1.places
      (λ i. joined_bytes size repr (row_at (2 ^ matrix_rows m n) (get_or honest.parts.columns 0 []) i))
      (λ i. joined_bytes size repr (row_at (2 ^ matrix_rows m n) (get_or honest.parts.columns 1 []) i)) (get_or honest.openers 0 [])
      (get_or honest.openers 1 []) (opens.opened 0 (omega arith)).opened (opens.opened 1 (omega arith)).opened

  pub honest-sum : sum_in repr elements ≡ repr honest.parts.sum
  honest-sum =
      sent-sum m n honest.parts elements honest.written honest.summed.message_count opens.values honest-row opens.columns honest-left honest-right repr

  pub honest-messages : messages_in n elements ≡ honest.parts.messages
  honest-messages =
      sent-messages m n honest.parts elements honest.written honest.summed.message_count opens.values honest-row opens.columns honest-left honest-right

  pub honest-values : values_in n elements ≡ honest.parts.values
  honest-values =
      sent-values m n honest.parts elements honest.written honest.summed.message_count opens.values honest-row opens.columns honest-left honest-right

  pub honest-read : sent_in number m n elements nodes ≡ sent
  honest-read =
      sent-read m n honest.parts elements honest.written honest.summed.message_count opens.values honest-row opens.columns honest-left honest-right
      number honest.openers nodes opens.nodes honest-halves honest.nodes_are

  -- a file may hold it
  pub honest-file : (one other : List ℕ) → 7 ≤ m → m ≤ 8 → n ≤ 39 → length one ≡ 32 → length other ≡ 32 → AreNodes nodes
      → IsFile m n one other (joined_bytes 16 repr elements) nodes
  honest-file one other some_queries few_queries few one_size other_size sized = record {
    some_queries = some_queries;
    few_queries = few_queries;
    few = few;
    left_size = one_size;
    right_size = other_size;
    body_size =
        length-joined repr elements
        ∙ ap (λ (v : ℕ). v * 16)
        (sent-count m n honest.parts elements honest.written honest.summed.message_count opens.values honest-row opens.columns honest-left
        honest-right);
    node_size = sized;
    even =
        let long = ap length (honest.nodes_are ∙ flat-two honest.openers opens.nodes)
        ∙ length-append (get_or honest.openers 0 []) (get_or honest.openers 1 []) in
        let halves = honest-halves in
        omega (arith, long, halves);
  }

-- ---- an honest proof and a verdict

module _ {C S F : Type 0} (state : C → S) (observes gives : C → F → C → Type 0) (passing : C → ℕ → ℕ → Bool)
    (checks gives_bits : C → ℕ → ℕ → C → Type 0)
    (observes_law : (value : F) → LeadsByState state (λ old new. observes old value new)) (gives_law : GivesByState state gives)
    (passing_law : (one other : C) (bits n : ℕ) → state one ≡ state other → passing one bits n ≡ passing other bits n)
    (checks_law : (bits n : ℕ) → LeadsByState state (λ old new. checks old bits n new))
    (bits_law : (bits : ℕ) → GivesByState state (λ (old : C) (number : ℕ) (new : C). gives_bits old bits number new)) (number repr : F → ℕ)
    (size width : ℕ) (times : ℕ → ℕ → ℕ) (vector : ℕ → ℕ) (points : HasPoints repr size width times vector)
    (same_law : (x y : F) → repr x ≡ repr y → x ≡ y) where
  module _ (reduces : HonestReduces) (counts : OpeningsHaveOneCount) (hash : List ℕ → List ℕ) (m n : ℕ)
      (left right left_columns right_columns : List F) (left_tree right_tree : MerkleTree Global) (elements : List F) (nodes : List (List ℕ))
      (prover verifier : C) (accepted : Bool) (wide : 2 ≤ width)
      (left_held : HoldsColumns hash repr size width times vector m n left left_columns left_tree)
      (right_held : HoldsColumns hash repr size width times vector m n right right_columns right_tree)
      (honest : IsHonestProof observes gives passing checks gives_bits number repr size width times vector m n left right left_columns right_columns
      left_tree right_tree elements nodes prover) (same : state prover ≡ state verifier)
      (verdict : VerifiesSum observes gives passing checks gives_bits number repr hash size width times vector m n (root_of left_tree)
      (root_of right_tree) elements nodes verifier accepted) where
    -- what the verifier reads
    sum-read : sum_in repr elements ≡ repr honest.parts.sum
    sum-read = honest-sum counts hash left_held right_held honest

    messages-read : messages_in n elements ≡ honest.parts.messages
    messages-read = honest-messages counts hash left_held right_held honest

    values-read : map repr (values_in n elements)
        ≡ multilinear_value times (map repr left) (map repr honest.point) ∷ multilinear_value times (map repr right) (map repr honest.point) ∷ []
    values-read =
        ap (map repr) (honest-values counts hash left_held right_held honest) ∙ (honest-opened counts hash left_held right_held honest).0

    -- the challenges are the prover's
    run : (honest.point ≡ verdict.point) × (state honest.between ≡ state verdict.between)
    run =
        runs-same state observes gives passing checks gives_bits observes_law gives_law passing_law checks_law bits_law repr same_law
        (sum_statement width times n (repr honest.parts.sum)) (messages_of 2 n honest.parts.messages) same honest.summed.run
        (subst (λ (s : ℕ). IsRunOf observes gives repr verifier (sum_statement width times n s) (messages_of 2 n honest.parts.messages)
        verdict.point verdict.between) sum-read
        (subst (λ (l : List F). IsRunOf observes gives repr verifier (sum_statement width times n (sum_in repr elements)) (messages_of 2 n l)
        verdict.point verdict.between) messages-read verdict.reduced.run))

    -- and so both tables are opened
    abbrev Opens : List F → SentTables F → Type 0
    Opens point read =
        VerifiesTables observes gives passing checks gives_bits repr hash size width times vector m n (root_of left_tree ∷ root_of right_tree ∷ [])
        point read verdict.between verdict.opens verdict.new

    opened : true ≡ verdict.opens
    opened =
        (table_verdicts_agree state observes gives passing checks gives_bits observes_law gives_law passing_law checks_law bits_law repr size width
        times vector hash m n (root_of left_tree ∷ root_of right_tree ∷ []) honest.point (sent counts hash left_held right_held honest) honest.between
        verdict.between true verdict.opens honest.new verdict.new run.1 (honest-opened counts hash left_held right_held honest).1
        (subst (λ (p : List F). Opens p (sent counts hash left_held right_held honest)) (sym run.0)
        (subst (λ (t : SentTables F). Opens verdict.point t) (honest-read counts hash left_held right_held honest) verdict.opened))).0

    -- the claim that is left is the product of both tables' values
    point-long : length (map repr honest.point) ≡ n
    point-long = length-map honest.point repr ∙ honest.summed.challenge_count

    left-long : length (map repr left) ≡ 2 ^ n
    left-long = length-map left repr ∙ left_held.count

    right-long : length (map repr right) ≡ length (map repr left)
    right-long = length-map right repr ∙ right_held.count ∙ sym left-long

    abbrev rows : List ℕ
    rows = interleaved (map repr left) (map repr right)

    shape : IsClaimShape width times product_terms 2 2 (length (map repr honest.point)) rows
    shape =
        subst (λ (v : ℕ). IsClaimShape width times product_terms 2 2 v rows) (sym point-long)
        (tables-shape width times wide points.field n (map repr left) (map repr right) left-long right-long
        (numbers-lt repr width points.range left) (numbers-lt repr width points.range right))

    reduced : reduced_claim width times (repr honest.parts.sum) (map (map repr) (messages_of 2 n honest.parts.messages)) (map repr honest.point)
        ≡ times (multilinear_value times (map repr left) (map repr honest.point))
        (multilinear_value times (map repr right) (map repr honest.point))
    reduced =
        reduces width times product_terms 2 2 (repr honest.parts.sum) rows (map repr honest.point)
        (map (map repr) (messages_of 2 n honest.parts.messages)) shape
        (honest.summed.total ∙ ap (λ (l : List ℕ). cube_sum times product_terms 2 n l) (map-interleaved repr left right)
        ∙ ap (λ (v : ℕ). cube_sum times product_terms 2 v rows) (sym point-long))
        (subst (λ (l : List ℕ). AreHonestMessages times product_terms 2 2 l (map (map repr) (messages_of 2 n honest.parts.messages))
        (map repr honest.point)) (map-interleaved repr left right) honest.summed.honest)
        ∙ values-product width times points.field.ring (map repr left) (map repr right) (map repr honest.point)
        (left-long ∙ ap (λ (v : ℕ). 2 ^ v) (sym point-long)) right-long

    product : IsProductOf repr times (values_in n elements) verdict.claim
    product =
        verdict.reduced.left
        ∙ ap (λ (s : ℕ). reduced_claim width times s (map (map repr) (messages_of 2 n (messages_in n elements))) (map repr verdict.point)) sum-read
        ∙ ap (λ (l : List F). reduced_claim width times (repr honest.parts.sum) (map (map repr) (messages_of 2 n l)) (map repr verdict.point))
        messages-read
        ∙ ap (λ (p : List F). reduced_claim width times (repr honest.parts.sum) (map (map repr) (messages_of 2 n honest.parts.messages))
        (map repr p)) (sym run.0)
        ∙ reduced ∙ sym (ap (λ (l : List ℕ). times (slice_index l 0) (slice_index l 1)) values-read)

    pub is-accepted : accepted ≡ true
    is-accepted = verdict.decided.1 (sym opened, product)

  pub honest_sums_are_accepted : HonestReduces → OpeningsHaveOneCount
      → HonestSumsAreAccepted state observes gives passing checks gives_bits number repr size width times vector
  honest_sums_are_accepted reduces counts hash m n left right left_columns right_columns left_tree right_tree elements nodes prover verifier
      accepted wide left_held right_held honest same verdict =
      is-accepted reduces counts hash m n left right left_columns right_columns left_tree right_tree elements nodes prover verifier accepted wide
      left_held right_held honest same verdict
