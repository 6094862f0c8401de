-- Openings of values of tables of small elements: what an honest prover leaves, what accepted ones show, and two verdicts on one.
use Rattle.std.proofs.Common.{◌≡◌, ◌≢◌, ◌⊎◌, inl, inr, ℕ, ◌+◌, ◌-◌, ◌*◌, ◌^◌, ◌<◌, ◌≤◌, Bool, true, List, [], ◌∷◌, ◌++◌, length, map, take, drop, get_or, refl}
use Rattle.std.proofs.Common.{sym, ◌∙◌, ap, ap₂, subst, arith}
use Rattle.std.specs.Prelude.{IsTrue, bit_xor, slice_index}
use Rattle.std.specs.Simd.Lanes.{zip2}
use Rattle.std.proofs.lemmas.Bool.Decides.{eqb_tells}
use Rattle.std.proofs.lemmas.Grind.{same_number_lists}
use Rattle.std.proofs.lemmas.List.{length-drop, length-map, length-take-le, map-append, take-append-drop}
use Rattle.std.proofs.lemmas.List.FromFn.{length-map-range_with_len}
use Rattle.std.proofs.lemmas.Nat.{pow-add, pow_pos}
use Rattle.std.proofs.Math.Nat.{pow-zero}
use Rattle.field_base.specs.Basis.{sum_below}
use Rattle.field_base.specs.Chunks.{chunk}
use Rattle.field_base.specs.Field.{IsField}
use Rattle.field_base.specs.Orders.{AreCantorVectors}
use Rattle.field_base.proofs.Places.{numbers-lt}
use Rattle.field_slices.specs.Multilinear.{AreCornerValues, eq_corner, multilinear_value}
use Rattle.field_slices.proofs.CornerSums.{weighted-lt}
use Rattle.transcripts.specs.Commitments.{row_at}
use Rattle.transcripts.specs.MerkleTrees.{HaveDigestSize}
use Rattle.transcripts.specs.States.{GivesByState, LeadsByState}
use Rattle.sum_checks.specs.Sumcheck.{IsRunOf, messages_of}
use Rattle.sum_checks.specs.SumcheckClaims.{AreHonestMessages, AreMessages, FalseClaimsNeedLuck, HonestReduces, IsClaimShape, IsSaved, reduced_claim}
use Rattle.sum_checks.specs.Terms.{cube_sum}
use Rattle.sum_checks.specs.ZeroCheck.{IsRootAt}
use Rattle.sum_checks.proofs.Runs.{messages-length, observed-same}
use Rattle.transcripts.specs.declared.merkle_tree.MerkleTree.{MerkleTree}
use Rattle.protocols.specs.CommitmentScheme.{matrix_rows, row_levels, value_columns, word_levels}
use Rattle.protocols.specs.JointTables.{AcceptedTables, IsHonestOpeningOf, IsLeastCube, OpensTables, TablesAreBound, VerifiesTables, sent_column, stacked}
use Rattle.protocols.specs.OpenedTables.{AreColumnsOf, OpenedValuesNeedLuck, ShowsTable}
use Rattle.protocols.specs.ProductSums.{IsSummed, interleaved, product_terms, sum_statement}
use Rattle.protocols.specs.RootColumns.{HasSent, HaveOtherColumns, SentColumns}
use Rattle.small_tables.specs.SmallOpenings.{AcceptedSmall, IsHonestSmall, IsPointDrawn, SentSmall, ShowsPacked, ShowsSmall, SmallValuesAreBound}
use Rattle.small_tables.specs.SmallOpenings.{SmallVerdictsAgree, VerifiesSmall}
use Rattle.small_tables.specs.SmallTables.{FalsePartsNeedRoot, IsSpaceOver, MixedSumsAreParts, SmallValuesAreWeighted, mixed, mixed_sum, mixed_weights}
use Rattle.small_tables.specs.SmallTables.{part_rows, point_scalars, small_values, value_parts}
use Rattle.protocols.specs.Tables.{AgreesAt, column_at}
use Rattle.protocols.proofs.OpenedColumns.{column-long}
use Rattle.protocols.proofs.ProductSums.{map-interleaved, messages-are, products-sum, tables-shape, values-product}
use Rattle.protocols.proofs.SchemeTurns.{given-same, runs-same, same-tests, table_verdicts_agree}
use Rattle.small_tables.proofs.SmallParts.{made-fits}
use Rattle.protocols.proofs.StackedTables.{each-or, stacked-one, value-none}
use Rattle.protocols.proofs.TableLaws.{values-length}

-- ---- values at a point

module _ (width : ℕ) (times : ℕ → ℕ → ℕ) (w k : ℕ) (field : IsField width times) (wide : 2 ≤ width) (space : IsSpaceOver width times w k)
    (sums : MixedSumsAreParts) (table first mix at : List ℕ) (size : length table ≡ 2 ^ length first)
    (fits : (i : ℕ) → slice_index table i < 2 ^ width) (mix_long : length mix ≡ k) (same : length at ≡ length first) where
  abbrev scalars : List ℕ
  scalars = point_scalars times mix

  scalars-long : length scalars ≡ 2 ^ k
  scalars-long = length-map-range_with_len (eq_corner times mix) 0 (2 ^ length mix) ∙ ap (λ (n : ℕ). 2 ^ n) mix_long

  abbrev weights : List ℕ
  weights = mixed_weights times w scalars first

  weights-long : length weights ≡ 2 ^ length at
  weights-long =
      length-map-range_with_len (λ v. mixed times w scalars (eq_corner times first v)) 0 (2 ^ length first)
      ∙ ap (λ (n : ℕ). 2 ^ n) (sym same)

  tables-same : length table ≡ length weights
  tables-same = size ∙ ap (λ (n : ℕ). 2 ^ n) (sym same) ∙ sym weights-long

  abbrev parts : List ℕ
  parts = value_parts times w k table first

  parts-are : AreCornerValues width k parts
  parts-are = record {
    count = values-length times first (2 ^ k) (small_values w k table);
    each_fits = λ i.
        made-fits (λ p. multilinear_value times (column_at (2 ^ length first) (2 ^ k) (small_values w k table) p) first) (2 ^ k) (2 ^ width) i
        (pow_pos width)
        (λ p. weighted-lt width times field.ring (slice_index (column_at (2 ^ length first) (2 ^ k) (small_values w k table) p))
        (eq_corner times first) (2 ^ length first));
  }

  shape : IsClaimShape width times product_terms 2 2 (length at) (interleaved weights table)
  shape =
      tables-shape width times wide field (length at) weights table weights-long tables-same
      (λ i.
      made-fits (λ v. mixed times w scalars (eq_corner times first v)) (2 ^ length first) (2 ^ width) i (pow_pos width)
      (λ v. weighted-lt width times field.ring (slice_index scalars) (λ m. chunk w m (eq_corner times first v)) (length scalars)))
      fits

  -- the sum of the products is the mixed sum of the parts
  pub mixed-is : mixed_sum times w scalars parts ≡ cube_sum times product_terms 2 (length at) (interleaved weights table)
  mixed-is =
      sums width times w k table first scalars field.ring space (record { count = size; each_fits = fits }) scalars-long
      ∙ ap (λ (n : ℕ). sum_below (λ v. times (slice_index weights v) (slice_index table v)) (2 ^ n)) (sym same)
      ∙ sym (products-sum width times field.ring (length at) weights table weights-long tables-same)

  -- ---- honest openings

  pub honest-claim : HonestReduces → (messages : List (List ℕ)) (sum : ℕ)
      → sum ≡ cube_sum times product_terms 2 (length at) (interleaved weights table)
      → AreHonestMessages times product_terms 2 2 (interleaved weights table) messages at
      → reduced_claim width times sum messages at ≡ times (multilinear_value times weights at) (multilinear_value times table at)
  honest-claim reduces messages sum is honest =
      reduces width times product_terms 2 2 sum (interleaved weights table) at messages shape is honest
      ∙ values-product width times field.ring weights table at weights-long tables-same

  -- ---- accepted openings

  told : (sent : List ℕ) (i : ℕ) → (slice_index sent i ≡ slice_index parts i) ⊎ (slice_index sent i ≢ slice_index parts i)
  told sent i =
      elim (eqb_tells (slice_index sent i) (slice_index parts i)) [
        | inl equal ↦ inl equal.1
        | inr differ ↦ inr differ.1
      ]

  pub parts-show : SmallValuesAreWeighted → FalsePartsNeedRoot → FalseClaimsNeedLuck → (last sent : List ℕ) (messages : List (List ℕ)) (value : ℕ)
      → length last ≡ k → AreCornerValues width k sent → AreMessages width 2 messages → length messages ≡ length at
      → value ≡ multilinear_value times sent last
      → reduced_claim width times (mixed_sum times w scalars sent) messages at
      ≡ times (multilinear_value times weights at) (multilinear_value times table at)
      → (value ≡ multilinear_value times (small_values w k table) (first ++ last))
      ⊎ ((j : ℕ) × IsRootAt times (part_rows times w k (zip2 bit_xor sent parts)) mix j)
      ⊎ ((j : ℕ) × IsSaved width times product_terms 2 (mixed_sum times w scalars sent) (interleaved weights table) at messages j)
  parts-show weighted root saved last sent messages value long sent_are are count adds reaches =
      elim (each-or (λ i. slice_index sent i ≡ slice_index parts i) (λ i. slice_index sent i ≢ slice_index parts i) (2 ^ k) (λ i below. told sent i)) [
        | inl agree ↦
            inl
            (adds
            ∙ ap (λ (l : List ℕ). multilinear_value times l last)
            (same_number_lists sent parts (sent_are.count ∙ sym parts-are.count)
            (λ i below. agree i (subst (λ (n : ℕ). i < n) sent_are.count below)))
            ∙ sym (weighted width times w k table first last field.ring space size long))
        | inr differ ↦
            elim (eqb_tells (mixed_sum times w scalars sent) (mixed_sum times w scalars parts)) [
              | inl equal ↦
                  inr (inl (root width times w k sent parts mix differ.0 field space sent_are parts-are mix_long differ.1 differ.2 equal.1))
              | inr other ↦
                  inr
                  (inr
                  (saved width times product_terms 2 2 (mixed_sum times w scalars sent) (interleaved weights table) at messages shape
                  (weighted-lt width times field.ring (λ u. 2 ^ (w * u)) (λ u. mixed times w scalars (slice_index sent u)) (length sent)) are count
                  (λ is. other.1 (is ∙ sym mixed-is))
                  (reaches ∙ sym (values-product width times field.ring weights table at weights-long tables-same))))
            ]
      ]

-- ---- what an honest prover sends

module _ {C F A : Type 0} (observes gives : C → F → C → Type 0) (passing : C → ℕ → ℕ → Bool) (checks gives_bits : C → ℕ → ℕ → C → Type 0)
    (repr : F → ℕ) (size width : ℕ) (times : ℕ → ℕ → ℕ) (vector : ℕ → ℕ) (weighted : SmallValuesAreWeighted) (sums : MixedSumsAreParts)
    (reduces : HonestReduces) (field : IsField width times) (range : (x : F) → repr x < 2 ^ width) (wide : 2 ≤ width) (m n w k : ℕ)
    (space : IsSpaceOver width times w k) (table columns : List F) (tree : MerkleTree A) (point : List F) (value : F) (sent : SentSmall F)
    (sum : F) (mix weights at : List F) (old mixing between : C) (long : length point ≡ n + k) (count : length table ≡ 2 ^ n)
    (parts_are : map repr sent.parts ≡ value_parts times w k (map repr table) (map repr (take n point)))
    (value_is : repr value ≡ multilinear_value times (map repr sent.parts) (map repr (drop n point)))
    (drawn : IsPointDrawn observes gives old (point ++ value ∷ sent.parts) k mix mixing)
    (weights_are : map repr weights ≡ mixed_weights times w (point_scalars times (map repr mix)) (map repr (take n point)))
    (summed : IsSummed observes gives repr width times n weights table mixing sum sent.messages at between) where
  abbrev first : List ℕ
  first = map repr (take n point)

  abbrev last : List ℕ
  last = map repr (drop n point)

  abbrev values : List ℕ
  values = map repr table

  abbrev chosen : List ℕ
  chosen = point_scalars times (map repr mix)

  first-long : length first ≡ n
  first-long = length-map (take n point) repr ∙ length-take-le n point (omega (arith, long))

  last-long : length last ≡ k
  last-long = length-map (drop n point) repr ∙ length-drop n point ∙ (let left : length point - n ≡ k = omega (arith, long) in left)

  values-count : length values ≡ 2 ^ length first
  values-count = length-map table repr ∙ count ∙ ap (λ (b : ℕ). 2 ^ b) (sym first-long)

  at-long : length (map repr at) ≡ length first
  at-long = length-map at repr ∙ summed.challenge_count ∙ sym first-long

  mix-long : length (map repr mix) ≡ k
  mix-long = length-map mix repr ∙ drawn.count

  rows : map repr (interleaved weights table) ≡ interleaved (mixed_weights times w chosen first) values
  rows = map-interleaved repr weights table ∙ ap (λ (l : List ℕ). interleaved l values) weights_are

  total : mixed_sum times w chosen (map repr sent.parts) ≡ cube_sum times product_terms 2 (length (map repr at)) (interleaved (mixed_weights times w chosen first) values)
  total =
      ap (mixed_sum times w chosen) parts_are
      ∙ mixed-is width times w k field wide space sums values first (map repr mix) (map repr at) values-count (numbers-lt repr width range table) mix-long
      at-long

  claim-is : reduced_claim width times (mixed_sum times w chosen (map repr sent.parts)) (map (map repr) (messages_of 2 n sent.messages)) (map repr at)
      ≡ times (multilinear_value times (mixed_weights times w chosen first) (map repr at)) (multilinear_value times values (map repr at))
  claim-is =
      honest-claim width times w k field wide space sums values first (map repr mix) (map repr at) values-count (numbers-lt repr width range table)
      mix-long at-long reduces (map (map repr) (messages_of 2 n sent.messages)) (mixed_sum times w chosen (map repr sent.parts)) total
      (subst
      (λ (l : List ℕ). AreHonestMessages times product_terms 2 2 l (map (map repr) (messages_of 2 n sent.messages)) (map repr at)) rows summed.honest)

  pub honest-small : (new : C) → IsHonestOpeningOf observes gives passing checks gives_bits repr size width times vector m n ((columns, tree) ∷ []) at
      sent.packed between new
      → IsHonestSmall observes gives passing checks gives_bits repr size width times vector m n w k table columns tree point value sent old
  honest-small new honest hash held = (
    value_is ∙ ap (λ (l : List ℕ). multilinear_value times l last) parts_are
        ∙ sym (weighted width times w k values first last field.ring space values-count last-long)
        ∙ ap (multilinear_value times (small_values w k values))
        (sym (map-append repr (take n point) (drop n point)) ∙ ap (map repr) (take-append-drop n point)),
    record {
      mix = mix;
      mixing = mixing;
      at = at;
      claim = reduced_claim width times (mixed_sum times w chosen (map repr sent.parts)) (map (map repr) (messages_of 2 n sent.messages)) (map repr at);
      between = between;
      opens = true;
      new = new;
      drawn = drawn;
      reduced = record {
        run =
            subst
            (λ (s : ℕ). IsRunOf observes gives repr mixing (sum_statement width times n s) (messages_of 2 n sent.messages) at between)
            (summed.total
            ∙ ap₂ (λ (v : ℕ) (l : List ℕ). cube_sum times product_terms 2 v l) (sym (at-long ∙ first-long)) rows
            ∙ sym total) summed.run;
        left = refl;
        message_count = summed.message_count;
        challenge_count = summed.challenge_count;
      };
      opened = (honest hash (table ∷ []) (held, tt)).1;
      count = sym (length-map sent.parts repr) ∙ ap length parts_are ∙ values-length times first (2 ^ k) (small_values w k values);
      decided = (
        λ _. (
          refl,
          value_is,
          claim-is
              ∙ ap (times (multilinear_value times (mixed_weights times w chosen first) (map repr at)))
              (sym (ap (λ (l : List ℕ). slice_index l 0) (honest hash (table ∷ []) (held, tt)).0)),
        ),
        λ _. refl,
      );
    },
  )

-- ---- openings in a transcript

-- the least cube of one table has no coordinates
no-challenges : {F : Type 0} (challenges : List F) → IsLeastCube 1 (length challenges) → challenges ≡ []
no-challenges [] cube = refl
no-challenges (x ∷ xs) cube = let more = cube.least 0 (omega arith) in let one = pow-zero 2 in absurd (omega (arith, more, one))

module _ {C F : Type 0} (observes gives : C → F → C → Type 0) (passing : C → ℕ → ℕ → Bool) (checks gives_bits : C → ℕ → ℕ → C → Type 0)
    (repr : F → ℕ) (size width : ℕ) (times : ℕ → ℕ → ℕ) (vector : ℕ → ℕ) (weighted : SmallValuesAreWeighted) (sums : MixedSumsAreParts)
    (root_law : FalsePartsNeedRoot) (saved : FalseClaimsNeedLuck) (luck : OpenedValuesNeedLuck) (field : IsField width times)
    (vectors : AreCantorVectors width times vector) (fit : (b : ℕ) → b < width → vector b < 2 ^ width) (range : (x : F) → repr x < 2 ^ width)
    (hash : List ℕ → List ℕ) (digest m n w k e : ℕ) (root : List ℕ) (space : IsSpaceOver width times w k) (wide : 2 ≤ width)
    (deep : word_levels m n ≤ width) (radius : 2 * e + 2 ^ row_levels m n ≤ 2 ^ 2 * 2 ^ row_levels m n) where
  abbrev Opening : Type 0
  Opening = AcceptedSmall observes gives passing checks gives_bits repr size width times vector hash digest m n w k root

  -- the opening of the packed table
  abbrev packed : Opening → AcceptedTables observes gives passing checks gives_bits repr size width times vector hash digest m n (root ∷ [])
  packed p = record {
    point = p.verdict.at;
    sent = p.sent.packed;
    old = p.verdict.between;
    new = p.verdict.new;
    coordinates = p.verdict.reduced.challenge_count;
    digests = λ i below.
        let first : 0 ≡ i = omega (arith, below) in
        subst (λ (j : ℕ). HaveDigestSize digest (get_or p.sent.packed.nodes j [])) first p.digests;
    verdict = record {
      challenges = p.verdict.opened.challenges;
      between = p.verdict.opened.between;
      combined = p.verdict.opened.combined;
      works = p.verdict.opened.works;
      places = p.verdict.opened.places;
      drawn = p.verdict.opened.drawn;
      decided = (λ _. p.verdict.opened.decided.0 (p.verdict.decided.0 refl).0, λ _. refl);
    };
  }

  abbrev columns : Opening → List F
  columns p = get_or p.sent.packed.columns 0 []

  abbrev rows-at : Opening → List ℕ
  rows-at p = map repr (take (matrix_rows m n) p.verdict.at)

  abbrev rest-at : Opening → List ℕ
  rest-at p = map repr (drop (matrix_rows m n) p.verdict.at)

  opens : (p : Opening) → OpensTables hash repr size width times vector m n (root ∷ []) p.sent.packed p.verdict.opened.challenges p.verdict.at
      p.verdict.opened.places
  opens p = (p.verdict.opened.decided.0 (p.verdict.decided.0 refl).0).1

  alone : (p : Opening) → p.verdict.opened.challenges ≡ []
  alone p = no-challenges p.verdict.opened.challenges p.verdict.opened.combined.cube

  -- its row agrees with the columns that the root holds
  agreed : (p : Opening) (column : ℕ → List ℕ)
      → ((q : ℕ) → q < length p.verdict.opened.places
      → map repr (row_at (2 ^ matrix_rows m n) (columns p) q) ≡ column (slice_index p.verdict.opened.places q))
      → AgreesAt width times vector (row_levels m n) 2 (rows-at p) (map repr p.sent.packed.row) p.verdict.opened.places
      (λ q. column (slice_index p.verdict.opened.places q))
  agreed p column same = let held = (opens p).agrees in record {
    word = held.word;
    code_word = held.code_word;
    begins = held.begins;
    below = held.below;
    agrees = λ q below.
        ap (λ (l : List ℕ). multilinear_value times l (rows-at p)) (sym (own q below ∙ same q below))
        ∙ ap (λ (l : List F). multilinear_value times (stacked 1 (2 ^ matrix_rows m n) sent q) (map repr l ++ rows-at p)) (sym (alone p))
        ∙ held.agrees q below;
  }
    where
      sent : ℕ → ℕ → List ℕ
      sent = sent_column repr (2 ^ matrix_rows m n) p.sent.packed.columns

      own : (q : ℕ) → q < length p.verdict.opened.places
          → stacked 1 (2 ^ matrix_rows m n) sent q ≡ map repr (row_at (2 ^ matrix_rows m n) (columns p) q)
      own q below =
          stacked-one (2 ^ matrix_rows m n) sent q
          (length-map (row_at (2 ^ matrix_rows m n) (columns p) q) repr
          ∙ column-long (length p.verdict.opened.places) (2 ^ matrix_rows m n) (columns p) q ((opens p).opened 0 (omega arith)).count below)

  -- and has the value that is sent of the packed table
  one-value : (p : Opening) → slice_index (map repr p.sent.packed.values) 0 ≡ multilinear_value times (map repr p.sent.packed.row) (rest-at p)
  one-value p =
      sym (value-none width times field.ring (slice_index (map repr p.sent.packed.values)) (numbers-lt repr width range p.sent.packed.values 0))
      ∙ ap (λ (l : List F). multilinear_value times (map repr p.sent.packed.values) (map repr l)) (sym (alone p))
      ∙ (opens p).evaluates

  shows-small : (p : Opening) (table : List ℕ) → length table ≡ 2 ^ n → ((i : ℕ) → slice_index table i < 2 ^ width)
      → slice_index (map repr p.sent.packed.values) 0 ≡ multilinear_value times table (map repr p.verdict.at)
      → ShowsSmall repr width times n w k p.point p.value p.sent p.verdict.mix p.verdict.at table
  shows-small p table long fits is =
      subst
      (λ (l : List ℕ). (repr p.value ≡ multilinear_value times (small_values w k table) l)
      ⊎ ((j : ℕ) × IsRootAt times (part_rows times w k (zip2 bit_xor (map repr p.sent.parts) (value_parts times w k table first))) mix j)
      ⊎ ((j : ℕ) × IsSaved width times product_terms 2 (mixed_sum times w (point_scalars times mix) (map repr p.sent.parts))
      (interleaved (mixed_weights times w (point_scalars times mix) first) table) at messages j)) whole
      (parts-show width times w k field wide space sums table first mix at (long ∙ ap (λ (l : ℕ). 2 ^ l) (sym first_long)) fits
      (length-map p.verdict.mix repr ∙ p.verdict.drawn.count)
      (length-map p.verdict.at repr ∙ p.verdict.reduced.challenge_count ∙ sym first_long) weighted root_law saved last (map repr p.sent.parts) messages
      (repr p.value) last_long
      (record { count = length-map p.sent.parts repr ∙ p.verdict.count; each_fits = numbers-lt repr width range p.sent.parts })
      (messages-are repr width n range p.sent.messages (let count = p.verdict.reduced.message_count in omega (arith, count)))
      (length-map (messages_of 2 n p.sent.messages) (map repr) ∙ messages-length 2 n p.sent.messages
      ∙ sym (length-map p.verdict.at repr ∙ p.verdict.reduced.challenge_count))
      (p.verdict.decided.0 refl).1
      (sym p.verdict.reduced.left ∙ (p.verdict.decided.0 refl).2
      ∙ ap (times (multilinear_value times (mixed_weights times w (point_scalars times mix) first) at)) is))
    where
      first : List ℕ
      first = map repr (take n p.point)

      last : List ℕ
      last = map repr (drop n p.point)

      mix : List ℕ
      mix = map repr p.verdict.mix

      at : List ℕ
      at = map repr p.verdict.at

      messages : List (List ℕ)
      messages = map (map repr) (messages_of 2 n p.sent.messages)

      first_long : length first ≡ n
      first_long = length-map (take n p.point) repr ∙ length-take-le n p.point (let all = p.coordinates in omega (arith, all))

      last_long : length last ≡ k
      last_long =
          length-map (drop n p.point) repr ∙ length-drop n p.point ∙ (let all = p.coordinates in let left : length p.point - n ≡ k = omega (arith, all) in left)

      whole : first ++ last ≡ map repr p.point
      whole = sym (map-append repr (take n p.point) (drop n p.point)) ∙ ap (map repr) (take-append-drop n p.point)

  shows-packed : (column : ℕ → List ℕ) → AreColumnsOf width (2 ^ 2 * 2 ^ row_levels m n) column → (p : Opening)
      → ((q : ℕ) → q < length p.verdict.opened.places
      → map repr (row_at (2 ^ matrix_rows m n) (columns p) q) ≡ column (slice_index p.verdict.opened.places q))
      → ShowsPacked repr width times vector m n w k e column p.point p.value p.sent p.verdict.mix p.verdict.at p.verdict.opened.places
  shows-packed column fits p same =
      turned
      (luck width times vector (omega (arith, wide)) field vectors fit (row_levels m n) 2 e column (rows-at p) (rest-at p)
      (map repr p.sent.packed.row) p.verdict.opened.places deep radius rest-long fits (agreed p column same))
    where
      rows : length (rows-at p) ≡ matrix_rows m n
      rows =
          length-map (take (matrix_rows m n) p.verdict.at) repr
          ∙ length-take-le (matrix_rows m n) p.verdict.at (let all = p.verdict.reduced.challenge_count in omega (arith, all))

      rest-long : length (rest-at p) ≡ row_levels m n
      rest-long =
          length-map (drop (matrix_rows m n) p.verdict.at) repr ∙ length-drop (matrix_rows m n) p.verdict.at
          ∙ ap (λ (l : ℕ). l - matrix_rows m n) p.verdict.reduced.challenge_count

      elements : 2 ^ length (rows-at p) * 2 ^ row_levels m n ≡ 2 ^ n
      elements =
          ap (λ (h : ℕ). 2 ^ h * 2 ^ row_levels m n) rows ∙ sym (pow-add 2 (matrix_rows m n) (row_levels m n))
          ∙ ap (λ (b : ℕ). 2 ^ b) (let all : matrix_rows m n + row_levels m n ≡ n = omega arith in all)

      whole : rows-at p ++ rest-at p ≡ map repr p.verdict.at
      whole =
          sym (map-append repr (take (matrix_rows m n) p.verdict.at) (drop (matrix_rows m n) p.verdict.at))
          ∙ ap (map repr) (take-append-drop (matrix_rows m n) p.verdict.at)

      turned : ShowsTable width times vector (row_levels m n) 2 e column (rows-at p) (map repr p.sent.packed.row) p.verdict.opened.places
          (λ table. multilinear_value times (map repr p.sent.packed.row) (rest-at p) ≡ multilinear_value times table (rows-at p ++ rest-at p))
          → ShowsPacked repr width times vector m n w k e column p.point p.value p.sent p.verdict.mix p.verdict.at p.verdict.opened.places
      turned (inr lucky) = inr lucky
      turned (inl shown) =
          inl (
            shown.0,
            shown.1,
            shows-small p shown.0 (shown.1.size ∙ elements) shown.1.fits
                (one-value p ∙ shown.2 ∙ ap (multilinear_value times shown.0) whole),
          )

  module _ (count : ℕ) (opening : ℕ → Opening) where
    abbrev sent_of : ℕ → SentColumns
    sent_of c = value_columns repr m n (columns (opening c)) (get_or (opening c).sent.packed.nodes 0 []) (opening c).verdict.opened.places

    abbrev Held : Type 0
    Held = (column : ℕ → List ℕ) × AreColumnsOf width (2 ^ 2 * 2 ^ row_levels m n) column × HasSent count sent_of column

    abbrev Each : Type 0
    Each = (column : ℕ → List ℕ) → AreColumnsOf width (2 ^ 2 * 2 ^ row_levels m n) column → HasSent count sent_of column → (c : ℕ) → c < count
        → ShowsPacked repr width times vector m n w k e column (opening c).point (opening c).value (opening c).sent (opening c).verdict.mix
        (opening c).verdict.at (opening c).verdict.opened.places

    abbrev Other : ℕ → Type 0
    Other i =
        HaveOtherColumns hash size (word_levels m n) (get_or (root ∷ []) i []) count
        (λ c. value_columns repr m n (get_or (opening c).sent.packed.columns i []) (get_or (opening c).sent.packed.nodes i [])
        (opening c).verdict.opened.places)

    pub packed-show : {Shown : Type 0}
        → (((column : ℕ → ℕ → List ℕ) × ((i : ℕ) → i < 1 → AreColumnsOf width (2 ^ 2 * 2 ^ row_levels m n) (column i)
        × HasSent count
        (λ c. value_columns repr m n (get_or (opening c).sent.packed.columns i []) (get_or (opening c).sent.packed.nodes i [])
        (opening c).verdict.opened.places) (column i)))
        × Shown)
        ⊎ ((i : ℕ) × (i < 1) × Other i)
        → (Held × Each) ⊎ Other 0
    packed-show (inr collision) =
        let first : collision.0 ≡ 0 = omega (arith, collision.1) in
        inr (subst Other first collision.2)
    packed-show (inl held) =
        let own = held.0.1 0 (omega arith) in
        inl (
          (held.0.0 0, own.0, own.1),
          λ column fits has c below. shows-packed column fits (opening c) (λ q inside. has c q below inside),
        )

pub small_values_are_bound : {C F : Type 0} (observes gives : C → F → C → Type 0) (passing : C → ℕ → ℕ → Bool)
    (checks gives_bits : C → ℕ → ℕ → C → Type 0) (repr : F → ℕ) (size width : ℕ) (times : ℕ → ℕ → ℕ) (vector : ℕ → ℕ)
    → SmallValuesAreWeighted → MixedSumsAreParts → FalsePartsNeedRoot → FalseClaimsNeedLuck → OpenedValuesNeedLuck
    → TablesAreBound observes gives passing checks gives_bits repr size width times vector
    → SmallValuesAreBound observes gives passing checks gives_bits repr size width times vector
small_values_are_bound observes gives passing checks gives_bits repr size width times vector weighted sums root_law saved luck bound field vectors fit
    range room hash digest digests m n w k e root space deep radius count opening =
    packed-show observes gives passing checks gives_bits repr size width times vector weighted sums root_law saved luck field vectors fit range hash
    digest m n w k e root space wide deep radius count opening
    (bound field vectors fit range room hash digest digests m n e (root ∷ []) deep radius count
    (λ c.
    packed observes gives passing checks gives_bits repr size width times vector weighted sums root_law saved luck field vectors fit range hash digest m
    n w k e root space wide deep radius (opening c)))
  where
    wide : 2 ≤ width
    wide = omega (arith, deep)

-- ---- two verdicts

module _ {C S F : Type 0} (state : C → S) (observes gives : C → F → C → Type 0) (passing : C → ℕ → ℕ → Bool)
    (checks gives_bits : C → ℕ → ℕ → C → Type 0)
    (observes_law : (value : F) → LeadsByState state (λ old new. observes old value new))
    (gives_law : GivesByState state gives)
    (passing_law : (one other : C) (bits n : ℕ) → state one ≡ state other → passing one bits n ≡ passing other bits n)
    (checks_law : (bits n : ℕ) → LeadsByState state (λ old new. checks old bits n new))
    (bits_law : (bits : ℕ) → GivesByState state (λ (old : C) (number : ℕ) (new : C). gives_bits old bits number new)) where
  module _ (repr : F → ℕ) (same_law : (x y : F) → repr x ≡ repr y → x ≡ y) (size width : ℕ) (times : ℕ → ℕ → ℕ) (vector : ℕ → ℕ)
      (hash : List ℕ → List ℕ) (m n w k : ℕ) (root : List ℕ) (point : List F) (value : F) (sent : SentSmall F) where
    abbrev Verdict : C → Bool → Type 0
    Verdict old accepted =
        VerifiesSmall observes gives passing checks gives_bits repr hash size width times vector m n w k root point value sent old accepted

    -- what the verdict is by
    abbrev Says : Bool → List F → List F → ℕ → Type 0
    Says opens mix at claim =
        IsTrue opens
        × (repr value ≡ multilinear_value times (map repr sent.parts) (map repr (drop n point)))
        × (claim ≡ times (multilinear_value times (mixed_weights times w (point_scalars times (map repr mix)) (map repr (take n point))) (map repr at))
        (slice_index (map repr sent.packed.values) 0))

    says-same : {u v : Bool} {mix mix' at at' : List F} {claim claim' : ℕ} → u ≡ v → mix ≡ mix' → at ≡ at' → claim ≡ claim'
        → Says u mix at claim → Says v mix' at' claim'
    says-same {u} {v} {mix} {mix'} {at} {at'} {claim} {claim'} opens mixes ends claims says =
        subst (λ (b : Bool). Says b mix' at' claim') opens
        (subst (λ (l : List F). Says u l at' claim') mixes
        (subst (λ (l : List F). Says u mix l claim') ends (subst (λ (c : ℕ). Says u mix at c) claims says)))

    abbrev sum_of : List F → ℕ
    sum_of mix = mixed_sum times w (point_scalars times (map repr mix)) (map repr sent.parts)

    pub small-verdicts : (prover verifier : C) (one other : Bool) → state prover ≡ state verifier → Verdict prover one → Verdict verifier other
        → one ≡ other
    small-verdicts prover verifier one other same a b =
        same-tests one other
        (λ holds. b.decided.1 (says-same opens drawn.0 ran.0 claims (a.decided.0 holds)))
        (λ holds. a.decided.1 (says-same (sym opens) (sym drawn.0) (sym ran.0) (sym claims) (b.decided.0 holds)))
      where
        drawn : (a.mix ≡ b.mix) × (state a.mixing ≡ state b.mixing)
        drawn =
            given-same state observes gives passing checks gives_bits observes_law gives_law passing_law checks_law bits_law gives gives_law a.mix b.mix
            a.drawn.begun a.mixing b.drawn.begun b.mixing (a.drawn.count ∙ sym b.drawn.count)
            (observed-same observes gives state observes_law gives_law (point ++ value ∷ sent.parts) prover a.drawn.begun verifier b.drawn.begun same
            a.drawn.observed b.drawn.observed)
            a.drawn.sampled b.drawn.sampled

        ran : (a.at ≡ b.at) × (state a.between ≡ state b.between)
        ran =
            runs-same state observes gives passing checks gives_bits observes_law gives_law passing_law checks_law bits_law repr same_law
            (sum_statement width times n (sum_of a.mix)) (messages_of 2 n sent.messages) drawn.1 a.reduced.run
            (subst
            (λ (l : List F). IsRunOf observes gives repr b.mixing (sum_statement width times n (sum_of l)) (messages_of 2 n sent.messages) b.at b.between)
            (sym drawn.0) b.reduced.run)

        claims : a.claim ≡ b.claim
        claims =
            a.reduced.left
            ∙ ap₂ (λ (mix at : List F). reduced_claim width times (sum_of mix) (map (map repr) (messages_of 2 n sent.messages)) (map repr at)) drawn.0
            ran.0
            ∙ sym b.reduced.left

        opens : a.opens ≡ b.opens
        opens =
            (table_verdicts_agree state observes gives passing checks gives_bits observes_law gives_law passing_law checks_law bits_law repr size width
            times vector hash m n (root ∷ []) a.at sent.packed a.between b.between a.opens b.opens a.new b.new ran.1 a.opened
            (subst
            (λ (l : List F). VerifiesTables observes gives passing checks gives_bits repr hash size width times vector m n (root ∷ []) l sent.packed
            b.between b.opens b.new) (sym ran.0) b.opened)).0

  pub small_verdicts_agree : (repr : F → ℕ) → ((x y : F) → repr x ≡ repr y → x ≡ y) → (size width : ℕ) (times : ℕ → ℕ → ℕ) (vector : ℕ → ℕ)
      → SmallVerdictsAgree state observes gives passing checks gives_bits repr size width times vector
  small_verdicts_agree repr same_law size width times vector hash m n w k root point value sent prover verifier one other same a b =
      small-verdicts repr same_law size width times vector hash m n w k root point value sent prover verifier one other same a b
