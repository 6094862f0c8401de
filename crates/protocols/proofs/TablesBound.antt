-- Openings of several roots that are accepted: what was sent is accepted under each, and shows its values of the columns that the roots hold.
use Rattle.std.proofs.Common.{◌≡◌, ◌⊎◌, inl, inr, ℕ, ◌+◌, ◌-◌, ◌*◌, ◌^◌, ◌<◌, ◌≤◌, List, [], ◌++◌, length, map, take, drop, get_or, refl, sym, ◌∙◌, ap, subst, arith}
use Rattle.std.specs.Prelude.{Bool, slice_index}
use Rattle.std.proofs.lemmas.List.{length-drop, length-map, length-take-le}
use Rattle.field_base.specs.Field.{IsField}
use Rattle.field_base.specs.Orders.{AreCantorVectors}
use Rattle.field_base.proofs.Places.{numbers-lt}
use Rattle.field_bytes.specs.Streams.{joined_bytes}
use Rattle.field_slices.specs.Multilinear.{multilinear_value}
use Rattle.transcripts.specs.Commitments.{row_at}
use Rattle.protocols.specs.CommitmentScheme.{matrix_rows, row_levels, value_columns, word_levels}
use Rattle.protocols.specs.JointTables.{AcceptedTables, OpenedTablesNeedLuck, OpensTables, ShowsTables, TablesAreBound, sent_column, stacked}
use Rattle.protocols.specs.OpenedTables.{AreColumnsOf}
use Rattle.protocols.specs.RootColumns.{AreAccepted, HasSent, HaveOtherColumns, RootsHoldColumns, SentColumns, column_bytes}
use Rattle.protocols.specs.Tables.{AgreesAt}
use Rattle.protocols.proofs.OpenedColumns.{column-long, number-bytes}
use Rattle.protocols.proofs.StackedTables.{choose, each-or, stacked-same}
use Rattle.protocols.proofs.TableOpenings.{opens-same}

module _ {C F : Type 0} (observes gives : C → F → C → Type 0) (passing : C → ℕ → ℕ → Bool) (checks gives_bits : C → ℕ → ℕ → C → Type 0)
    (repr : F → ℕ) (size width : ℕ) (times : ℕ → ℕ → ℕ) (vector : ℕ → ℕ) (wide : 0 < width) (field : IsField width times)
    (vectors : AreCantorVectors width times vector) (fit : (b : ℕ) → b < width → vector b < 2 ^ width) (range : (x : F) → repr x < 2 ^ width)
    (bytes_room : width ≤ 8 * size) (hold : RootsHoldColumns) (luck : OpenedTablesNeedLuck) (hash : List ℕ → List ℕ) (digest : ℕ)
    (digests : (bytes : List ℕ) → length (hash bytes) ≡ digest) (m n e : ℕ) (roots : List (List ℕ)) (deep : word_levels m n ≤ width)
    (radius : 2 * e + 2 ^ row_levels m n ≤ 2 ^ 2 * 2 ^ row_levels m n) where
  abbrev Opening : Type 0
  Opening = AcceptedTables observes gives passing checks gives_bits repr size width times vector hash digest m n roots

  abbrev height : ℕ
  height = 2 ^ matrix_rows m n

  abbrev places-all : ℕ
  places-all = 2 ^ 2 * 2 ^ row_levels m n

  -- what an opening has sent of table i
  abbrev sent_of : ℕ → Opening → SentColumns
  sent_of i p = value_columns repr m n (get_or p.sent.columns i []) (get_or p.sent.nodes i []) p.verdict.places

  opens : (p : Opening) → OpensTables hash repr size width times vector m n roots p.sent p.verdict.challenges p.point p.verdict.places
  opens p = (p.verdict.decided.0 refl).1

  -- columns whose bytes are opened are accepted
  accepted : (i : ℕ) → i < length roots → (p : Opening)
      → AreAccepted hash digest size width (word_levels m n) height (get_or roots i []) (sent_of i p)
  accepted i one p = record {
    digests = p.digests i one;
    heights = λ k below.
        length-map (row_at height (get_or p.sent.columns i []) k) repr
        ∙ column-long (length p.verdict.places) height (get_or p.sent.columns i []) k ((opens p).opened i one).count below;
    fits = λ k below. numbers-lt repr width range (row_at height (get_or p.sent.columns i []) k);
    opened =
        opens-same hash (word_levels m n) (get_or roots i []) p.verdict.places
        (λ k. joined_bytes size repr (row_at height (get_or p.sent.columns i []) k)) (column_bytes size (sent_of i p)) (get_or p.sent.nodes i [])
        (λ k below. number-bytes size repr (row_at height (get_or p.sent.columns i []) k)) ((opens p).opened i one).opened;
  }

  module _ (column : ℕ → ℕ → List ℕ) (fits : (i : ℕ) → i < length roots → AreColumnsOf width places-all (column i)) (p : Opening)
      (same : (i : ℕ) → i < length roots → (k : ℕ) → k < length p.verdict.places
      → map repr (row_at height (get_or p.sent.columns i []) k) ≡ column i (slice_index p.verdict.places k)) where
    abbrev first : List ℕ
    first = map repr (take (matrix_rows m n) p.point)

    abbrev rest : List ℕ
    rest = map repr (drop (matrix_rows m n) p.point)

    first-long : length first ≡ matrix_rows m n
    first-long =
        let long = p.coordinates in
        length-map (take (matrix_rows m n) p.point) repr ∙ length-take-le (matrix_rows m n) p.point (omega (arith, long))

    rest-long : length rest ≡ row_levels m n
    rest-long =
        length-map (drop (matrix_rows m n) p.point) repr ∙ length-drop (matrix_rows m n) p.point
        ∙ ap (λ (l : ℕ). l - matrix_rows m n) p.coordinates

    agreed : AgreesAt width times vector (row_levels m n) 2 (map repr p.verdict.challenges ++ first) (map repr p.sent.row) p.verdict.places
        (λ k. stacked (length roots) (2 ^ length first) column (slice_index p.verdict.places k))
    agreed = let held = (opens p).agrees in record {
      word = held.word;
      code_word = held.code_word;
      begins = held.begins;
      below = held.below;
      agrees = λ k below.
          ap (λ (l : List ℕ). multilinear_value times l (map repr p.verdict.challenges ++ first))
          (ap (λ (h : ℕ). stacked (length roots) h column (slice_index p.verdict.places k)) (ap (λ (b : ℕ). 2 ^ b) first-long)
          ∙ sym (stacked-same (length roots) height (sent_column repr height p.sent.columns) column k (slice_index p.verdict.places k)
          (λ i one. same i one k below)))
          ∙ held.agrees k below;
    }

    shows : ShowsTables width times vector (row_levels m n) 2 e (length roots) column (map repr p.verdict.challenges) (map repr p.sent.values)
        first rest (map repr p.sent.row) p.verdict.places
    shows =
        luck width times vector wide field vectors fit (row_levels m n) 2 e (length roots) column (map repr p.verdict.challenges)
        (map repr p.sent.values) first rest (map repr p.sent.row) p.verdict.places deep radius rest-long
        (subst (λ (l : ℕ). length roots ≤ 2 ^ l) (sym (length-map p.verdict.challenges repr)) p.verdict.combined.cube.room)
        (numbers-lt repr width range p.sent.values) fits agreed (opens p).evaluates

  module _ (count : ℕ) (opening : ℕ → Opening) where
    -- a function of columns of elements has what the openings have sent of table i
    abbrev Held : ℕ → (ℕ → List ℕ) → Type 0
    Held i column = AreColumnsOf width places-all column × HasSent count (λ c. sent_of i (opening c)) column

    abbrev AllHeld : (ℕ → ℕ → List ℕ) → Type 0
    AllHeld column = (i : ℕ) → i < length roots → Held i (column i)

    abbrev Each : Type 0
    Each = (column : ℕ → ℕ → List ℕ) → AllHeld column → (c : ℕ) → c < count
        → ShowsTables width times vector (row_levels m n) 2 e (length roots) column (map repr (opening c).verdict.challenges)
        (map repr (opening c).sent.values) (map repr (take (matrix_rows m n) (opening c).point))
        (map repr (drop (matrix_rows m n) (opening c).point)) (map repr (opening c).sent.row) (opening c).verdict.places

    abbrev Collides : ℕ → Type 0
    Collides i = HaveOtherColumns hash size (word_levels m n) (get_or roots i []) count (λ c. sent_of i (opening c))

    one-root : (i : ℕ) → i < length roots → ((column : ℕ → List ℕ) × Held i column) ⊎ Collides i
    one-root i one =
        within
        (hold hash digest digests size width (word_levels m n) height (get_or roots i []) bytes_room count (λ c. sent_of i (opening c))
        (λ c below. accepted i one (opening c)))
      where
        within : ((column : ℕ → List ℕ) × ((p j : ℕ) → slice_index (column p) j < 2 ^ width) × HasSent count (λ c. sent_of i (opening c)) column)
            ⊎ Collides i
            → ((column : ℕ → List ℕ) × Held i column) ⊎ Collides i
        within (inr collision) = inr collision
        within (inl found) = inl (found.0, ((λ p j below. found.1 p j), found.2))

    pub tables-show : (((column : ℕ → ℕ → List ℕ) × AllHeld column) × Each) ⊎ ((i : ℕ) × (i < length roots) × Collides i)
    tables-show = turned (each-or (λ i. (column : ℕ → List ℕ) × Held i column) Collides (length roots) one-root)
      where
        each : Each
        each column held c below =
            shows column (λ i one. (held i one).0) (opening c) (λ i one k inside. (held i one).1 c k below inside)

        turned : ((i : ℕ) → i < length roots → (column : ℕ → List ℕ) × Held i column) ⊎ ((i : ℕ) × (i < length roots) × Collides i)
            → (((column : ℕ → ℕ → List ℕ) × AllHeld column) × Each) ⊎ ((i : ℕ) × (i < length roots) × Collides i)
        turned (inr collision) = inr collision
        turned (inl found) = inl (choose (λ p. []) Held (length roots) found, each)

pub tables_are_bound : {C F : Type 0} (observes gives : C → F → C → Type 0) (passing : C → ℕ → ℕ → Bool) (checks gives_bits : C → ℕ → ℕ → C → Type 0)
    (repr : F → ℕ) (size width : ℕ) (times : ℕ → ℕ → ℕ) (vector : ℕ → ℕ) → OpenedTablesNeedLuck → RootsHoldColumns
    → TablesAreBound observes gives passing checks gives_bits repr size width times vector
tables_are_bound observes gives passing checks gives_bits repr size width times vector luck hold field vectors fit range room hash digest digests m n
    e roots deep radius count opening =
    tables-show observes gives passing checks gives_bits repr size width times vector wide field vectors fit range room hold luck hash digest
    digests m n e roots deep radius count opening
  where
    wide : 0 < width
    wide = omega (arith, deep)
