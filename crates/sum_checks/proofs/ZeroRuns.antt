-- A zero-check in a transcript: its terms and rows over elements, what its sum-check proves, and what it leaves.
use Rattle.std.proofs.Common.{◌≡◌, ℕ, zero, suc, ◌+◌, ◌-◌, ◌*◌, ◌/◌, ◌%◌, ◌^◌, ◌<◌, ◌≤◌, List, [], ◌∷◌, ◌++◌, length, map, take, drop, get_or, refl, sym, ◌∙◌, ap, ap₂, subst, arith, lit<}
use Rattle.std.specs.Prelude.{slice_index}
use Rattle.std.specs.List.{range_with_len}
use Rattle.std.proofs.lemmas.List.{ext_get_or, length-map, map-append}
use Rattle.std.proofs.lemmas.List.FromFn.{get_or-map-range_with_len, length-map-range_with_len, map-range_with_len_more}
use Rattle.field_base.specs.Field.{IsField}
use Rattle.field_slices.specs.Multilinear.{AreCornerValues, eq_coordinate, eq_corner}
use Rattle.field_base.proofs.Places.{number-at, numbers-lt}
use Rattle.sum_checks.specs.Products.{term_product}
use Rattle.sum_checks.specs.Sumcheck.{IsRunOf, Statement, messages_of, statement_of}
use Rattle.sum_checks.specs.SumcheckClaims.{AreHonestMessages, AreMessages, reduced_claim}
use Rattle.sum_checks.specs.Terms.{Product, degree_of, table_value}
use Rattle.sum_checks.specs.declared.terms.Term.{Term}
use Rattle.sum_checks.specs.ZeroCheck.{eq_point, zero_check_entry, zero_check_rows, zero_check_terms, zero_check_value}
use Rattle.sum_checks.specs.ZeroCheckRuns.{NeedsLuck, zero_check_row, zero_check_statement}
use Rattle.sum_checks.proofs.Runs.{messages-length, turns-length}
use Rattle.sum_checks.proofs.SumcheckSteps.{message-long, rest-long}
use Rattle.sum_checks.proofs.ZeroSums.{entry-value, false_zeros_need_luck, zeros_reduce}

-- ---- terms

pub terms-are : {F : Type 0} (repr : F → ℕ) (none one both : List (Term F)) (x y : F) → none ≡ []
    → one ≡ none ++ (record { coefficient = x; factors = 0 ∷ 1 ∷ 2 ∷ 0 ∷ []; count = 3 }) ∷ []
    → both ≡ one ++ (record { coefficient = y; factors = 0 ∷ 3 ∷ 0 ∷ 0 ∷ []; count = 2 }) ∷ [] → repr x ≡ 1 → repr y ≡ 1
    → map (term_product repr) both ≡ zero_check_terms
terms-are {F} repr none one both x y is_none is_one is_both first second =
    ap (map (term_product repr)) (is_both ∙ ap (λ (ts : List (Term F)). ts ++ (record { coefficient = y; factors = 0 ∷ 3 ∷ 0 ∷ 0 ∷ []; count = 2 }) ∷ []) (is_one
    ∙ ap (λ (ts : List (Term F)). ts ++ (record { coefficient = x; factors = 0 ∷ 1 ∷ 2 ∷ 0 ∷ []; count = 3 }) ∷ []) is_none))
    ∙ ap₂ (λ (m n : ℕ). (record { coefficient = m; factors = 0 ∷ 1 ∷ 2 ∷ [] }) ∷ (record { coefficient = n; factors = 0 ∷ 3 ∷ [] }) ∷ []) first second

-- a term has three factors at most
pub degree-three : degree_of zero_check_terms ≡ 3
unfolding degree_of
degree-three = refl

-- ---- rows

-- four values behind others, one by one
four-more : {A : Type 0} (xs : List A) (p q r s : A) → (((xs ++ p ∷ []) ++ q ∷ []) ++ r ∷ []) ++ s ∷ [] ≡ xs ++ p ∷ q ∷ r ∷ s ∷ []
four-more [] p q r s = refl
four-more (x ∷ xs) p q r s = ap (λ (ys : List _). x ∷ ys) (four-more xs p q r s)

pub four-pushed : {A : Type 0} (before one two three after : List A) (p q r s : A) → one ≡ before ++ p ∷ [] → two ≡ one ++ q ∷ []
    → three ≡ two ++ r ∷ [] → after ≡ three ++ s ∷ [] → after ≡ before ++ p ∷ q ∷ r ∷ s ∷ []
four-pushed before one two three after p q r s first second third fourth =
    fourth
    ∙ ap (λ (xs : List _). xs ++ s ∷ []) (third ∙ ap (λ (xs : List _). xs ++ r ∷ []) (second ∙ ap (λ (xs : List _). xs ++ q ∷ []) first))
    ∙ four-more before p q r s

module _ {F : Type 0} (repr : F → ℕ) (times : ℕ → ℕ → ℕ) (point a b c : List F) where
  -- the rows of the first corners
  abbrev pub AreRows : List F → ℕ → Type 0
  AreRows rows i =
      map repr rows
      ≡ map (λ k. zero_check_entry times (map repr point) (map repr a) (map repr b) (map repr c) (k / 4) (k % 4)) (range_with_len 0 (i * 4))

  pub rows-none : (rows : List F) → rows ≡ [] → AreRows rows 0
  rows-none rows none = ap (map repr) none

  -- the table of eq
  abbrev pub AreWeights : List F → Type 0
  AreWeights weights = map repr weights ≡ map (eq_corner times (map repr point)) (range_with_len 0 (2 ^ length point))

  weights-long : (weights : List F) → AreWeights weights → length weights ≡ 2 ^ length point
  weights-long weights table =
      sym (length-map weights repr) ∙ ap length table ∙ length-map-range_with_len (eq_corner times (map repr point)) 0 (2 ^ length point)

  -- .. which has an entry for each corner
  pub corner-inside : (weights : List F) (i : ℕ) → AreWeights weights → i < length a → length a ≡ 2 ^ length point → i < length weights
  corner-inside weights i table within size = subst (λ (n : ℕ). i < n) (size ∙ sym (weights-long weights table)) within

  -- e at a corner
  weight-at : (weights : List F) (i : ℕ) (e : F) → AreWeights weights → i < 2 ^ length point → e ≡ get_or weights i e
      → repr e ≡ eq_corner times (map repr point) i
  weight-at weights i e table inside is =
      sym (number-at repr weights i e (subst (λ (n : ℕ). i < n) (sym (weights-long weights table)) inside) is)
      ∙ ap (λ (ns : List ℕ). slice_index ns i) table
      ∙ get_or-map-range_with_len (eq_corner times (map repr point)) 0 (2 ^ length point) i i 0 inside (omega arith)

  -- .. and those of one corner more
  pub rows-more : (weights before after : List F) (i : ℕ) (e x y z : F) → AreWeights weights → i < length a
      → length a ≡ 2 ^ length point → length b ≡ 2 ^ length point → length c ≡ 2 ^ length point → e ≡ get_or weights i e → x ≡ get_or a i x
      → y ≡ get_or b i y → z ≡ get_or c i z → after ≡ before ++ e ∷ x ∷ y ∷ z ∷ [] → AreRows before i → AreRows after (i + 1)
  unfolding zero_check_entry
  rows-more weights before after i e x y z table within a_size b_size c_size e_is x_is y_is z_is is so_far =
      ap (map repr) is ∙ map-append repr before (e ∷ x ∷ y ∷ z ∷ [])
      ∙ ap₂ (λ (ms ns : List ℕ). ms ++ ns) so_far
      (ap₂ (λ (m : ℕ) (ns : List ℕ). m ∷ ns) (weight-at weights i e table inside e_is ∙ sym (at 0 (lit< tt)))
      (ap₂ (λ (m : ℕ) (ns : List ℕ). m ∷ ns) (sym (number-at repr a i x (in-table a a_size) x_is) ∙ sym (at 1 (lit< tt)))
      (ap₂ (λ (m n : ℕ). m ∷ n ∷ []) (sym (number-at repr b i y (in-table b b_size) y_is) ∙ sym (at 2 (lit< tt)))
      (sym (number-at repr c i z (in-table c c_size) z_is) ∙ sym (at 3 (lit< tt))))))
      ∙ sym (four-more (map entry (range_with_len 0 (i * 4))) (entry (i * 4 + 0)) (entry (i * 4 + 1)) (entry (i * 4 + 2)) (entry (i * 4 + 3)))
      ∙ sym four
    where
      inside : i < 2 ^ length point
      inside = subst (λ (n : ℕ). i < n) a_size within

      in-table : (values : List F) → length values ≡ 2 ^ length point → i < length values
      in-table values size = subst (λ (n : ℕ). i < n) (sym size) inside

      entry : ℕ → ℕ
      entry k = zero_check_entry times (map repr point) (map repr a) (map repr b) (map repr c) (k / 4) (k % 4)

      at : (j : ℕ) → j < 4 → entry (i * 4 + j) ≡ zero_check_entry times (map repr point) (map repr a) (map repr b) (map repr c) i j
      at j below =
          let row : (i * 4 + j) / 4 ≡ i = omega (arith, below) in
          let column : (i * 4 + j) % 4 ≡ j = omega (arith, below) in
          ap₂ (zero_check_entry times (map repr point) (map repr a) (map repr b) (map repr c)) row column

      one : (n j : ℕ) → n ≡ j → map entry (range_with_len 0 (n + 1)) ≡ map entry (range_with_len 0 n) ++ entry j ∷ []
      one n j same = map-range_with_len_more entry 0 n j (omega (arith, same))

      four : map entry (range_with_len 0 ((i + 1) * 4))
          ≡ (((map entry (range_with_len 0 (i * 4)) ++ entry (i * 4 + 0) ∷ []) ++ entry (i * 4 + 1) ∷ []) ++ entry (i * 4 + 2) ∷ [])
          ++ entry (i * 4 + 3) ∷ []
      four =
          let all : (i + 1) * 4 ≡ i * 4 + 1 + 1 + 1 + 1 = omega arith in
          ap (λ (n : ℕ). map entry (range_with_len 0 n)) all
          ∙ one (i * 4 + 1 + 1 + 1) (i * 4 + 3) (omega arith)
          ∙ ap (λ (ns : List ℕ). ns ++ entry (i * 4 + 3) ∷ []) (one (i * 4 + 1 + 1) (i * 4 + 2) (omega arith)
          ∙ ap (λ (ns : List ℕ). ns ++ entry (i * 4 + 2) ∷ []) (one (i * 4 + 1) (i * 4 + 1) refl
          ∙ ap (λ (ns : List ℕ). ns ++ entry (i * 4 + 1) ∷ []) (one (i * 4) (i * 4 + 0) (omega arith))))

  -- .. and of all
  pub rows-whole : (rows : List F) (i : ℕ) → i ≡ 2 ^ length point → AreRows rows i
      → map repr rows ≡ zero_check_rows times (map repr point) (map repr a) (map repr b) (map repr c)
  rows-whole rows i all are =
      are
      ∙ ap (λ (n : ℕ). map (λ k. zero_check_entry times (map repr point) (map repr a) (map repr b) (map repr c) (k / 4) (k % 4)) (range_with_len 0 (n * 4)))
      (all ∙ ap (λ (n : ℕ). 2 ^ n) (sym (length-map point repr)))

  -- .. which are four for each corner
  pub rows-count : (rows : List F) (rounds : ℕ)
      → map repr rows ≡ zero_check_rows times (map repr point) (map repr a) (map repr b) (map repr c) → length point ≡ rounds
      → length rows ≡ 2 ^ rounds * 4
  rows-count rows rounds are long =
      sym (length-map rows repr) ∙ ap length are
      ∙ length-map-range_with_len (λ k. zero_check_entry times (map repr point) (map repr a) (map repr b) (map repr c) (k / 4) (k % 4)) 0
      (2 ^ length (map repr point) * 4)
      ∙ ap (λ (n : ℕ). 2 ^ n * 4) (length-map point repr ∙ long)

-- ---- eq of two points

module _ {F : Type 0} (repr : F → ℕ) (times : ℕ → ℕ → ℕ) where
  pub eq-none : (point other : List F) → length point ≡ 0 → 1 ≡ eq_point times (map repr point) (map repr other)
  unfolding eq_point
  eq-none [] other none = refl
  eq-none (x ∷ xs) other none = absurd (omega (arith, none))

  pub eq-more : (point rest other others : List F) (x y : F) → point ≡ x ∷ rest → other ≡ y ∷ others
      → times (eq_coordinate times (repr x) (repr y)) (eq_point times (map repr rest) (map repr others))
      ≡ eq_point times (map repr point) (map repr other)
  unfolding eq_point
  eq-more point rest other others x y is other_is =
      sym (ap₂ (λ (xs ys : List F). eq_point times (map repr xs) (map repr ys)) is other_is)

-- ---- runs

module _ {C F : Type 0} (observes : C → F → C → Type 0) (gives : C → F → C → Type 0) (width : ℕ) (times : ℕ → ℕ → ℕ) (repr : F → ℕ) where
  -- a run of sum-check of these terms and of the claim 0
  pub run-of : (old new : C) (rounds : ℕ) (terms : List Product) (claim : ℕ) (messages point : List F) → terms ≡ zero_check_terms → claim ≡ 0
      → IsRunOf observes gives repr old (statement_of width times rounds 4 terms claim) (messages_of (degree_of terms) rounds messages) point new
      → IsRunOf observes gives repr old (zero_check_statement width times rounds) (messages_of 3 rounds messages) point new
  run-of old new rounds terms claim messages point are none run =
      subst (λ (d : ℕ). IsRunOf observes gives repr old (zero_check_statement width times rounds) (messages_of d rounds messages) point new)
      degree-three
      (subst (λ (n : ℕ). IsRunOf observes gives repr old (statement_of width times rounds 4 zero_check_terms n) (messages_of (degree_of zero_check_terms) rounds messages) point new)
      none
      (subst (λ (ts : List Product). IsRunOf observes gives repr old (statement_of width times rounds 4 ts claim) (messages_of (degree_of ts) rounds messages) point new)
      are run))

  -- a challenge comes after each message
  pub run-long : (old new : C) (statement : Statement) (d rounds : ℕ) (messages point : List F)
      → IsRunOf observes gives repr old statement (messages_of d rounds messages) point new → length point ≡ rounds
  run-long old new statement d rounds messages point run =
      turns-length observes gives (messages_of d rounds messages) point run.1 new run.4 ∙ messages-length d rounds messages

-- honest messages of these terms
pub honest-of : (times : ℕ → ℕ → ℕ) (terms : List Product) (rows zero_rows point : List ℕ) (messages : ℕ → List (List ℕ))
    → terms ≡ zero_check_terms → rows ≡ zero_rows → AreHonestMessages times terms 4 (degree_of terms) rows (messages (degree_of terms)) point
    → AreHonestMessages times zero_check_terms 4 3 zero_rows (messages 3) point
honest-of times terms rows zero_rows point messages are same honest =
    subst (λ (n : ℕ). AreHonestMessages times zero_check_terms 4 n zero_rows (messages n) point) degree-three
    (subst (λ (ns : List ℕ). AreHonestMessages times zero_check_terms 4 (degree_of zero_check_terms) ns (messages (degree_of zero_check_terms)) point) same
    (subst (λ (ts : List Product). AreHonestMessages times ts 4 (degree_of ts) rows (messages (degree_of ts)) point) are honest))

-- ---- what is left

-- messages of elements
messages-are : {F : Type 0} (repr : F → ℕ) (width d n : ℕ) → ((x : F) → repr x < 2 ^ width) → (values : List F) → length values ≡ n * d
    → AreMessages width d (map (map repr) (messages_of d n values))
unfolding AreMessages messages_of
messages-are repr width d zero range values long = tt
messages-are repr width d (suc n) range values long =
    let some : 0 < suc n = omega arith in
    let before : suc n - 1 ≡ n = omega arith in (
      length-map (take d values) repr ∙ message-long values (take d values) (suc n) d some long refl,
      numbers-lt repr width range (take d values),
      messages-are repr width d n range (drop d values)
          (rest-long values (drop d values) (suc n) d some long refl ∙ ap (λ (m : ℕ). m * d) before),
    )

module _ {F : Type 0} (repr : F → ℕ) (width : ℕ) (times : ℕ → ℕ → ℕ) (field : IsField width times) (enough : 3 ≤ width)
    (range : (x : F) → repr x < 2 ^ width) where
  corner-values : (values start : List F) (rounds : ℕ) → length values ≡ 2 ^ rounds → length start ≡ rounds
      → AreCornerValues width (length (map repr start)) (map repr values)
  corner-values values start rounds size long = record {
    count = length-map values repr ∙ size ∙ ap (λ (n : ℕ). 2 ^ n) (sym (length-map start repr ∙ long));
    each_fits = numbers-lt repr width range values;
  }

  module _ (start point : List F) (rounds : ℕ) (start_long : length start ≡ rounds) (point_long : length point ≡ rounds) where
    same-long : length (map repr point) ≡ length (map repr start)
    same-long = length-map point repr ∙ point_long ∙ sym (length-map start repr ∙ start_long)

    pub zeros-complete : (a b c : List F) (messages : List (List ℕ)) → length a ≡ 2 ^ rounds → length b ≡ 2 ^ rounds → length c ≡ 2 ^ rounds
        → AreHonestMessages times zero_check_terms 4 3 (zero_check_rows times (map repr start) (map repr a) (map repr b) (map repr c)) messages (map repr point)
        → ((i : ℕ) → i < 2 ^ rounds → times (slice_index (map repr a) i) (slice_index (map repr b) i) ≡ slice_index (map repr c) i)
        → reduced_claim width times 0 messages (map repr point)
        ≡ zero_check_value times (map repr start) (map repr point) (map repr a) (map repr b) (map repr c)
    zeros-complete a b c messages a_size b_size c_size honest meets =
        zeros_reduce width times (map repr a) (map repr b) (map repr c) (map repr start) (map repr point) messages field (omega (arith, enough))
        (corner-values a start rounds a_size start_long) (corner-values b start rounds b_size start_long)
        (corner-values c start rounds c_size start_long) same-long
        (λ i below. meets i (subst (λ (n : ℕ). i < 2 ^ n) (length-map start repr ∙ start_long) below)) honest

    pub zeros-sound : (messages : List F) (claim : ℕ) → length messages ≡ rounds * 3
        → claim ≡ reduced_claim width times 0 (map (map repr) (messages_of 3 rounds messages)) (map repr point)
        → NeedsLuck width times (map repr start) (map repr point) (map (map repr) (messages_of 3 rounds messages)) claim
    zeros-sound messages claim long is a b c i a_are b_are c_are inside differ reaches =
        false_zeros_need_luck width times a b c (map repr start) (map repr point) (map (map repr) (messages_of 3 rounds messages)) i field
        (omega (arith, enough)) a_are b_are c_are same-long (messages-are repr width 3 rounds range messages long)
        (length-map (messages_of 3 rounds messages) (map repr) ∙ messages-length 3 rounds messages ∙ sym (length-map point repr ∙ point_long)) inside differ
        (sym is ∙ reaches)

    pub zeros-values : (a b c rows : List ℕ) (values : List F) → rows ≡ zero_check_rows times (map repr start) a b c → length values ≡ 4
        → ((j : ℕ) → j < 4 → slice_index (map repr values) j ≡ table_value times 4 rows (map repr point) j)
        → map repr values ≡ zero_check_row times (map repr start) (map repr point) a b c
    zeros-values a b c rows values are long each =
        ext_get_or 0 (map repr values) (zero_check_row times (map repr start) (map repr point) a b c) (length-map values repr ∙ long)
        (λ j inside.
        let below : j < 4 = subst (λ (n : ℕ). j < n) (length-map values repr ∙ long) inside in
        each j below ∙ ap (λ (ns : List ℕ). table_value times 4 ns (map repr point) j) are
        ∙ entry-value width times field.ring (map repr start) a b c (map repr point) same-long (omega (arith, enough)) j below)
