-- A statement is determined by its numbers, whatever comes after them.
use Rattle.std.proofs.Common.{◌≡◌, ℕ, List, [], ◌∷◌, ◌++◌, length, drop, refl, sym, ◌∙◌, ap, ap₂, append_assoc, arith}
use Rattle.std.specs.Prelude.{slice_index}
use Rattle.std.specs.List.{flat_map}
use Rattle.std.proofs.lemmas.List.Concat.{flat_map-cons}
use Rattle.sum_checks.specs.Sumcheck.{Statement, SumStatementsDiffer, statement_numbers, term_numbers}
use Rattle.sum_checks.specs.Terms.{Product}

-- the first numbers of equal lists are equal, and so are the others
first-same : (x y : ℕ) (xs ys : List ℕ) → x ∷ xs ≡ y ∷ ys → x ≡ y
first-same x y xs ys is = ap (λ (ns : List ℕ). slice_index ns 0) is

others-same : (x y : ℕ) (xs ys : List ℕ) → x ∷ xs ≡ y ∷ ys → xs ≡ ys
others-same x y xs ys is = ap (λ (ns : List ℕ). drop 1 ns) is

-- lists of one length that begin equal lists are equal, and so is what comes after them
append-same : (xs ys more others : List ℕ) → length xs ≡ length ys → xs ++ more ≡ ys ++ others → (xs ≡ ys) × (more ≡ others)
append-same [] [] more others same is = (refl, is)
append-same [] (y ∷ ys) more others same is = absurd (omega (arith, same))
append-same (x ∷ xs) [] more others same is = absurd (omega (arith, same))
append-same (x ∷ xs) (y ∷ ys) more others same is =
    let long : length xs ≡ length ys = omega (arith, same) in
    let rest = append-same xs ys more others long (others-same x y (xs ++ more) (ys ++ others) is) in
    (ap₂ (λ (n : ℕ) (ns : List ℕ). n ∷ ns) (first-same x y (xs ++ more) (ys ++ others) is) rest.0, rest.1)

-- a term by its parts
abbrev product : ℕ → List ℕ → Product
product coefficient factors = record { coefficient = coefficient; factors = factors }

-- the numbers of a term, and what comes after them
term-numbers : (p : Product) (more : List ℕ) → term_numbers p ++ more ≡ length p.factors ∷ p.factors ++ p.coefficient ∷ more
term-numbers p more = ap (λ (ns : List ℕ). length p.factors ∷ ns) (append_assoc p.factors (p.coefficient ∷ []) more)

term-same : (p q : Product) (more others : List ℕ) → term_numbers p ++ more ≡ term_numbers q ++ others → (p ≡ q) × (more ≡ others)
term-same p q more others is =
    let both : length p.factors ∷ p.factors ++ p.coefficient ∷ more ≡ length q.factors ∷ q.factors ++ q.coefficient ∷ others =
    sym (term-numbers p more) ∙ is ∙ term-numbers q others in
    let parts =
    append-same p.factors q.factors (p.coefficient ∷ more) (q.coefficient ∷ others)
    (first-same (length p.factors) (length q.factors) (p.factors ++ p.coefficient ∷ more) (q.factors ++ q.coefficient ∷ others) both)
    (others-same (length p.factors) (length q.factors) (p.factors ++ p.coefficient ∷ more) (q.factors ++ q.coefficient ∷ others) both) in
    (ap₂ product (first-same p.coefficient q.coefficient more others parts.1) parts.0, others-same p.coefficient q.coefficient more others parts.1)

-- the numbers of terms, from the first term on
terms-first : (p : Product) (ps : List Product) (more : List ℕ)
    → flat_map term_numbers (p ∷ ps) ++ more ≡ term_numbers p ++ (flat_map term_numbers ps ++ more)
terms-first p ps more =
    ap (λ (ns : List ℕ). ns ++ more) (flat_map-cons term_numbers p ps) ∙ append_assoc (term_numbers p) (flat_map term_numbers ps) more

-- as many terms
terms-same : (ps qs : List Product) (more others : List ℕ) → length ps ≡ length qs
    → flat_map term_numbers ps ++ more ≡ flat_map term_numbers qs ++ others → (ps ≡ qs) × (more ≡ others)
terms-same [] [] more others same is = (refl, is)
terms-same [] (q ∷ qs) more others same is = absurd (omega (arith, same))
terms-same (p ∷ ps) [] more others same is = absurd (omega (arith, same))
terms-same (p ∷ ps) (q ∷ qs) more others same is =
    let long : length ps ≡ length qs = omega (arith, same) in
    let first =
    term-same p q (flat_map term_numbers ps ++ more) (flat_map term_numbers qs ++ others)
    (sym (terms-first p ps more) ∙ is ∙ terms-first q qs others) in
    let rest = terms-same ps qs more others long first.1 in
    (ap₂ (λ (r : Product) (rs : List Product). r ∷ rs) first.0 rest.0, rest.1)

-- a statement by its parts
abbrev statement : ℕ → ℕ → ℕ → ℕ → List Product → ℕ → Statement
statement width rounds tables square terms claim =
    record { width = width; rounds = rounds; tables = tables; square = square; terms = terms; claim = claim }

module _ (s t : Statement) (more others : List ℕ) where
  -- what comes after the five counts
  abbrev rest_of : Statement → List ℕ → List ℕ
  rest_of u after = flat_map term_numbers u.terms ++ u.claim ∷ after

  whole : (u : Statement) (after : List ℕ) → statement_numbers u ++ after
      ≡ u.width ∷ u.rounds ∷ u.tables ∷ length u.terms ∷ u.square ∷ rest_of u after
  whole u after =
      ap (λ (ns : List ℕ). u.width ∷ u.rounds ∷ u.tables ∷ length u.terms ∷ u.square ∷ ns)
      (append_assoc (flat_map term_numbers u.terms) (u.claim ∷ []) after)

  module _ (is : statement_numbers s ++ more ≡ statement_numbers t ++ others) where
    all : s.width ∷ s.rounds ∷ s.tables ∷ length s.terms ∷ s.square ∷ rest_of s more
        ≡ t.width ∷ t.rounds ∷ t.tables ∷ length t.terms ∷ t.square ∷ rest_of t others
    all = sym (whole s more) ∙ is ∙ whole t others

    at : (i : ℕ) → slice_index (s.width ∷ s.rounds ∷ s.tables ∷ length s.terms ∷ s.square ∷ rest_of s more) i
        ≡ slice_index (t.width ∷ t.rounds ∷ t.tables ∷ length t.terms ∷ t.square ∷ rest_of t others) i
    at i = ap (λ (ns : List ℕ). slice_index ns i) all

    later : rest_of s more ≡ rest_of t others
    later = ap (λ (ns : List ℕ). drop 5 ns) all

    parts : (s.terms ≡ t.terms) × (s.claim ∷ more ≡ t.claim ∷ others)
    parts = terms-same s.terms t.terms (s.claim ∷ more) (t.claim ∷ others) (at 3) later

    statement-same : s ≡ t
    statement-same =
        ap (λ (w : ℕ). statement w s.rounds s.tables s.square s.terms s.claim) (at 0)
        ∙ ap (λ (n : ℕ). statement t.width n s.tables s.square s.terms s.claim) (at 1)
        ∙ ap (λ (n : ℕ). statement t.width t.rounds n s.square s.terms s.claim) (at 2)
        ∙ ap (λ (n : ℕ). statement t.width t.rounds t.tables n s.terms s.claim) (at 4)
        ∙ ap (λ (ps : List Product). statement t.width t.rounds t.tables t.square ps s.claim) parts.0
        ∙ ap (λ (n : ℕ). statement t.width t.rounds t.tables t.square t.terms n) (first-same s.claim t.claim more others parts.1)

    pub statements-same : (s ≡ t) × (more ≡ others)
    statements-same = (statement-same, others-same s.claim t.claim more others parts.1)

pub statements_differ : SumStatementsDiffer
statements_differ s t more others is = statements-same s t more others is
