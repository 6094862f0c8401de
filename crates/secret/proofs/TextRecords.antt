-- A text line by line, and what is gathered of the records that its lines say.
use Rattle.std.proofs.Common.{◌≡◌, ◌⊎◌, inl, inr, ℕ, suc, ◌+◌, ◌-◌, ◌*◌, ◌/◌, ◌<◌, List, [], ◌∷◌, ◌++◌, length, map, drop, refl, sym, ◌∙◌, ap, ap₂, subst, arith, append_assoc}
use Rattle.std.specs.Prelude.{All, slice_index}
use Rattle.std.specs.List.{flat_map}
use Rattle.std.proofs.lemmas.List.{append-nil, get_or-take, length-append, length-drop, length-map, map-append}
use Rattle.std.proofs.lemmas.List.Concat.{flat_map-append}
use Rattle.std.proofs.lemmas.List.Elements.{All-append, All-cons, All-head, All-nil, All-tail, All-weaker}
use native.Mathlib.Nat.{mul-div_cancel_left}
use Rattle.secret.specs.Combining.{IsSecretOf}
use Rattle.secret.specs.Records.{HasField, SaysRecord}
use Rattle.secret.specs.Texts.{AreGathered, AreOfSet, AreOneSet, CutsLine, EndsLine, IsSecretOfText, TextSays, first_of}

-- ---- what a text says

pub says-nothing : TextSays [] []
unfolding TextSays
says-nothing = All-nil (λ b. b ≡ 10)

-- with a line feed in front it says the same
pub says-behind_feed : (text : List ℕ) (entries : List (List ℕ)) → TextSays text entries → TextSays (10 ∷ text) entries
unfolding TextSays
says-behind_feed text [] says = All-cons (λ b. b ≡ 10) 10 text refl says
says-behind_feed text (entry ∷ entries) says =
    (10 ∷ says.0, says.1, says.2, All-cons (λ b. b ≡ 10) 10 says.0 refl says.3, ap (λ (t : List ℕ). 10 ∷ t) says.4, says.5, says.6, says.7)

-- and with a line in front its record too
pub says-line : (line rest entry : List ℕ) (entries : List (List ℕ)) → SaysRecord line entry → EndsLine rest → TextSays rest entries
    → TextSays (line ++ rest) (entry ∷ entries)
unfolding TextSays
says-line line rest entry entries says ends more = ([], line, rest, All-nil (λ b. b ≡ 10), refl, says, ends, more)

module _ (text line rest : List ℕ) (cuts : CutsLine text line rest) where
  -- a line that is cut off
  pub says-cut : (entry : List ℕ) (entries : List (List ℕ)) → SaysRecord line entry → TextSays rest entries → TextSays text (entry ∷ entries)
  says-cut entry entries says more = pick cuts.1
    where
      pick : (text ≡ line ++ 10 ∷ rest) ⊎ ((text ≡ line) × (rest ≡ [])) → TextSays text (entry ∷ entries)
      pick (inl fed) =
          subst (λ (t : List ℕ). TextSays t (entry ∷ entries)) (sym fed)
          (says-line line (10 ∷ rest) entry entries says (inr (rest, refl)) (says-behind_feed rest entries more))
      pick (inr last) =
          subst (λ (t : List ℕ). TextSays t (entry ∷ entries))
          (ap (λ (r : List ℕ). line ++ r) last.1 ∙ append-nil line ∙ sym last.0)
          (says-line line rest entry entries says (inl last.1) more)

  -- an empty line
  pub says-empty : line ≡ [] → (entries : List (List ℕ)) → TextSays rest entries → TextSays text entries
  says-empty none entries more = pick cuts.1
    where
      pick : (text ≡ line ++ 10 ∷ rest) ⊎ ((text ≡ line) × (rest ≡ [])) → TextSays text entries
      pick (inl fed) =
          subst (λ (t : List ℕ). TextSays t entries) (sym (fed ∙ ap (λ (l : List ℕ). l ++ 10 ∷ rest) none)) (says-behind_feed rest entries more)
      pick (inr last) = subst (λ (t : List ℕ). TextSays t entries) (last.1 ∙ sym (last.0 ∙ none)) more

-- what the text says whose rest is empty
pub says-all : (text rest : List ℕ) (entries : List (List ℕ)) → rest ≡ []
    → ((more : List (List ℕ)) → TextSays rest more → TextSays text (entries ++ more)) → TextSays text entries
says-all text rest entries none all =
    subst (TextSays text) (append-nil entries) (all [] (subst (λ (t : List ℕ). TextSays t []) (sym none) says-nothing))

-- one record more
pub says-more : (text rest next : List ℕ) (entries : List (List ℕ)) (entry : List ℕ)
    → ((more : List (List ℕ)) → TextSays rest more → TextSays text (entries ++ more))
    → ((more : List (List ℕ)) → TextSays next more → TextSays rest (entry ∷ more))
    → (more : List (List ℕ)) → TextSays next more → TextSays text ((entries ++ entry ∷ []) ++ more)
says-more text rest next entries entry all one more says =
    subst (TextSays text) (sym (append_assoc entries (entry ∷ []) more)) (all (entry ∷ more) (one more says))

-- ---- what is gathered

pub nothing-gathered : (first indexes shares : List ℕ) → first ≡ [] → indexes ≡ [] → shares ≡ [] → AreGathered [] first indexes shares
nothing-gathered first indexes shares a b c = record {
  first_is = a;
  of_set = All-nil (AreOfSet first);
  indexes_are = b;
  shares_are = c;
}

-- the first of records with others behind them
first-behind : (entries : List (List ℕ)) (entry : List ℕ) (more : List (List ℕ)) (first next : List ℕ) → first ≡ first_of entries
    → All (AreOfSet first) entries → ((first ≡ []) × (next ≡ entry)) ⊎ ((0 < length first) × (next ≡ first))
    → next ≡ first_of (entries ++ entry ∷ more)
first-behind [] entry more first next is of (inl begun) = begun.1
first-behind [] entry more first next is of (inr later) = absurd (let long = later.0 in let none = ap length is in omega (arith, long, none))
first-behind (e ∷ es) entry more first next is of (inl begun) =
    let some = (All-head (AreOfSet first) e es of).some in let same = (All-head (AreOfSet first) e es of).same_length in let none = ap length begun.0 in
    absurd (omega (arith, some, same, none))
first-behind (e ∷ es) entry more first next is of (inr later) = later.1 ∙ is

-- none was of a set before the first
of-next : (entries : List (List ℕ)) (entry first next : List ℕ) → first ≡ first_of entries → All (AreOfSet first) entries
    → ((first ≡ []) × (next ≡ entry)) ⊎ ((0 < length first) × (next ≡ first)) → All (AreOfSet next) entries
of-next [] entry first next is of which = All-nil (AreOfSet next)
of-next (e ∷ es) entry first next is of (inl begun) =
    let some = (All-head (AreOfSet first) e es of).some in let same = (All-head (AreOfSet first) e es of).same_length in let none = ap length begun.0 in
    absurd (omega (arith, some, same, none))
of-next (e ∷ es) entry first next is of (inr later) = subst (λ (f : List ℕ). All (AreOfSet f) (e ∷ es)) (sym later.1) of

-- another record of the set
pub gathered-more : (entries : List (List ℕ)) (entry first indexes shares next next_indexes next_shares : List ℕ)
    → AreGathered entries first indexes shares → ((first ≡ []) × (next ≡ entry)) ⊎ ((0 < length first) × (next ≡ first))
    → AreOfSet next entry → next_indexes ≡ indexes ++ slice_index entry 2 ∷ [] → next_shares ≡ shares ++ drop 11 entry
    → AreGathered (entries ++ entry ∷ []) next next_indexes next_shares
gathered-more entries entry first indexes shares next next_indexes next_shares are which of indexes_is shares_is = record {
  first_is = first-behind entries entry [] first next are.first_is are.of_set which;
  of_set =
      All-append (AreOfSet next) entries (entry ∷ []) (of-next entries entry first next are.first_is are.of_set which)
      (All-cons (AreOfSet next) entry [] of (All-nil (AreOfSet next)));
  indexes_are =
      indexes_is ∙ ap (λ (l : List ℕ). l ++ slice_index entry 2 ∷ []) are.indexes_are
      ∙ sym (map-append (λ (e : List ℕ). slice_index e 2) entries (entry ∷ []));
  shares_are =
      shares_is ∙ ap₂ (λ (front back : List ℕ). front ++ back) are.shares_are (sym (append-nil (drop 11 entry)))
      ∙ sym (flat_map-append (drop 11) entries (entry ∷ []));
}

-- ---- what is not of one set

-- what holds of all holds of the one between
all-between : (P : List ℕ → Type 0) (entries : List (List ℕ)) (entry : List ℕ) (more : List (List ℕ)) → All P (entries ++ entry ∷ more) → P entry
all-between P [] entry more all = All-head P entry more all
all-between P (e ∷ es) entry more all = all-between P es entry more (All-tail P e (es ++ entry ∷ more) all)

-- records are not of one set where one has no share, or is of no field
pub not-of_field : (entries : List (List ℕ)) (entry : List ℕ) (more : List (List ℕ)) → ((11 < length entry) × HasField entry → ⊥)
    → AreOneSet (entries ++ entry ∷ more) → ⊥
not-of_field entries entry more none one =
    none
    ((all-between (AreOfSet (first_of (entries ++ entry ∷ more))) entries entry more one.of_set).some, all-between HasField entries entry more one.fields)

-- nor where one is not of the set of those before it
pub not-of_set : (entries : List (List ℕ)) (entry : List ℕ) (more : List (List ℕ)) (first indexes shares next : List ℕ)
    → AreGathered entries first indexes shares → ((first ≡ []) × (next ≡ entry)) ⊎ ((0 < length first) × (next ≡ first))
    → (AreOfSet next entry → ⊥) → AreOneSet (entries ++ entry ∷ more) → ⊥
not-of_set entries entry more first indexes shares next are which differs one =
    differs
    (subst (λ (f : List ℕ). AreOfSet f entry) (sym (first-behind entries entry more first next are.first_is are.of_set which))
    (all-between (AreOfSet (first_of (entries ++ entry ∷ more))) entries entry more one.of_set))

-- ---- the secret of a text

-- the records of a text that has a secret are of one set
pub one-set : (text secret wrong : List ℕ) → (is : IsSecretOfText text secret wrong) → AreOneSet is.entries
one-set text secret wrong is = record {
  of_set = subst (λ (f : List ℕ). All (AreOfSet f) is.entries) is.gathered.first_is is.gathered.of_set;
  fields = All-weaker (AreOfSet is.first) HasField named is.entries is.gathered.of_set;
}
  where
    named : (entry : List ℕ) → AreOfSet is.first entry → HasField entry
    named entry of = (
      is.combined.field,
      (
        is.combined.number.0 ∙ sym (get_or-take 2 is.first 0 0 (omega arith)) ∙ ap (λ (l : List ℕ). slice_index l 0) of.same_head
            ∙ get_or-take 2 entry 0 0 (omega arith),
        is.combined.number.1,
      ),
    )

-- as many bytes are gathered as the records have in their shares
pub shares-long : (first : List ℕ) (entries : List (List ℕ)) → All (AreOfSet first) entries
    → length (flat_map (drop 11) entries) ≡ length entries * (length first - 11)
shares-long first [] of = let none : 0 ≡ 0 * (length first - 11) = omega arith in none
shares-long first (e ∷ es) of =
    let own = length-drop 11 e in
    let same = (All-head (AreOfSet first) e es of).same_length in
    let others = shares-long first es (All-tail (AreOfSet first) e es of) in
    let joined = length-append (drop 11 e) (flat_map (drop 11) es) in
    let more : suc (length es) * (length first - 11) ≡ length first - 11 + length es * (length first - 11) = omega arith in
    omega (arith, own, same, others, joined, more)

module _ (text secret wrong : List ℕ) (is : IsSecretOfText text secret wrong) where
  -- there are as many shares as records
  indexes-long : length is.indexes ≡ length is.entries
  indexes-long = ap length is.gathered.indexes_are ∙ length-map is.entries (λ entry. slice_index entry 2)

  -- and the secret has as many bytes as a share
  pub secret-long : length is.first ≡ 11 + length secret
  secret-long =
      let shares = ap length is.gathered.shares_are ∙ shares-long is.first is.entries is.gathered.of_set in
      let room = is.combined.shares_are.room in
      let some = is.combined.shares_are.some in
      let two = is.combined.shares_are.two in
      let enough = is.combined.shares_are.enough in
      let positive : 0 < length is.entries = omega (arith, two, enough, indexes-long) in
      let product : length is.entries * length secret ≡ length is.entries * (length is.first - 11) =
      ap (λ (n : ℕ). n * length secret) (sym indexes-long) ∙ sym room ∙ shares in
      let same : length secret ≡ length is.first - 11 =
      sym (mul-div_cancel_left (length secret) positive) ∙ ap (λ (n : ℕ). n / length is.entries) product
      ∙ mul-div_cancel_left (length is.first - 11) positive in
      omega (arith, same, some)

  -- what is gathered of the only records that the text says has the secret
  pub gathered-secret : (entries : List (List ℕ)) (first indexes shares : List ℕ) → is.entries ≡ entries → AreGathered entries first indexes shares
      → (length first ≡ 11 + length secret) × IsSecretOf first indexes shares secret wrong
  gathered-secret entries first indexes shares same are = (
    ap length (sym firsts) ∙ secret-long,
    subst (λ (l : List ℕ). IsSecretOf l indexes shares secret wrong) firsts
        (subst (λ (l : List ℕ). IsSecretOf is.first l shares secret wrong) (is.gathered.indexes_are ∙ ap (map (λ entry. slice_index entry 2)) same ∙ sym are.indexes_are)
        (subst (λ (l : List ℕ). IsSecretOf is.first is.indexes l secret wrong) (is.gathered.shares_are ∙ ap (flat_map (drop 11)) same ∙ sym are.shares_are) is.combined)),
  )
    where
      firsts : is.first ≡ first
      firsts = is.gathered.first_is ∙ ap first_of same ∙ sym are.first_is
