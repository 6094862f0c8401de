-- A text says one list of records: each line that is not empty says one record, or none.
use Rattle.std.proofs.Common.{◌≡◌, ◌≢◌, ◌⊎◌, inl, inr, ℕ, zero, suc, ◌<◌, true, List, [], ◌∷◌, ◌++◌, length, take, drop, refl, sym, ◌∙◌, ap, ap₂, subst, arith, take-append-drop, append_assoc, get_or}
use Rattle.std.specs.Prelude.{codes, slice_index}
use Rattle.std.proofs.lemmas.Bool.{true≢false}
use Rattle.std.proofs.lemmas.List.{append-nil, length-append}
use Rattle.std.proofs.lemmas.List.Elements.{All-append, All-from_get_or, All-head, All-tail, All-weaker}
use Rattle.hex.proofs.HexLemmas.{decode_of-ok, decode_of-same}
use Rattle.hex.specs.Hex.{is_hex_digit}
use Rattle.secret.specs.Records.{SaysRecord, check_sum}
use Rattle.secret.specs.Texts.{CutsLine, EndsLine, HasNoFeed, TextSays}
use Rattle.secret.proofs.ShareLines.{sum-length}

-- ---- one line

-- a digit is no line feed
digit-no_feed : (c : ℕ) → is_hex_digit c ≡ true → c ≢ 10
digit-no_feed c digit feed = true≢false (sym digit ∙ ap is_hex_digit feed)

-- the name has none
name-no_feed : HasNoFeed (codes "share-1-")
name-no_feed = All-from_get_or (λ b. b ≢ 10) (codes "share-1-") 0 (λ i inside feed. differs i inside feed)
  where
    differs : (i : ℕ) → i < 8 → get_or (codes "share-1-") i 0 ≢ 10
    differs zero inside feed = absurd (omega (arith, feed))
    differs (suc zero) inside feed = absurd (omega (arith, feed))
    differs (suc (suc zero)) inside feed = absurd (omega (arith, feed))
    differs (suc (suc (suc zero))) inside feed = absurd (omega (arith, feed))
    differs (suc (suc (suc (suc zero)))) inside feed = absurd (omega (arith, feed))
    differs (suc (suc (suc (suc (suc zero))))) inside feed = absurd (omega (arith, feed))
    differs (suc (suc (suc (suc (suc (suc zero)))))) inside feed = absurd (omega (arith, feed))
    differs (suc (suc (suc (suc (suc (suc (suc zero))))))) inside feed = absurd (omega (arith, feed))
    differs (suc (suc (suc (suc (suc (suc (suc (suc n)))))))) inside feed = absurd (omega (arith, inside))

-- a line that says a record has none
pub record-no_feed : (line entry : List ℕ) → SaysRecord line entry → HasNoFeed line
record-no_feed line entry says =
    subst HasNoFeed (take-append-drop 8 line)
    (All-append (λ b. b ≢ 10) (take 8 line) (drop 8 line) (subst HasNoFeed (sym says.named) name-no_feed)
    (All-weaker (λ c. is_hex_digit c ≡ true) (λ b. b ≢ 10) digit-no_feed (drop 8 line) (decode_of-ok (drop 8 line) (entry ++ check_sum entry) says.said).1))

-- lists that end in as many bytes, where they are the same
same-front : (a b c d : List ℕ) → length c ≡ length d → a ++ c ≡ b ++ d → a ≡ b
same-front [] [] c d long same = refl
same-front [] (y ∷ b) c d long same = absurd (let all = ap length same in let parts = length-append b d in omega (arith, long, all, parts))
same-front (x ∷ a) [] c d long same = absurd (let all = ap length same in let parts = length-append a c in omega (arith, long, all, parts))
same-front (x ∷ a) (y ∷ b) c d long same =
    ap₂ (λ (z : ℕ) (zs : List ℕ). z ∷ zs) (ap (λ (l : List ℕ). slice_index l 0) same) (same-front a b c d long (ap (drop 1) same))

-- a line says one record
pub record-once : (line one other : List ℕ) → SaysRecord line one → SaysRecord line other → one ≡ other
record-once line one other first second =
    same-front one other (check_sum one) (check_sum other) (sum-length one ∙ sym (sum-length other))
    (decode_of-same (drop 8 line) (one ++ check_sum one) (other ++ check_sum other) first.said second.said)

-- ---- the first line

-- two lines that begin a text are the same
same-line : (one other rest behind : List ℕ) → HasNoFeed one → HasNoFeed other → EndsLine rest → EndsLine behind
    → one ++ rest ≡ other ++ behind → (one ≡ other) × (rest ≡ behind)
same-line [] [] rest behind none also ends ended same = (refl, same)
same-line [] (y ∷ ys) rest behind none also (inl ends) ended same = absurd (let all = ap length (sym ends ∙ same) in omega (arith, all))
same-line [] (y ∷ ys) rest behind none also (inr ends) ended same =
    absurd (All-head (λ b. b ≢ 10) y ys also (sym (ap (λ (l : List ℕ). slice_index l 0) (sym ends.1 ∙ same))))
same-line (x ∷ xs) [] rest behind none also ends (inl ended) same = absurd (let all = ap length (same ∙ ended) in omega (arith, all))
same-line (x ∷ xs) [] rest behind none also ends (inr ended) same =
    absurd (All-head (λ b. b ≢ 10) x xs none (ap (λ (l : List ℕ). slice_index l 0) (same ∙ ended.1)))
same-line (x ∷ xs) (y ∷ ys) rest behind none also ends ended same =
    let later : (xs ≡ ys) × (rest ≡ behind) =
    same-line xs ys rest behind (All-tail (λ b. b ≢ 10) x xs none) (All-tail (λ b. b ≢ 10) y ys also) ends ended (ap (drop 1) same) in
    (ap₂ (λ (z : ℕ) (zs : List ℕ). z ∷ zs) (ap (λ (l : List ℕ). slice_index l 0) same) later.0, later.1)

-- a text whose first line is not empty says the record of this line, and those of the others
abbrev pub SaysFirst : List ℕ → List ℕ → List (List ℕ) → Type 0
SaysFirst line rest all =
    (entry : List ℕ) × (more : List (List ℕ)) × (all ≡ entry ∷ more) × SaysRecord line entry × TextSays rest more

says-first : (b : ℕ) (line rest : List ℕ) (all : List (List ℕ)) → HasNoFeed (b ∷ line) → EndsLine rest → TextSays ((b ∷ line) ++ rest) all
    → SaysFirst (b ∷ line) rest all
unfolding TextSays
says-first b line rest [] none ends says = absurd (All-head (λ c. c ≢ 10) b line none (All-head (λ c. c ≡ 10) b (line ++ rest) says))
says-first b line rest (entry ∷ more) none ends ([], own, behind, feeds, same, record_is, ended, later) =
    let parts : (own ≡ b ∷ line) × (behind ≡ rest) =
    same-line own (b ∷ line) behind rest (record-no_feed own entry record_is) none ended ends (sym same) in
    (entry, more, refl, subst (λ (l : List ℕ). SaysRecord l entry) parts.0 record_is, subst (λ (l : List ℕ). TextSays l more) parts.1 later)
says-first b line rest (entry ∷ more) none ends (f ∷ fs, own, behind, feeds, same, record_is, ended, later) =
    absurd (All-head (λ c. c ≢ 10) b line none (ap (λ (l : List ℕ). slice_index l 0) same ∙ All-head (λ c. c ≡ 10) f fs feeds))

-- a line that says a record is not empty
record-some : (entry : List ℕ) → SaysRecord [] entry → ⊥
record-some entry says = let long = ap length says.named in absurd (omega (arith, long))

-- behind a line feed a text says the same
pub says-past_feed : (text : List ℕ) (all : List (List ℕ)) → TextSays (10 ∷ text) all → TextSays text all
unfolding TextSays
says-past_feed text [] says = All-tail (λ b. b ≡ 10) 10 text says
says-past_feed text (entry ∷ more) (f ∷ fs, own, behind, feeds, same, record_is, ended, later) =
    (fs, own, behind, All-tail (λ b. b ≡ 10) f fs feeds, ap (drop 1) same, record_is, ended, later)
says-past_feed text (entry ∷ more) ([], [], behind, feeds, same, record_is, ended, later) = absurd (record-some entry record_is)
says-past_feed text (entry ∷ more) ([], c ∷ own, behind, feeds, same, record_is, ended, later) =
    absurd (All-head (λ b. b ≢ 10) c own (record-no_feed (c ∷ own) entry record_is) (sym (ap (λ (l : List ℕ). slice_index l 0) same)))

-- an empty text says nothing
pub says-none : (all : List (List ℕ)) → TextSays [] all → all ≡ []
unfolding TextSays
says-none [] says = refl
says-none (entry ∷ more) ([], [], behind, feeds, same, record_is, ended, later) = absurd (record-some entry record_is)
says-none (entry ∷ more) ([], c ∷ own, behind, feeds, same, record_is, ended, later) = absurd (let long = ap length same in omega (arith, long))
says-none (entry ∷ more) (f ∷ fs, own, behind, feeds, same, record_is, ended, later) = absurd (let long = ap length same in omega (arith, long))

-- ---- what is left of a text, once its first line is cut off

-- it begins with these records, and the rest says the others
abbrev pub Begins : List ℕ → List (List ℕ) → List (List ℕ) → Type 0
Begins rest entries all = (more : List (List ℕ)) × (all ≡ entries ++ more) × TextSays rest more

module _ (text line rest : List ℕ) (cuts : CutsLine text line rest) where
  -- an empty line
  pub past-empty : line ≡ [] → (all : List (List ℕ)) → TextSays text all → TextSays rest all
  past-empty none all says = pick cuts.1
    where
      pick : (text ≡ line ++ 10 ∷ rest) ⊎ ((text ≡ line) × (rest ≡ [])) → TextSays rest all
      pick (inl fed) = says-past_feed rest all (subst (λ (t : List ℕ). TextSays t all) (fed ∙ ap (λ (l : List ℕ). l ++ 10 ∷ rest) none) says)
      pick (inr last) = subst (λ (t : List ℕ). TextSays t all) (last.0 ∙ none ∙ sym last.1) says

  -- a line that is not
  pub past-line : (all : List (List ℕ)) → 0 < length line → TextSays text all → SaysFirst line rest all
  past-line all some says = pick line cuts.0 some cuts.1
    where
      pick : (own : List ℕ) → HasNoFeed own → 0 < length own → (text ≡ own ++ 10 ∷ rest) ⊎ ((text ≡ own) × (rest ≡ []))
          → SaysFirst own rest all
      pick [] none some which = absurd (omega (arith, some))
      pick (b ∷ bs) none some (inl fed) =
          let first : SaysFirst (b ∷ bs) (10 ∷ rest) all =
          says-first b bs (10 ∷ rest) all none (inr (rest, refl)) (subst (λ (t : List ℕ). TextSays t all) fed says) in
          (first.0, first.1, first.2, first.3, says-past_feed rest first.1 first.4)
      pick (b ∷ bs) none some (inr last) =
          says-first b bs rest all none (inl last.1)
          (subst (λ (t : List ℕ). TextSays t all) (last.0 ∙ sym (append-nil (b ∷ bs)) ∙ ap (λ (l : List ℕ). (b ∷ bs) ++ l) (sym last.1)) says)

-- one record more
pub begins-more : (line rest next entry : List ℕ) (entries all : List (List ℕ)) → CutsLine rest line next → SaysRecord line entry
    → Begins rest entries all → Begins next (entries ++ entry ∷ []) all
begins-more line rest next entry entries all cuts says so_far =
    let first : SaysFirst line next so_far.0 = past-line rest line next cuts so_far.0 (some line says) so_far.2 in (
      first.1,
      so_far.1 ∙ ap (λ (l : List (List ℕ)). entries ++ l) (first.2 ∙ ap (λ (e : List ℕ). e ∷ first.1) (record-once line first.0 entry first.3 says))
          ∙ sym (append_assoc entries (entry ∷ []) first.1),
      first.4,
    )
  where
    some : (own : List ℕ) → SaysRecord own entry → 0 < length own
    some [] said = absurd (record-some entry said)
    some (b ∷ bs) said = omega arith

-- once nothing is left, the text says these records and no others
pub says-once : (text rest : List ℕ) (entries : List (List ℕ)) → rest ≡ [] → ((all : List (List ℕ)) → TextSays text all → Begins rest entries all)
    → (others : List (List ℕ)) → TextSays text others → others ≡ entries
says-once text rest entries none begin others says =
    let so_far : Begins rest entries others = begin others says in
    so_far.1
    ∙ ap (λ (l : List (List ℕ)). entries ++ l) (says-none so_far.0 (subst (λ (t : List ℕ). TextSays t so_far.0) none so_far.2))
    ∙ append-nil entries
