-- Shards that are put to their places, and the files that they are found in.
use Rattle.std.proofs.Common.{◌≡◌, ◌≢◌, ◌⊎◌, inl, inr, ℕ, zero, suc, ◌+◌, ◌*◌, ◌<◌, ◌≤◌, Bool, true, false, List, [], ◌∷◌, ◌++◌, length, get_or, take, drop, set, replicate, Some, refl, sym, ◌∙◌, ap, subst, arith}
use Rattle.std.proofs.Math.ListN.{get_or-eq_default}
use Rattle.std.proofs.Math.Nat.{eq-or-lt_of_le}
use Rattle.std.proofs.lemmas.Bool.{cases_lt, true≢false}
use Rattle.std.proofs.lemmas.List.{drop-take, drop_at, get_or-set_other, get_or-set_same, length-append, length-drop, length-take-le, take_at}
use Rattle.std.proofs.lemmas.Slice.{drop-put_mid, take-put_mid_below}
use borrow.Rule.Slice.PartMut.{put_mid}
use Rattle.reed_solomon.specs.Shards.{IsPresent, present_count}
use Rattle.shard_files.proofs.PresentCounts.{with_one, without}
use Rattle.shard_files.proofs.ShardPlaces.{shard_room}
use Rattle.shard_files.specs.Groups.{AreOf, GivesEnough, GivesPiece, GivesStripe, HasEnough, HaveSameShards, Holdings, IsGathered, numbered, Puts, shard_at, Takes}
use Rattle.shard_files.specs.Heads.{head_digest, head_file, IsHead, IsOrigin}
use Rattle.shard_files.specs.Pieces.{piece_bytes}
use Rattle.shard_files.specs.Stripes.{shard_total}
use Rattle.shard_files.specs.declared.head.Head.{Head}
use Rattle.shard_files.specs.declared.head.Origin.{Origin}
use Rattle.shard_files.proofs.Heads.{head_is}
use Rattle.shard_files.proofs.Pieces.{piece_rest}

-- ---- places

-- a shard ends before one of a higher number
before : (low high size : ℕ) → low < high → low * size + size ≤ high * size
before low high size less = shard_room low high size (high * size) less refl

-- a part that is written over leaves the length
pub length_put : (start gap : ℕ) (all part : List ℕ) → start + gap ≤ length all → length part ≡ gap → length (put_mid start gap all part) ≡ length all
length_put start gap all part room same =
    let whole = length-append (take start all) (part ++ drop gap (drop start all)) in
    let behind = length-append part (drop gap (drop start all)) in
    let front = length-take-le start all (omega (arith, room)) in
    omega (arith, whole, behind, front, length-drop gap (drop start all), length-drop start all, room, same)

-- what is in an option
pub same_bytes : (a b : List ℕ) → Some a ≡ Some b → a ≡ b
same_bytes a b same = cc

-- ---- a shard is put to its place

module _ (size index : ℕ) (shard old : List ℕ) (sized : length shard ≡ size) (room : index * size + size ≤ length old) where
  abbrev new : List ℕ
  new = put_mid (index * size) size old shard

  here : shard_at size new index ≡ shard
  unfolding shard_at
  here =
      ap (take size) (drop_at (take (index * size) old) (shard ++ drop size (drop (index * size) old)) (index * size)
      (length-take-le (index * size) old (omega (arith, room))))
      ∙ take_at shard (drop size (drop (index * size) old)) size sized

  there : (other : ℕ) → other ≢ index → shard_at size new other ≡ shard_at size old other
  unfolding shard_at
  there other apart =
      elim (cases_lt other index) [
        | inl low ↦ sym (drop-take (other * size) size new)
            ∙ ap (drop (other * size)) (take-put_mid_below (index * size) size old shard (other * size + size) (before other index size low) (omega (arith, room)))
            ∙ drop-take (other * size) size old
        | inr high ↦ ap (take size)
            (drop-put_mid (index * size) size old shard (other * size) (before index other size (omega (arith, high, apart))) (omega (arith, room)) sized)
      ]

pub same_or_not : (a b : ℕ) → (a ≡ b) ⊎ (a ≢ b)
same_or_not a b =
    elim (cases_lt a b) [
      | inl low ↦ inr (omega (arith, low))
      | inr high ↦ elim (eq-or-lt_of_le high) [
        | inl same ↦ inl (sym same)
        | inr above ↦ inr (omega (arith, above))
      ]
    ]

-- where none of its number was at hand
pub put_there : (total size index : ℕ) (shard old : List ℕ) (had : List Bool) (start gap : ℕ) → start ≡ index * size → gap ≡ size
    → index < total → total ≤ length had → length old ≡ total * size → length shard ≡ size → get_or had index false ≡ false
    → Puts total size index shard old had (put_mid start gap old shard) (set had index true)
put_there total size index shard old had start gap start_is gap_is within flags long sized free =
    subst (λ (n : ℕ). Puts total size index shard old had (put_mid n gap old shard) (set had index true)) (sym start_is)
    (subst (λ (n : ℕ). Puts total size index shard old had (put_mid (index * size) n old shard) (set had index true)) (sym gap_is)
    record { keeps = keeps; found = found; put = λ _ _. get_or-set_same had index true false (omega (arith, within, flags)) })
  where
    room : index * size + size ≤ length old
    room = shard_room index total size (length old) within long

    keeps : (other : ℕ) → other < total → IsPresent had other
        → IsPresent (set had index true) other × (shard_at size (new size index shard old sized room) other ≡ shard_at size old other)
    keeps other inside has =
        let apart : other ≢ index = λ same. true≢false (sym has ∙ ap (λ (n : ℕ). get_or had n false) same ∙ free) in
        (get_or-set_other had index other true false apart ∙ has, there size index shard old sized room other apart)

    found : (other : ℕ) → other < total → IsPresent (set had index true) other
        → IsPresent had other ⊎ ((other ≡ index) × (shard_at size (new size index shard old sized room) other ≡ shard))
    found other inside has =
        elim (same_or_not other index) [
          | inl same ↦ inr (same, ap (shard_at size (new size index shard old sized room)) same ∙ here size index shard old sized room)
          | inr apart ↦ inl (sym (get_or-set_other had index other true false apart) ∙ has)
        ]

-- ---- a file is looked at

-- one that gives no shard of this origin
pub takes_nothing : (origin : Origin) (gives : ℕ → List ℕ → Type 0) (shards : List ℕ) (had : List Bool)
    → ((index : ℕ) (shard : List ℕ) → index < shard_total origin → gives index shard → ⊥) → Takes origin gives shards had shards had
takes_nothing origin gives shards had none =
    record {
      keeps = λ index inside has. (has, refl);
      found = λ index inside has. inl has;
      missed = λ index shard inside sized is. absurd (none index shard inside is);
    }

-- what is said of one way to give shards is said of another that gives the same
pub takes_same : (origin : Origin) (gives other : ℕ → List ℕ → Type 0) (old new : List ℕ) (had has : List Bool)
    → ((index : ℕ) (shard : List ℕ) → index < shard_total origin → gives index shard → other index shard)
    → ((index : ℕ) (shard : List ℕ) → index < shard_total origin → other index shard → gives index shard)
    → Takes origin gives old had new has → Takes origin other old had new has
takes_same origin gives other old new had has there back takes =
    record {
      keeps = takes.keeps;
      found = λ index inside present. elim (takes.found index inside present) [
        | inl before ↦ inl before
        | inr given ↦ inr (there index (shard_at origin.size new index) inside given)
      ];
      missed = λ index shard inside sized is. takes.missed index shard inside sized (back index shard inside is);
    }

-- a shard by its head and its piece
abbrev pub AreOfHead : Head → ℕ → List ℕ → ℕ → List ℕ → Type 0
AreOfHead head stripe piece index shard = (head.index ≡ index) × (piece ≡ piece_bytes (head_digest head) stripe shard)

-- a piece that is one was put
pub takes_piece : (origin : Origin) (head : Head) (stripe : ℕ) (piece shard old new : List ℕ) (had has : List Bool)
    → piece ≡ piece_bytes (head_digest head) stripe shard
    → Puts (shard_total origin) origin.size head.index shard old had new has → Takes origin (AreOfHead head stripe piece) old had new has
takes_piece origin head stripe piece shard old new had has is puts =
    record { keeps = puts.keeps; found = found; missed = missed }
  where
    found : (index : ℕ) → index < shard_total origin → IsPresent has index
        → IsPresent had index ⊎ AreOfHead head stripe piece index (shard_at origin.size new index)
    found index inside present =
        elim (puts.found index inside present) [
          | inl before ↦ inl before
          | inr put ↦ inr (sym put.0, is ∙ ap (piece_bytes (head_digest head) stripe) (sym put.1))
        ]

    missed : (index : ℕ) (other : List ℕ) → index < shard_total origin → length other ≡ origin.size
        → AreOfHead head stripe piece index other → IsPresent has index
    missed index other inside sized given =
        let same : shard ≡ other =
        sym (piece_rest (head_digest head) stripe shard) ∙ ap (drop 32) (sym is ∙ given.1) ∙ piece_rest (head_digest head) stripe other in
        subst (IsPresent has) given.0
        (puts.put (subst (λ (n : ℕ). n < shard_total origin) (sym given.0) inside) (ap length same ∙ sized))

-- the numbers of these are those of heads
pub numbered_fits : (origin : Origin) → IsOrigin origin → shard_total origin ≤ 65536 → (index : ℕ) → index < shard_total origin → IsHead (numbered origin index)
numbered_fits origin fits few index inside = record { origin_fits = fits; index_fits = omega (arith, inside, few) }

-- the head of these is the one that was read
module _ (origin : Origin) (bytes : List ℕ) (read : Head) (stripe : ℕ) (piece : List ℕ) (fits : IsOrigin origin) (few : shard_total origin ≤ 65536)
    (only : (head : Head) → IsHead head → bytes ≡ head_file head → read ≡ head)
  where
    pub of_read : read.origin ≡ origin → bytes ≡ head_file read → (index : ℕ) (shard : List ℕ) → index < shard_total origin
        → AreOfHead read stripe piece index shard → AreOf origin stripe bytes piece index shard
    of_read same written index shard inside given =
        let is : read ≡ numbered origin index = head_is read (numbered origin index) same given.0 in
        (written ∙ ap head_file is, given.1 ∙ ap (λ (head : Head). piece_bytes (head_digest head) stripe shard) is)

    pub read_of : (index : ℕ) (shard : List ℕ) → index < shard_total origin
        → AreOf origin stripe bytes piece index shard → AreOfHead read stripe piece index shard
    read_of index shard inside given =
        let is : read ≡ numbered origin index = only (numbered origin index) (numbered_fits origin fits few index inside) given.0 in
        (ap (λ (head : Head). head.index) is, given.1 ∙ ap (λ (head : Head). piece_bytes (head_digest head) stripe shard) (sym is))

    -- one of another origin gives none
    pub other_origin : (read.origin ≡ origin → ⊥) → (index : ℕ) (shard : List ℕ) → index < shard_total origin
        → AreOf origin stripe bytes piece index shard → ⊥
    other_origin other index shard inside given =
        other (ap (λ (head : Head). head.origin) (only (numbered origin index) (numbered_fits origin fits few index inside) given.0))

-- ---- all files are looked at, one after the other

-- of flags that are all false none is true
pub none_present : (count index : ℕ) → get_or (replicate count false) index false ≡ false
none_present zero index = refl
none_present (suc count) zero = refl
none_present (suc count) (suc index) = none_present count index

pub gathered_none : (origin : Origin) (files : Holdings) (stripe : ℕ) (shards : List ℕ) (present : List Bool)
    → ((index : ℕ) → get_or present index false ≡ false) → IsGathered origin files stripe 0 shards present
gathered_none origin files stripe shards present none =
    record {
      found = λ index inside has. absurd (true≢false (sym has ∙ none index));
      missed = λ index shard place inside sized before is. absurd (omega (arith, before));
    }

pub gathered_more : (origin : Origin) (files : Holdings) (stripe place : ℕ) (old new : List ℕ) (had has : List Bool)
    → IsGathered origin files stripe place old had → Takes origin (λ index shard. GivesPiece files place (numbered origin index) stripe shard) old had new has
    → IsGathered origin files stripe (place + 1) new has
gathered_more origin files stripe place old new had has so_far takes =
    record { found = found; missed = missed }
  where
    found : (index : ℕ) → index < shard_total origin → IsPresent has index
        → (at : ℕ) × (at < place + 1) × GivesPiece files at (numbered origin index) stripe (shard_at origin.size new index)
    found index inside present =
        elim (takes.found index inside present) [
          | inl before ↦
              let old_one = so_far.found index inside before in (
                old_one.0,
                omega (arith, old_one.1),
                subst (λ (shard : List ℕ). GivesPiece files old_one.0 (numbered origin index) stripe shard) (sym (takes.keeps index inside before).1) old_one.2,
              )
          | inr now ↦ (place, omega arith, now)
        ]

    missed : (index : ℕ) (shard : List ℕ) (at : ℕ) → index < shard_total origin → length shard ≡ origin.size → at < place + 1
        → GivesPiece files at (numbered origin index) stripe shard → IsPresent has index
    missed index shard at inside sized before given =
        elim (eq-or-lt_of_le (omega (arith, before))) [
          | inl same ↦ takes.missed index shard inside sized
              (subst (λ (n : ℕ). GivesPiece files n (numbered origin index) stripe shard) same given)
          | inr less ↦ (takes.keeps index inside (so_far.missed index shard at inside sized less given)).0
        ]

-- ---- enough files

-- a shard of a stripe that has all of them
pub shard_long : (size total index : ℕ) (whole : List ℕ) → length whole ≡ total * size → index < total → length (shard_at size whole index) ≡ size
unfolding shard_at
shard_long size total index whole long inside =
    let room = shard_room index total size (length whole) inside long in
    length-take-le size (drop (index * size) whole) (omega (arith, room, length-drop (index * size) whole))

-- flags of which all are true that are true of others count no fewer
pub more_present : (a b : List Bool) → length a ≡ length b → ((i : ℕ) → IsPresent a i → IsPresent b i) → present_count a ≤ present_count b
more_present [] b long more = omega arith
more_present (a ∷ ones) [] long more = absurd (omega (arith, long))
more_present (false ∷ ones) (false ∷ others) long more =
    let rest = more_present ones others (omega (arith, long)) (λ i. more (suc i)) in omega (arith, rest, without ones, without others)
more_present (false ∷ ones) (true ∷ others) long more =
    let rest = more_present ones others (omega (arith, long)) (λ i. more (suc i)) in omega (arith, rest, without ones, with_one others)
more_present (true ∷ ones) (true ∷ others) long more =
    let rest = more_present ones others (omega (arith, long)) (λ i. more (suc i)) in omega (arith, rest, with_one ones, with_one others)
more_present (true ∷ ones) (false ∷ others) long more = absurd (true≢false (sym (more zero refl)))

module _ (origin : Origin) (files : Holdings) (stripe : ℕ) (whole shards : List ℕ) (present : List Bool)
    (gathered : IsGathered origin files stripe files.places shards present)
    (shards_long : length shards ≡ shard_total origin * origin.size) (flags : length present ≡ shard_total origin)
  where
    inside_of : (flags : List Bool) → length flags ≡ shard_total origin → (index : ℕ) → IsPresent flags index → index < shard_total origin
    inside_of flags long index has =
        elim (cases_lt index (shard_total origin)) [
          | inl below ↦ below
          | inr above ↦ absurd (true≢false (sym has ∙ get_or-eq_default flags false (omega (arith, above, long))))
        ]

    -- where enough are given, enough were gathered
    pub enough_there : GivesEnough origin files stripe whole → origin.data_shards ≤ present_count present
    enough_there gives = le_through gives.enough (more_present gives.left present (gives.left_long ∙ sym flags) more)
      where
        more : (index : ℕ) → IsPresent gives.left index → IsPresent present index
        more index has =
            let given = gives.there index has in
            let inside = inside_of gives.left gives.left_long index has in
            gathered.missed index (shard_at origin.size whole index) given.0 inside (shard_long origin.size (shard_total origin) index whole gives.long inside) given.1 given.2

        le_through : {a b c : ℕ} → a ≤ b → b ≤ c → a ≤ c
        le_through first second = omega (arith, first, second)

    -- what was gathered is enough
    pub gathered_enough : (content : List ℕ) → GivesStripe origin files stripe content whole → HasEnough origin content whole shards present
    gathered_enough content gives =
        record {
          split = gives.split;
          long = gives.given.long ∙ sym shards_long;
          same = same;
          enough = enough_there gives.given;
        }
      where
        same : HaveSameShards origin present shards whole
        same index inside has =
            let given = gathered.found index inside has in
            gives.true_ones index given.0 (shard_at origin.size shards index) inside given.1 (shard_long origin.size (shard_total origin) index shards shards_long inside) given.2

-- `gathered_enough` and `enough_there` for a group with an equal origin of its own
module _ (origin own : Origin) (same : own ≡ origin) (files : Holdings) (stripe : ℕ) (shards : List ℕ) (present : List Bool)
    (gathered : IsGathered origin files stripe files.places shards present)
    (long : length shards ≡ shard_total own * own.size) (flags : length present ≡ shard_total own)
  where
    shards_long : length shards ≡ shard_total origin * origin.size
    shards_long = subst (λ (o : Origin). length shards ≡ shard_total o * o.size) same long

    flags_long : length present ≡ shard_total origin
    flags_long = subst (λ (o : Origin). length present ≡ shard_total o) same flags

    pub group_enough : (content whole : List ℕ) → GivesStripe origin files stripe content whole → HasEnough own content whole shards present
    group_enough content whole gives =
        subst (λ (o : Origin). HasEnough o content whole shards present) (sym same)
        (gathered_enough origin files stripe whole shards present gathered shards_long flags_long content gives)

    pub group_count : (whole : List ℕ) → GivesEnough origin files stripe whole → own.data_shards ≤ present_count present
    group_count whole gives =
        subst (λ (o : Origin). o.data_shards ≤ present_count present) (sym same)
        (enough_there origin files stripe whole shards present gathered shards_long flags_long gives)
