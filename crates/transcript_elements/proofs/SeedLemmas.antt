-- Seeds as elements: the loop that observes bytes element by element, a seed as two such loops, and that the encoding of seeds is
-- prefix-free.
use Rattle.std.proofs.Common.{◌≡◌, ◌≢◌, ◌<◌, ◌≤◌, ◌+◌, ◌-◌, ◌*◌, ◌%◌, ◌^◌, ◌⊎◌, inl, inr, ℕ, zero, suc, List, [], ◌∷◌, ◌++◌, drop, get_or, length, min, replicate, take, refl, sym, subst, lit<, Ok, Err, Result, OnOk, OnErr, ap, ap₂, ◌∙◌, arith}
use Rattle.std.proofs.Math.Pow.{pow_mono}
use Rattle.std.proofs.Math.Nat.{add-mod_right, lt_of_lt_of_le, mod_self, zero-mod, mod-eq_of_lt}
use Rattle.std.proofs.Math.Seq.{take-append_seam}
use Rattle.std.proofs.lemmas.Grind.{flat_map-append}
use Rattle.std.proofs.lemmas.List.{append-nil, append_assoc, append_cancel_left, drop_all, length-append, length-drop, length-take, take-append-drop, take_all}
use Rattle.field_bytes.specs.Bytes.{low_bytes, number_of_bytes}
use Rattle.field_bytes.specs.Streams.{joined_bytes}
use Rattle.field_base.specs.Chunks.{chunks, joined}
use Rattle.transcripts.proofs.ListLemmas.{in_turn-append, none_in_turn, pushed_in_turn}
use Rattle.field_bytes.proofs.LowBytes.{fits-take, length-low, low-cons, number-low, number-lt}
use Rattle.transcripts.specs.Lists.{InTurn}
use Rattle.transcript_elements.specs.Seeds.{AreOfSeed, missing, NeitherBegins, Observes, ObservesPart, padded, seed_bytes}

-- ---- bytes filled with zeros

-- the bytes of 0 are zeros
low-zeros : (n : ℕ) → low_bytes n 0 ≡ replicate n 0
unfolding chunks
low-zeros zero = refl
low-zeros (suc n) = low-cons n 0 0 (omega arith) ∙ ap (λ bs. 0 ∷ bs) (low-zeros n)

-- n bytes of the number of at most n bytes are these bytes, followed by zeros
pub low-padded : (n : ℕ) (bytes : List ℕ) → length bytes ≤ n → ((k : ℕ) → get_or bytes k 0 < 256)
    → low_bytes n (number_of_bytes bytes) ≡ bytes ++ replicate (n - length bytes) 0
unfolding joined
low-padded n [] short fits = let all : n ≡ n - 0 = omega arith in low-zeros n ∙ ap (λ (k : ℕ). replicate k 0) all
low-padded zero (b ∷ bytes) short fits = absurd (omega (arith, short))
low-padded (suc n) (b ∷ bytes) short fits =
    let less : n - length bytes ≡ suc n - suc (length bytes) = omega arith in
    low-cons n b (number_of_bytes bytes) (fits 0)
    ∙ ap (λ bs. b ∷ bs) (low-padded n bytes (omega (arith, short)) (λ k. fits (suc k))
    ∙ ap (λ (k : ℕ). bytes ++ replicate k 0) less)

-- nothing is missing to no bytes
missing-none : (size : ℕ) → missing size 0 ≡ 0
missing-none size =
    let all : size - 0 ≡ size = omega arith in
    ap (λ (k : ℕ). (size - k) % size) (zero-mod size) ∙ ap (λ (k : ℕ). k % size) all ∙ mod_self size

-- no bytes, padded, are no bytes
padded-none : (size : ℕ) → padded size [] ≡ []
padded-none size = ap (λ (k : ℕ). replicate k 0) (missing-none size)

-- to 0 < n < size bytes, size - n are missing
missing-few : (size count : ℕ) → 0 < count → count < size → missing size count ≡ size - count
missing-few size count some few =
    ap (λ (k : ℕ). (size - k) % size) (mod-eq_of_lt few) ∙ mod-eq_of_lt (omega (arith, some, few))

-- with one whole element fewer, as many bytes are missing
missing-less : (size count : ℕ) → size ≤ count → missing size count ≡ missing size (count - size)
missing-less size count enough =
    let split : count ≡ count - size + size = omega (arith, enough) in
    ap (λ (k : ℕ). (size - k) % size) (ap (λ (k : ℕ). k % size) split ∙ add-mod_right (count - size) size)

-- padded bytes are the padded bytes of the first element, and then the other bytes, padded
pub padded_first : (size taken : ℕ) (rest : List ℕ) → 0 < length rest → (taken ≡ size) × (size ≤ length rest) ⊎ (taken ≡ length rest) × (length rest < size)
    → padded size rest ≡ (take taken rest ++ replicate (size - taken) 0) ++ padded size (drop taken rest)
padded_first size taken rest some (inl whole) =
    let none : size - taken ≡ 0 = omega (arith, whole.0) in
    let left : length (drop size rest) ≡ length rest - size = length-drop size rest in
    let zeros = replicate (missing size (length rest)) 0 in
    let pieces : take size rest ++ (drop size rest ++ zeros) ≡ rest ++ zeros =
    sym (append_assoc (take size rest) (drop size rest) zeros) ∙ ap (λ xs. xs ++ zeros) (take-append-drop size rest) in
    sym pieces
    ∙ ap (λ (k : ℕ). take size rest ++ (drop size rest ++ replicate k 0)) (missing-less size (length rest) whole.1 ∙ ap (missing size) (sym left))
    ∙ ap (λ xs. xs ++ padded size (drop size rest)) (sym (append-nil (take size rest)))
    ∙ ap (λ (k : ℕ). (take size rest ++ replicate k 0) ++ padded size (drop size rest)) (sym none)
    ∙ ap (λ (k : ℕ). (take k rest ++ replicate (size - taken) 0) ++ padded size (drop k rest)) (sym (whole.0))
padded_first size taken rest some (inr last) =
    let all : take taken rest ≡ rest = take_all taken rest (omega (arith, last.0)) in
    let none : drop taken rest ≡ [] = drop_all taken rest (omega (arith, last.0)) in
    ap (λ (k : ℕ). rest ++ replicate k 0) (missing-few size (length rest) some last.1)
    ∙ ap (λ (k : ℕ). rest ++ replicate (size - k) 0) (sym (last.0))
    ∙ ap (λ xs. xs ++ replicate (size - taken) 0) (sym all)
    ∙ sym (append-nil (take taken rest ++ replicate (size - taken) 0))
    ∙ ap (λ xs. (take taken rest ++ replicate (size - taken) 0) ++ xs) (sym (padded-none size))
    ∙ ap (λ xs. (take taken rest ++ replicate (size - taken) 0) ++ padded size xs) (sym none)

-- the minimum of `size` and `count` is `size`, or it is `count` and that is smaller
taken_cases : (size count taken : ℕ) → taken ≡ min size count → (taken ≡ size) × (size ≤ count) ⊎ (taken ≡ count) × (count < size)
taken_cases size count taken least = by_sign (count - size) (size - count) refl refl
  where
    by_sign : (over under : ℕ) → over ≡ count - size → under ≡ size - count → (taken ≡ size) × (size ≤ count) ⊎ (taken ≡ count) × (count < size)
    by_sign over zero above below = inl (omega (arith, least, below), omega (arith, below))
    by_sign over (suc under) above below = inr (omega (arith, least, below), omega (arith, below))

-- a suffix of a list of bytes has bytes
pub fits-drop : (n : ℕ) (bytes : List ℕ) → ((k : ℕ) → get_or bytes k 0 < 256) → (k : ℕ) → get_or (drop n bytes) k 0 < 256
fits-drop zero bytes fits k = fits k
fits-drop (suc n) [] fits k = lit< tt
fits-drop (suc n) (b ∷ bytes) fits k = fits-drop n bytes (λ i. fits (suc i)) k

-- ---- what holds of a result

-- an implication carries over to what holds if the result is Ok
pub on_ok-with : {T X P Q : Type 0} (result : Result T X) → (P → Q) → OnOk result P → OnOk result Q
on_ok-with (Ok value) gives holds = gives holds
on_ok-with (Err error) gives holds = tt

-- an implication carries over to what holds if the result is an error
pub on_err-with : {T X P Q : Type 0} (result : Result T X) → (P → Q) → OnErr result P → OnErr result Q
on_err-with (Ok value) gives holds = tt
on_err-with (Err error) gives holds = gives holds

-- ---- elements that were observed one after the other

-- the elements of `bytes` were observed except those of `rest`
pub record Absorbed {E C : Type 0} (size : ℕ) (repr : E → ℕ) (observes : C → E → C → Type 0) (bytes rest : List ℕ) (old now : C) : Type 0 where
  pub elements : List E
  pub joined : joined_bytes size repr elements ++ padded size rest ≡ padded size bytes
  pub run : InTurn observes elements old now

module _ {E C : Type 0} (size : ℕ) (repr : E → ℕ) (observes : C → E → C → Type 0) (bytes : List ℕ) (old : C) where
  -- at first no elements were observed, and all bytes are left
  pub absorbed_none : Absorbed size repr observes bytes bytes old old
  absorbed_none = record { elements = []; joined = refl; run = none_in_turn observes old }

  -- one more element was observed, that of the first of the bytes that are left
  pub absorbed_more : (width taken : ℕ) (rest : List ℕ) (x : E) (now next : C) → Absorbed size repr observes bytes rest old now
      → 0 < length rest → taken ≡ min size (length rest)
      → width ≡ 8 * size → ((k : ℕ) → get_or rest k 0 < 256)
      → repr x ≡ number_of_bytes (take taken rest) % 2 ^ width → observes now x next
      → Absorbed size repr observes bytes (drop taken rest) old next
  absorbed_more width taken rest x now next before some least whole fits is step = record {
    elements = before.elements ++ x ∷ [];
    joined =
        ap (λ xs. xs ++ padded size (drop taken rest)) (flat_map-append (λ y. low_bytes size (repr y)) before.elements (x ∷ []))
        ∙ ap (λ xs. (joined_bytes size repr before.elements ++ xs) ++ padded size (drop taken rest))
        (append-nil (low_bytes size (repr x)) ∙ its_bytes)
        ∙ append_assoc (joined_bytes size repr before.elements) (take taken rest ++ replicate (size - taken) 0) (padded size (drop taken rest))
        ∙ ap (λ xs. joined_bytes size repr before.elements ++ xs) (sym (padded_first size taken rest some count))
        ∙ before.joined;
    run =
        pushed_in_turn observes before.elements x old now next before.run step;
  }
    where
      count : (taken ≡ size) × (size ≤ length rest) ⊎ (taken ≡ length rest) × (length rest < size)
      count = taken_cases size (length rest) taken least

      few : taken ≤ size
      few = omega (arith, least)

      most : taken ≤ length rest
      most = omega (arith, least)

      long : length (take taken rest) ≡ taken
      long = length-take taken rest ∙ omega (arith, most)

      below : number_of_bytes (take taken rest) < 2 ^ width
      below =
          let bits : 8 * length (take taken rest) ≤ width = omega (arith, long, few, whole) in
          lt_of_lt_of_le (number-lt (take taken rest) (fits-take taken rest fits)) (pow_mono {j = width} bits)

      its_bytes : low_bytes size (repr x) ≡ take taken rest ++ replicate (size - taken) 0
      its_bytes =
          ap (low_bytes size) (is ∙ mod-eq_of_lt below)
          ∙ low-padded size (take taken rest) (omega (arith, long, few)) (fits-take taken rest fits)
          ∙ ap (λ (k : ℕ). take taken rest ++ replicate (size - k) 0) long

  -- when no bytes are left, the elements of the padded bytes were observed
  pub absorbed_all : (rest : List ℕ) (now : C) → Absorbed size repr observes bytes rest old now → length rest ≡ 0
      → Observes size repr observes (padded size bytes) old now
  absorbed_all [] now before none = (
    before.elements,
    sym (append-nil (joined_bytes size repr before.elements))
        ∙ ap (λ xs. joined_bytes size repr before.elements ++ xs) (sym (padded-none size))
        ∙ before.joined,
    before.run,
  )
  absorbed_all (b ∷ rest) now before none = absurd (omega (arith, none))

  -- when the call for the next element failed, a proper prefix of the elements was observed
  pub absorbed_part : (may_leave : C → C → Type 0) (rest : List ℕ) (now left : C) → Absorbed size repr observes bytes rest old now
      → 0 < length rest → may_leave now left → ObservesPart size repr observes may_leave (padded size bytes) old left
  absorbed_part may_leave rest now left before some leaves = (
    before.elements,
    now,
    (padded size rest, before.joined, let long = length-append rest (replicate (missing size (length rest)) 0) in omega (arith, long, some)),
    before.run,
    leaves,
  )

  -- two loops, one after the other, observe the elements of the joined bytes
  observes_both : (first second : List ℕ) (now next : C) → Observes size repr observes first old now
      → Observes size repr observes second now next → Observes size repr observes (first ++ second) old next
  observes_both first second now next before after = (
    before.0 ++ after.0,
    flat_map-append (λ y. low_bytes size (repr y)) before.0 after.0 ∙ ap₂ (λ xs ys. xs ++ ys) before.1 after.1,
    in_turn-append observes before.0 after.0 old now next before.2 after.2,
  )

  -- if the second loop failed, part of the joined bytes was observed
  observes_part_of_both : (may_leave : C → C → Type 0) (first second : List ℕ) (now left : C)
      → Observes size repr observes first old now → ObservesPart size repr observes may_leave second now left
      → ObservesPart size repr observes may_leave (first ++ second) old left
  observes_part_of_both may_leave first second now left before (elements, last, (rest, begins, more), run, leaves) = (
    before.0 ++ elements,
    last,
    (
      rest,
      ap (λ xs. xs ++ rest) (flat_map-append (λ y. low_bytes size (repr y)) before.0 elements)
          ∙ append_assoc (joined_bytes size repr before.0) (joined_bytes size repr elements) rest
          ∙ ap₂ (λ xs ys. xs ++ ys) before.1 begins,
      more,
    ),
    in_turn-append observes before.0 elements old now last before.2 run,
    leaves,
  )

  -- if the first loop failed, part of the joined bytes was observed
  observes_part_of_first : (may_leave : C → C → Type 0) (first second : List ℕ) (left : C)
      → ObservesPart size repr observes may_leave first old left
      → ObservesPart size repr observes may_leave (first ++ second) old left
  observes_part_of_first may_leave first second left (elements, last, (rest, begins, more), run, leaves) =
      let long = length-append rest second in (
        elements,
        last,
        (
          rest ++ second,
          sym (append_assoc (joined_bytes size repr elements) rest second) ∙ ap (λ xs. xs ++ second) begins,
          omega (arith, long, more),
        ),
        run,
        leaves,
      )

  -- the eight bytes of the length and then the bytes were observed: those are the elements of the seed
  pub seed_observed : (header : List ℕ) (now next : C) → header ≡ low_bytes 8 (length bytes) → Observes size repr observes (padded size header) old now
      → Observes size repr observes (padded size bytes) now next → Observes size repr observes (seed_bytes size bytes) old next
  seed_observed header now next is before after =
      subst (λ head. Observes size repr observes (padded size head ++ padded size bytes) old next) is
      (observes_both (padded size header) (padded size bytes) now next before after)

  -- if the second of the two loops failed, part of the seed was observed
  pub seed_part_of_both : (may_leave : C → C → Type 0) (header : List ℕ) (now left : C) → header ≡ low_bytes 8 (length bytes)
      → Observes size repr observes (padded size header) old now → ObservesPart size repr observes may_leave (padded size bytes) now left
      → ObservesPart size repr observes may_leave (seed_bytes size bytes) old left
  seed_part_of_both may_leave header now left is before after =
      subst (λ head. ObservesPart size repr observes may_leave (padded size head ++ padded size bytes) old left) is
      (observes_part_of_both may_leave (padded size header) (padded size bytes) now left before after)

  -- so it was if the first one failed
  pub seed_part_of_first : (may_leave : C → C → Type 0) (header : List ℕ) (left : C) → header ≡ low_bytes 8 (length bytes)
      → ObservesPart size repr observes may_leave (padded size header) old left
      → ObservesPart size repr observes may_leave (seed_bytes size bytes) old left
  seed_part_of_first may_leave header left is part =
      subst (λ head. ObservesPart size repr observes may_leave (padded size head ++ padded size bytes) old left) is
      (observes_part_of_first may_leave (padded size header) (padded size bytes) left part)

-- the encoding of a seed is not empty, since it has the length
pub seed_is_long : (size : ℕ) (seed : List ℕ) → 0 < length (seed_bytes size seed)
seed_is_long size seed =
    let head = length-low 8 (length seed) in
    let first = length-append (low_bytes 8 (length seed)) (replicate (missing size (length (low_bytes 8 (length seed)))) 0) in
    let both = length-append (padded size (low_bytes 8 (length seed))) (padded size seed) in
    omega (arith, head, first, both)

-- ---- the encoding is prefix-free

-- two lists that are equal and begin with parts of the same length have the same parts
seam : {A : Type 0} (xs ys more others : List A) → length xs ≡ length ys → xs ++ more ≡ ys ++ others → (xs ≡ ys) × (more ≡ others)
seam xs ys more others long same =
    let begins : xs ≡ ys =
    sym (take-append_seam xs more) ∙ ap (take (length xs)) same ∙ ap (λ (k : ℕ). take k (ys ++ others)) long ∙ take-append_seam ys others in
    (begins, append_cancel_left ys more others (ap (λ zs. zs ++ more) (sym begins) ∙ same))

-- if the bytes of one seed begin those of another, the seeds are equal
seeds_apart : (size : ℕ) (one other more : List ℕ) → length one < 2 ^ 64 → length other < 2 ^ 64
    → seed_bytes size one ++ more ≡ seed_bytes size other → one ≡ other
seeds_apart size one other more fits other_fits same = (seam one other _ _ lengths (sym (append_assoc one _ more) ∙ after.1)).0
  where
    head_of : List ℕ → List ℕ
    head_of seed = low_bytes 8 (length seed)

    zeros_of : List ℕ → List ℕ
    zeros_of bytes = replicate (missing size (length bytes)) 0

    heads : length (head_of one) ≡ length (head_of other)
    heads = length-low 8 (length one) ∙ sym (length-low 8 (length other))

    first : (head_of one ≡ head_of other) × (zeros_of (head_of one) ++ (padded size one ++ more) ≡ zeros_of (head_of other) ++ padded size other)
    first =
        seam (head_of one) (head_of other) _ _ heads
        (sym (append_assoc (head_of one) (zeros_of (head_of one)) (padded size one ++ more))
        ∙ sym (append_assoc (padded size (head_of one)) (padded size one) more)
        ∙ same ∙ append_assoc (head_of other) (zeros_of (head_of other)) (padded size other))

    after : (zeros_of (head_of one) ≡ zeros_of (head_of other)) × (padded size one ++ more ≡ padded size other)
    after =
        seam (zeros_of (head_of one)) (zeros_of (head_of other)) _ _ (ap (λ (k : ℕ). let zeros : List ℕ = replicate (missing size k) 0 in length zeros) heads) first.1

    lengths : length one ≡ length other
    lengths =
        sym (mod-eq_of_lt fits) ∙ sym (number-low 8 (length one)) ∙ ap number_of_bytes first.0
        ∙ number-low 8 (length other) ∙ mod-eq_of_lt other_fits

-- the encoding of seeds is prefix-free
pub neither_begins : {E : Type 0} (size : ℕ) (repr : E → ℕ) (seed other : List ℕ) (xs ys : List E) → length seed < 2 ^ 64 → length other < 2 ^ 64
    → other ≢ seed → AreOfSeed size repr seed xs → AreOfSeed size repr other ys → NeitherBegins xs ys
neither_begins size repr seed other xs ys fits other_fits differ of_seed of_other = (
  (λ rest same. differ (sym (seeds_apart size seed other (joined_bytes size repr rest) fits other_fits
      (ap (λ bytes. bytes ++ joined_bytes size repr rest) (sym of_seed)
      ∙ sym (flat_map-append (λ y. low_bytes size (repr y)) xs rest) ∙ ap (joined_bytes size repr) same ∙ of_other)))),
  (λ rest same. differ (seeds_apart size other seed (joined_bytes size repr rest) other_fits fits
      (ap (λ bytes. bytes ++ joined_bytes size repr rest) (sym of_other)
      ∙ sym (flat_map-append (λ y. low_bytes size (repr y)) ys rest) ∙ ap (joined_bytes size repr) same ∙ of_seed))),
)
