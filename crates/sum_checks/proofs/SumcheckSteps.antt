-- One round of the prover and of the verifier of sum-check, and what is observed before the first.
use Rattle.std.proofs.Common.{◌≡◌, ℕ, zero, suc, ◌+◌, ◌-◌, ◌*◌, ◌/◌, ◌%◌, ◌^◌, ◌<◌, ◌≤◌, List, [], ◌∷◌, ◌++◌, length, map, take, drop, refl, sym, ◌∙◌, ap, ap₂, subst, append_assoc, arith, lit<}
use Rattle.std.specs.Prelude.{bit_xor, slice_index}
use Rattle.std.proofs.Math.Seq.{drop-append_seam, take-append_seam}
use Rattle.std.proofs.Math.Nat.{pow-le-pow_right, two-pow-succ}
use Rattle.std.proofs.lemmas.List.{append-nil, length-append, length-drop, length-map, length-take-le, map-append, take-map}
use Rattle.std.specs.List.{flat_map, range_with_len}
use Rattle.std.proofs.lemmas.List.FromFn.{length-map-range_with_len, map-range_with_len_more}
use Rattle.field_base.specs.Interpolation.{interpolated}
use Rattle.field_base.specs.Ring.{IsRing}
use Rattle.field_slices.specs.Multilinear.{folded, folded_all, on_line}
use Rattle.field_slices.proofs.CubeLaws.{line-zero}
use Rattle.std.specs.Simd.Lanes.{zip2}
use Rattle.transcripts.specs.Lists.{InTurn}
use Rattle.sum_checks.specs.Sumcheck.{AreTurns, messages_of, term_numbers}
use Rattle.sum_checks.specs.SumcheckClaims.{AreHonestMessages, honest_message, message_at, node_values, reduced_claim}
use Rattle.sum_checks.specs.Terms.{Product, cube_sum, honest_at}
use Rattle.sum_checks.proofs.Runs.{messages-length, turns-length}

-- ---- lists

-- two lists that are appended one after the other
pub appended-more : {A : Type 0} (items pushed final : List A) (x : A) (more : List A) → pushed ≡ items ++ x ∷ [] → final ≡ pushed ++ more
    → final ≡ items ++ x ∷ more
appended-more items pushed final x more is_pushed is_final =
    is_final ∙ ap (λ (xs : List _). xs ++ more) is_pushed ∙ append_assoc items (x ∷ []) more

pub appended-two : {A : Type 0} (items between final first second : List A) → between ≡ items ++ first → final ≡ between ++ second
    → final ≡ items ++ (first ++ second)
appended-two items between final first second is_first is_second =
    is_second ∙ ap (λ (xs : List _). xs ++ second) is_first ∙ append_assoc items first second

pub appended-none : {A : Type 0} (items none : List A) → length none ≡ 0 → items ≡ items ++ none
appended-none items [] none = sym (append-nil items)
appended-none items (x ∷ xs) none = absurd (omega (arith, none))

-- an element that is pushed, as a number
pub pushed-number : {A : Type 0} (repr : A → ℕ) (items pushed : List A) (x : A) (n : ℕ) → pushed ≡ items ++ x ∷ [] → repr x ≡ n
    → map repr pushed ≡ map repr items ++ n ∷ []
pushed-number repr items pushed x n is same =
    ap (map repr) is ∙ map-append repr items (x ∷ []) ∙ ap (λ (m : ℕ). map repr items ++ m ∷ []) same

-- numbers that are appended one after the other, of which the first is pushed
pub numbers-more : {A : Type 0} (repr : A → ℕ) (items pushed final : List A) (x : A) (n : ℕ) (ns rest : List ℕ) → pushed ≡ items ++ x ∷ []
    → repr x ≡ n → map repr final ≡ map repr pushed ++ rest → ns ≡ n ∷ rest → map repr final ≡ map repr items ++ ns
numbers-more repr items pushed final x n ns rest is same others all =
    appended-more (map repr items) (map repr pushed) (map repr final) n rest (pushed-number repr items pushed x n is same) others
    ∙ ap (λ (ms : List ℕ). map repr items ++ ms) (sym all)

-- ---- messages

-- one after the other they are read back
pub messages-cons : {F : Type 0} (d n : ℕ) (message rest : List F) → length message ≡ d
    → messages_of d (suc n) (message ++ rest) ≡ message ∷ messages_of d n rest
unfolding messages_of
messages-cons d n message rest long =
    ap₂ (λ (m : List _) (ms : List (List _)). m ∷ ms)
    (ap (λ (k : ℕ). take k (message ++ rest)) (sym long) ∙ take-append_seam message rest)
    (ap (λ (ms : List _). messages_of d n ms) (ap (λ (k : ℕ). drop k (message ++ rest)) (sym long) ∙ drop-append_seam message rest))

module _ {C F : Type 0} (observes : C → F → C → Type 0) (gives : C → F → C → Type 0) where
  module _ (width : ℕ) (times : ℕ → ℕ → ℕ) (repr : F → ℕ) (d : ℕ) where
    -- ---- the verifier

    abbrev pub Verified : C → ℕ → ℕ → List F → List F → List F → C → ℕ → Type 0
    Verified old claim rounds values items final new last =
        (challenges : List F) × (final ≡ items ++ challenges) × AreTurns observes gives old (messages_of d rounds values) challenges new
        × (last ≡ reduced_claim width times claim (map (map repr) (messages_of d rounds values)) (map repr challenges))

    pub verified-none : (old : C) (claim rounds : ℕ) (values items : List F) → rounds ≡ 0
        → Verified old claim rounds values items items old claim
    unfolding AreTurns reduced_claim messages_of
    verified-none old claim zero values items none = ([], sym (append-nil items), refl, refl)
    verified-none old claim (suc rounds) values items none = absurd (omega (arith, none))

    pub verified-more : (old between after new : C) (claim next last rounds : ℕ) (values message rest items pushed final : List F) (r : F)
        → 0 < rounds → message ≡ take d values → rest ≡ drop d values → InTurn observes message old between → gives between r after
        → pushed ≡ items ++ r ∷ [] → next ≡ message_at width times claim (map repr message) (repr r)
        → Verified after next (rounds - 1) rest pushed final new last → Verified old claim rounds values items final new last
    unfolding AreTurns reduced_claim messages_of
    verified-more old between after new claim next last zero values message rest items pushed final r some is_message is_rest observed given
        is_pushed is_next so_far = absurd (omega (arith, some))
    verified-more old between after new claim next last (suc m) values message rest items pushed final r some is_message is_rest observed given
        is_pushed is_next so_far =
        let before : suc m - 1 ≡ m = omega arith in
        let later : Verified after next m (drop d values) pushed final new last =
        subst (λ (n : ℕ). Verified after next n (drop d values) pushed final new last) before
        (subst (λ (vs : List F). Verified after next (suc m - 1) vs pushed final new last) is_rest so_far) in (
          r ∷ later.0,
          appended-more items pushed final r later.0 is_pushed later.1,
          (after, (between, subst (λ (vs : List F). InTurn observes vs old between) is_message observed, given), later.2),
          later.3
              ∙ ap (λ (c : ℕ). reduced_claim width times c (map (map repr) (messages_of d m (drop d values))) (map repr later.0))
              (is_next ∙ ap (λ (vs : List F). message_at width times claim (map repr vs) (repr r)) is_message),
        )

    -- ---- the prover

    module _ (terms : List Product) (count : ℕ) where
      abbrev pub Proved : C → ℕ → List ℕ → List F → List F → List F → List F → List F → C → Type 0
      Proved old rounds values messages messages' point point' left' new =
          (appended : List F) × (challenges : List F) × (over : List F) × (messages' ≡ messages ++ appended) × (point' ≡ point ++ challenges)
          × (left' ≡ over) × (length appended ≡ rounds * d)
          × AreTurns observes gives old (messages_of d rounds appended) challenges new
          × AreHonestMessages times terms count d values (map (map repr) (messages_of d rounds appended)) (map repr challenges)
          × (map repr over ≡ folded_all times (map repr challenges) values)

      pub proved-none : (old : C) (rounds : ℕ) (values : List F) (messages point left' : List F) → rounds ≡ 0 → left' ≡ values
          → Proved old rounds (map repr values) messages messages point point left' old
      unfolding AreTurns AreHonestMessages messages_of folded_all
      proved-none old zero values messages point left' none is =
          let none_long : 0 ≡ 0 * d = omega arith in
          ([], [], values, sym (append-nil messages), sym (append-nil point), is, none_long, refl, tt, refl)
      proved-none old (suc rounds) values messages point left' none is = absurd (omega (arith, none))

      pub proved-more : (old between after new : C) (rounds : ℕ) (values next : List ℕ)
          (message messages pushed messages' point longer point' left' : List F) (r : F)
          → 0 < rounds → length message ≡ d → map repr message ≡ honest_message times terms count (rounds - 1) values d
          → InTurn observes message old between → gives between r after
          → pushed ≡ messages ++ message → longer ≡ point ++ r ∷ [] → next ≡ folded times (repr r) values
          → Proved after (rounds - 1) next pushed messages' longer point' left' new
          → Proved old rounds values messages messages' point point' left' new
      unfolding AreTurns AreHonestMessages folded_all
      proved-more old between after new zero values next message messages pushed messages' point longer point' left' r some long honest
          observed given is_pushed is_longer is_next so_far = absurd (omega (arith, some))
      proved-more old between after new (suc m) values next message messages pushed messages' point longer point' left' r some long honest
          observed given is_pushed is_longer is_next so_far =
          let before : suc m - 1 ≡ m = omega arith in
          let later : Proved after m (folded times (repr r) values) pushed messages' longer point' left' new =
          subst (λ (n : ℕ). Proved after n (folded times (repr r) values) pushed messages' longer point' left' new) before
          (subst (λ (vs : List ℕ). Proved after (suc m - 1) vs pushed messages' longer point' left' new) is_next so_far) in
          let all : messages_of d (suc m) (message ++ later.0) ≡ message ∷ messages_of d m later.0 = messages-cons d m message later.0 long in
          let rounds_left : m ≡ length (map repr later.1) =
          sym (length-map later.1 repr ∙ turns-length observes gives (messages_of d m later.0) later.1 after new later.7 ∙ messages-length d m later.0) in (
            message ++ later.0,
            r ∷ later.1,
            later.2,
            appended-two messages pushed messages' message later.0 is_pushed later.3,
            appended-more point longer point' r later.1 is_longer later.4,
            later.5,
            longest later.0 (length-append message later.0) later.6,
            subst (λ (gs : List (List F)). AreTurns observes gives old gs (r ∷ later.1) new) (sym all) (after, (between, observed, given), later.7),
            subst (λ (gs : List (List F)). AreHonestMessages times terms count d values (map (map repr) gs) (map repr (r ∷ later.1))) (sym all)
                (honest ∙ ap (λ (n : ℕ). honest_message times terms count n values d) (before ∙ rounds_left), later.8),
            later.9,
          )
        where
          longest : (rest : List F) → length (message ++ rest) ≡ length message + length rest → length rest ≡ m * d
              → length (message ++ rest) ≡ suc m * d
          longest rest joined short = joined ∙ ap₂ (λ (a b : ℕ). a + b) long short ∙ omega arith

-- ---- sizes

-- a message of the rounds that are left, and the messages after it
pub message-fits : (length_all rounds d : ℕ) → 0 < rounds → length_all ≡ rounds * d → d ≤ length_all
message-fits all zero d some is = absurd (omega (arith, some))
message-fits all (suc m) d some is = omega (arith, is)

pub message-long : {F : Type 0} (values message : List F) (rounds d : ℕ) → 0 < rounds → length values ≡ rounds * d → message ≡ take d values
    → length message ≡ d
message-long values message rounds d some is is_message =
    ap length is_message ∙ length-take-le d values (message-fits (length values) rounds d some is)

pub rest-long : {F : Type 0} (values rest : List F) (rounds d : ℕ) → 0 < rounds → length values ≡ rounds * d → rest ≡ drop d values
    → length rest ≡ (rounds - 1) * d
rest-long values rest zero d some is is_rest = absurd (omega (arith, some))
rest-long values rest (suc m) d some is is_rest =
    let before : suc m - 1 ≡ m = omega arith in
    let dropped = length-drop d values in
    ap length is_rest ∙ dropped ∙ ap (λ (n : ℕ). n - d) is ∙ after ∙ ap (λ (n : ℕ). n * d) (sym before)
  where
    after : suc m * d - d ≡ m * d
    after = omega arith

-- the nodes of a message are few
pub nodes-few : {F : Type 0} (repr : F → ℕ) (nodes message : List F) (claim degree width : ℕ) → map repr nodes ≡ node_values claim (map repr message)
    → length message ≡ degree → degree ≤ 4 → 3 ≤ width → length nodes ≤ 2 ^ width
nodes-few repr nodes message claim degree width is long few wide =
    let power : 2 ^ 3 ≤ 2 ^ width = pow-le-pow_right (lit< tt) wide in
    let same : length nodes ≡ length (node_values claim (map repr message)) = sym (length-map nodes repr) ∙ ap length is in
    let most = node-count claim (map repr message) in
    let size : length (map repr message) ≡ degree = length-map message repr ∙ long in
    omega (arith, power, same, most, size, few)
  where
    node-count : (c : ℕ) (values : List ℕ) → length (node_values c values) ≤ suc (length values)
    node-count c [] = omega arith
    node-count c (v ∷ vs) = omega arith

-- the value that is interpolated through the nodes is that of the round's polynomial
pub next-claim : {F : Type 0} (repr : F → ℕ) (width : ℕ) (times : ℕ → ℕ → ℕ) (nodes read message : List F) (claim x value : ℕ)
    → read ≡ nodes → map repr nodes ≡ node_values claim (map repr message)
    → value ≡ interpolated width times (λ i. i) (slice_index (map repr read)) (length read) x
    → value ≡ message_at width times claim (map repr message) x
next-claim repr width times nodes read message claim x value same is given =
    given
    ∙ ap (λ (xs : List _). interpolated width times (λ i. i) (slice_index (map repr xs)) (length xs) x) same
    ∙ ap (λ (k : ℕ). interpolated width times (λ i. i) (slice_index (map repr nodes)) k x) (sym (length-map nodes repr))
    ∙ ap (λ (ns : List ℕ). interpolated width times (λ i. i) (slice_index ns) (length ns) x) is

-- the nodes of a claim and a message
pub nodes-are : {F : Type 0} (repr : F → ℕ) (message rest one two nodes : List F) (first second : F) (claim : ℕ)
    → message ≡ first ∷ rest → one ≡ first ∷ [] → two ≡ one ++ second ∷ [] → nodes ≡ two ++ rest
    → repr second ≡ bit_xor claim (repr first) → map repr nodes ≡ node_values claim (map repr message)
nodes-are repr message rest one two nodes first second claim is is_one is_two is_all sum =
    ap (map repr) (is_all ∙ ap (λ (xs : List _). xs ++ rest) (is_two ∙ ap (λ (xs : List _). xs ++ second ∷ []) is_one))
    ∙ ap (λ (n : ℕ). repr first ∷ n ∷ map repr rest) sum
    ∙ ap (λ (xs : List _). node_values claim (map repr xs)) (sym is)

-- the values of the cube of one coordinate more
pub cube-half : (size rounds count : ℕ) → size ≡ 2 ^ (rounds + 1) * count → size ≡ 2 * (2 ^ rounds * count)
cube-half size rounds count is =
    is ∙ ap (λ (k : ℕ). 2 ^ k * count) (next rounds) ∙ ap (λ (k : ℕ). k * count) (two-pow-succ rounds) ∙ omega arith
  where
    next : (r : ℕ) → r + 1 ≡ suc r
    next r = omega arith

pub cube-even : (size rounds count : ℕ) → size ≡ 2 ^ (rounds + 1) * count → size % 2 ≡ 0
cube-even size rounds count is = let half = cube-half size rounds count is in omega (arith, half)

-- ---- the prover's message

zip-first : (f : ℕ → ℕ → ℕ) → ((x y : ℕ) → f x y ≡ x) → (xs ys : List ℕ) → length xs ≡ length ys → zip2 f xs ys ≡ xs
zip-first f same [] ys long = refl
zip-first f same (x ∷ xs) [] long = absurd (omega (arith, long))
zip-first f same (x ∷ xs) (y ∷ ys) long = ap₂ (λ (z : ℕ) (zs : List ℕ). z ∷ zs) (same x y) (zip-first f same xs ys (omega (arith, long)))

-- where the first coordinate is 0, the lower half of the values is left
pub lower-is : {F : Type 0} (repr : F → ℕ) (width : ℕ) (times : ℕ → ℕ → ℕ) → IsRing width 1 times → 0 < width → (values : List F)
    → length values % 2 ≡ 0 → map repr (take (length values / 2) values) ≡ folded times 0 (map repr values)
lower-is repr width times ring wide values even =
    sym (take-map repr (length values / 2) values)
    ∙ ap (λ (n : ℕ). take (n / 2) (map repr values)) (sym long)
    ∙ sym (zip-first (on_line times 0) (line-zero width times ring wide) (take (length numbers / 2) numbers) (drop (length numbers / 2) numbers) halves)
  where
    numbers : List ℕ
    numbers = map repr values

    long : length numbers ≡ length values
    long = length-map values repr

    halves : length (take (length numbers / 2) numbers) ≡ length (drop (length numbers / 2) numbers)
    halves =
        let front = length-take-le (length numbers / 2) numbers (omega arith) in
        let back = length-drop (length numbers / 2) numbers in
        omega (arith, front, back, long, even)

-- the value at 0 of a round's polynomial is the sum over the lower half of the values
pub first-value : {F : Type 0} (repr : F → ℕ) (width : ℕ) (times : ℕ → ℕ → ℕ) → IsRing width 1 times → 0 < width → (terms : List Product)
    (count rounds : ℕ) (values : List F) (first : ℕ) → length values ≡ 2 ^ (rounds + 1) * count
    → first ≡ cube_sum times terms count rounds (map repr (take (length values / 2) values))
    → first ≡ honest_at times terms count rounds (map repr values) 0
first-value repr width times ring wide terms count rounds values first size is =
    is
    ∙ ap (cube_sum times terms count rounds)
    (lower-is repr width times ring wide values (cube-even (length values) rounds count size))

module _ {F : Type 0} (repr : F → ℕ) (h : ℕ → ℕ) where
  pub values-first : (none pushed : List F) (first : F) (x : ℕ) → none ≡ [] → pushed ≡ none ++ first ∷ [] → repr first ≡ h x → x ≡ 0
      → map repr pushed ≡ map h (0 ∷ range_with_len 2 0)
  values-first none pushed first x is_none is same zero_at =
      ap (map repr) (is ∙ ap (λ (xs : List F). xs ++ first ∷ []) is_none) ∙ ap (λ (n : ℕ). n ∷ []) (same ∙ ap h zero_at)

  pub values-more : (before pushed : List F) (value : F) (node : ℕ) → 2 ≤ node → pushed ≡ before ++ value ∷ [] → repr value ≡ h node
      → map repr before ≡ map h (0 ∷ range_with_len 2 (node - 2)) → map repr pushed ≡ map h (0 ∷ range_with_len 2 (node + 1 - 2))
  values-more before pushed value node enough is same so_far =
      let next : node + 1 - 2 ≡ node - 2 + 1 = omega (arith, enough) in
      let at : 2 + (node - 2) ≡ node = omega (arith, enough) in
      pushed-number repr before pushed value (h node) is same
      ∙ ap (λ (ns : List ℕ). ns ++ h node ∷ []) so_far
      ∙ ap (λ (ns : List ℕ). h 0 ∷ ns) (sym (map-range_with_len_more h 2 (node - 2) node at))
      ∙ ap (λ (k : ℕ). map h (0 ∷ range_with_len 2 k)) (sym next)

-- ---- statements

pub terms-none : {A T : Type 0} (repr : A → ℕ) (items : List A) (terms : List T) (term_product : T → Product) → length terms ≡ 0
    → map repr items ≡ map repr items ++ flat_map term_numbers (map term_product terms)
terms-none repr items [] term_product none = sym (append-nil (map repr items))
terms-none repr items (t ∷ ts) term_product none = absurd (omega (arith, none))

-- the counts, the square, the terms and the claim, one after the other
pub statement-numbers : {A : Type 0} (repr : A → ℕ) (none counts longer with_terms all : List A) (square claim : A) (w r t n s : ℕ)
    (terms : List Product) → none ≡ [] → map repr counts ≡ map repr none ++ w ∷ r ∷ t ∷ n ∷ [] → longer ≡ counts ++ square ∷ []
    → repr square ≡ s → map repr with_terms ≡ map repr longer ++ flat_map term_numbers terms → all ≡ with_terms ++ claim ∷ []
    → map repr all ≡ w ∷ r ∷ t ∷ n ∷ s ∷ flat_map term_numbers terms ++ repr claim ∷ []
statement-numbers repr none counts longer with_terms all square claim w r t n s terms is_none is_counts is_longer is_square is_terms is_all =
    pushed-number repr with_terms all claim (repr claim) is_all refl
    ∙ ap (λ (ns : List ℕ). ns ++ repr claim ∷ [])
    (is_terms
    ∙ ap (λ (ns : List ℕ). ns ++ flat_map term_numbers terms)
    (pushed-number repr counts longer square s is_longer is_square
    ∙ ap (λ (ns : List ℕ). ns ++ s ∷ []) (is_counts ∙ ap (λ (xs : List _). map repr xs ++ w ∷ r ∷ t ∷ n ∷ []) is_none)))

-- an honest message has d values
pub honest-long : {F : Type 0} (repr : F → ℕ) (times : ℕ → ℕ → ℕ) (terms : List Product) (count n d : ℕ) (values : List ℕ) (message : List F)
    → 0 < d → map repr message ≡ honest_message times terms count n values d → length message ≡ d
honest-long repr times terms count n d values message some is =
    let long = length-map-range_with_len (honest_at times terms count n values) 2 (d - 1) in
    let same : length message ≡ length (honest_message times terms count n values d) = sym (length-map message repr) ∙ ap length is in
    omega (arith, long, same, some)

-- one round fewer
pub cube-more : (size rounds count : ℕ) → 0 < rounds → size ≡ 2 ^ rounds * count → size ≡ 2 ^ (rounds - 1 + 1) * count
cube-more size rounds count some is = is ∙ ap (λ (k : ℕ). 2 ^ k * count) (same rounds some)
  where
    same : (r : ℕ) → 0 < r → r ≡ r - 1 + 1
    same r some = omega (arith, some)

pub half-size : {A : Type 0} (values : List A) (size all rounds count : ℕ) → 0 < rounds → all ≡ 2 ^ rounds * count → size ≡ all
    → length values ≡ all → length (take (size / 2) values) ≡ 2 ^ (rounds - 1) * count
half-size values size all rounds count some is same long =
    let twice = cube-half all (rounds - 1) count (cube-more all rounds count some is) in
    let half : size / 2 ≡ 2 ^ (rounds - 1) * count = omega (arith, twice, same) in
    let fits : size / 2 ≤ length values = omega (arith, same, long) in
    length-take-le (size / 2) values fits ∙ half
