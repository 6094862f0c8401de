-- Look-ups by the halves of bytes, in any number of lanes: a table of sixteen entries that is repeated for each block of sixteen lanes,
-- and in each lane the entry at the low or the high four bits of its byte.
use Rattle.std.proofs.Common.{◌≡◌, ℕ, suc, ◌+◌, ◌*◌, ◌/◌, ◌%◌, ◌^◌, ◌<◌, ◌≤◌, ◌-◌, ◌⊎◌, inl, inr, Bool, true, false, List, [], ◌∷◌, ◌++◌, length, get_or, map, replicate, cond, leb, refl, sym, ◌∙◌, ap, ap₂, subst, arith, lit<, w8, Fits}
use Rattle.std.specs.Prelude.{bit_and}
use Rattle.std.specs.Simd.Lanes.{zip2, Each1, chunk, pick_l}
use Rattle.std.specs.List.{range_with_len}
use Rattle.std.proofs.lemmas.Bool.{cases_lt, leb-true}
use Rattle.std.proofs.lemmas.List.{ext_get_or, get_or_append_left, get_or-append_right, length-append, length-map}
use Rattle.std.proofs.lemmas.Nat.{and_mask}
use Rattle.std.proofs.lemmas.Simd.{SwzOk, swz_l, SwzOk-from_below, Each1-weaker, Each1-all, zip2_splat, get_or-chunk, length-chunk, pick_l_left, pick_l-range_with_len, pick_l_whole}
use native.Mathlib.Nat.{mod-eq_of_lt, mod-lt}

-- ---- the places in a table

-- a lane's place in the table, where f chooses it
abbrev Chooses : (ℕ → ℕ) → List ℕ → Type 0
Chooses f = Each1 (λ lane. f lane < 16)

-- the places chosen are below 16
places_below : (f : ℕ → ℕ) (lanes : List ℕ) → Chooses f lanes → Each1 (λ place. place < 16) (map f lanes)
places_below f [] small = tt
places_below f (lane ∷ lanes) small = (small.0, places_below f lanes small.1)

-- lanes in blocks of sixteen, with places below 16, may be looked up
may_look_up : (blocks n : ℕ) (f : ℕ → ℕ) (lanes : List ℕ) → n ≡ blocks * 16 → length lanes ≡ n → Chooses f lanes
    → SwzOk w8 16 n 0 (map f lanes)
may_look_up blocks n f lanes whole long small =
    let same = length-map lanes f in
    SwzOk-from_below w8 16 blocks n 0 (map f lanes) whole (omega arith) (places_below f lanes small)

-- the places that the code asks for: the low four bits of each lane
masked : (n : ℕ) (lanes : List ℕ) → length lanes ≡ n → zip2 bit_and lanes (replicate n 15) ≡ map (λ lane. lane % 16) lanes
masked n lanes long = zip2_splat bit_and lanes n 15 long ∙ masks lanes
  where
    masks : (xs : List ℕ) → map (λ x. bit_and x 15) xs ≡ map (λ x. x % 16) xs
    masks [] = refl
    masks (x ∷ xs) = ap₂ (λ (y : ℕ) (ys : List ℕ). y ∷ ys) (and_mask x 4) (masks xs)

-- and the others
shifted : (n : ℕ) (lanes : List ℕ) → length lanes ≡ n
    → zip2 (λ (a b : ℕ). a / 2 ^ b) lanes (replicate n 4) ≡ map (λ lane. lane / 16) lanes
shifted n lanes long = zip2_splat (λ (a b : ℕ). a / 2 ^ b) lanes n 4 long

-- the low four bits are a place in the table
low_places : (lanes : List ℕ) → Chooses (λ lane. lane % 16) lanes
low_places = Each1-all (λ lane. lane % 16 < 16) (λ lane. mod-lt lane (lit< tt))

-- so are the high four bits of a byte
high_places : (lanes : List ℕ) → Each1 (Fits w8) lanes → Chooses (λ lane. lane / 16) lanes
high_places = Each1-weaker (Fits w8) (λ lane. lane / 16 < 16) (λ lane byte. omega (arith, byte.fits))

-- the code may look up the low four bits of each byte
pub low_in_table : (blocks n : ℕ) (bytes : List ℕ) → n ≡ blocks * 16 → length bytes ≡ n
    → SwzOk w8 16 n 0 (zip2 bit_and bytes (replicate n 15))
low_in_table blocks n bytes whole long =
    subst (SwzOk w8 16 n 0) (sym (masked n bytes long)) (may_look_up blocks n (λ byte. byte % 16) bytes whole long (low_places bytes))

-- and the high four bits
pub high_in_table : (blocks n : ℕ) (bytes : List ℕ) → n ≡ blocks * 16 → length bytes ≡ n → Each1 (Fits w8) bytes
    → SwzOk w8 16 n 0 (zip2 (λ (a b : ℕ). a / 2 ^ b) bytes (replicate n 4))
high_in_table blocks n bytes whole long fits =
    subst (SwzOk w8 16 n 0) (sym (shifted n bytes long))
    (may_look_up blocks n (λ byte. byte / 16) bytes whole long (high_places bytes fits))

-- ---- the entries that are looked up

-- the sixteen entries of a table are the values of g, once for each block of sixteen among its first n
abbrev pub Repeats : ℕ → (ℕ → ℕ) → List ℕ → Type 0
Repeats n g table = (lane : ℕ) → lane < n → get_or table lane 0 ≡ g (lane % 16)

-- a number below 128 is not at least 128, the mark of a lane that is to be 0
not_above : (n : ℕ) (b : Bool) → leb 128 n ≡ b → n < 128 → b ≡ false
not_above n true above below = let high = leb-true 128 n above in absurd (omega arith)
not_above n false above below = refl

-- lane i on has the values of g at the places that f chooses
looked_up : (blocks n : ℕ) (table : List ℕ) (g f : ℕ → ℕ) (lanes : List ℕ) (i : ℕ) → n ≡ blocks * 16 → Repeats n g table
    → i + length lanes ≤ n → Chooses f lanes → swz_l w8 16 table i (map f lanes) ≡ map (λ lane. g (f lane)) lanes
looked_up blocks n table g f [] i whole entries room small = refl
looked_up blocks n table g f (lane ∷ lanes) i whole entries room small =
    ap₂ (λ (x : ℕ) (xs : List ℕ). x ∷ xs)
    (ap (λ (b : Bool). cond b 0 (get_or table (16 * (i / 16) + f lane) 0)) low
    ∙ entries (16 * (i / 16) + f lane) within ∙ ap g place)
    (looked_up blocks n table g f lanes (suc i) whole entries (omega arith) small.1)
  where
    below : f lane < 16
    below = small.0

    low : leb 128 (f lane) ≡ false
    low = not_above (f lane) (leb 128 (f lane)) refl (omega arith)

    first : i < n
    first = omega arith

    within : 16 * (i / 16) + f lane < n
    within = omega (arith, first, whole, below)

    place : (16 * (i / 16) + f lane) % 16 ≡ f lane
    place = omega (arith, below)

-- the code's look-up of the low four bits
pub low_looked_up : (blocks n : ℕ) (table : List ℕ) (g : ℕ → ℕ) (bytes : List ℕ) → n ≡ blocks * 16 → Repeats n g table
    → length bytes ≡ n → swz_l w8 16 table 0 (zip2 bit_and bytes (replicate n 15)) ≡ map (λ byte. g (byte % 16)) bytes
low_looked_up blocks n table g bytes whole entries long =
    ap (swz_l w8 16 table 0) (masked n bytes long)
    ∙ looked_up blocks n table g (λ byte. byte % 16) bytes 0 whole entries (omega arith) (low_places bytes)

-- and of the high four
pub high_looked_up : (blocks n : ℕ) (table : List ℕ) (g : ℕ → ℕ) (bytes : List ℕ) → n ≡ blocks * 16 → Repeats n g table
    → length bytes ≡ n → Each1 (Fits w8) bytes
    → swz_l w8 16 table 0 (zip2 (λ (a b : ℕ). a / 2 ^ b) bytes (replicate n 4)) ≡ map (λ byte. g (byte / 16)) bytes
high_looked_up blocks n table g bytes whole entries long fits =
    ap (swz_l w8 16 table 0) (shifted n bytes long)
    ∙ looked_up blocks n table g (λ byte. byte / 16) bytes 0 whole entries (omega arith) (high_places bytes fits)

-- ---- two vectors as one

-- a table of sixteen entries serves sixteen lanes
pub repeats_once : (table : List ℕ) → length table ≡ 16 → Repeats 16 (λ n. get_or table n 0) table
repeats_once table long lane within = ap (λ (n : ℕ). get_or table n 0) (sym (mod-eq_of_lt within))

-- twice it serves thirty-two
pub repeats_twice : (table both : List ℕ) → length table ≡ 16 → both ≡ table ++ table → Repeats 32 (λ n. get_or table n 0) both
repeats_twice table both long is lane within = ap (λ (xs : List ℕ). get_or xs lane 0) is ∙ pick (cases_lt lane 16)
  where
    pick : (lane < 16) ⊎ (16 ≤ lane) → get_or (table ++ table) lane 0 ≡ get_or table (lane % 16) 0
    pick (inl below) =
        get_or_append_left table table 0 lane (omega (arith, long, below)) ∙ ap (λ (n : ℕ). get_or table n 0) (sym (mod-eq_of_lt below))
    pick (inr above) =
        let second : lane - 16 ≡ lane % 16 = omega (arith, above, within) in
        get_or-append_right table table 16 lane 0 long above ∙ ap (λ (n : ℕ). get_or table n 0) second

-- picking all lanes of two vectors, in order, joins them
pub picked_all : (first second : List ℕ) → length first ≡ 16 → length second ≡ 16
    → pick_l 0 (first ++ second) (range_with_len 0 32) ≡ first ++ second
picked_all first second long also =
    pick_l_whole 0 (first ++ second) 32 (length-append first second ∙ ap₂ (λ (m n : ℕ). m + n) long also)

-- the first sixteen of joined lanes
pub first_half : (lanes first second : List ℕ) → length lanes ≡ 32 → length first ≡ 16 → lanes ≡ first ++ second
    → pick_l 0 (lanes ++ lanes) (range_with_len 0 16) ≡ first
first_half lanes first second whole long is =
    pick_l_left 0 lanes lanes 32 (range_with_len 0 16) whole tt ∙ ap (λ (l : List ℕ). pick_l 0 l (range_with_len 0 16)) is
    ∙ pick_l_left 0 first second 16 (range_with_len 0 16) long tt ∙ pick_l_whole 0 first 16 long

-- and the last
pub second_half : (lanes first second : List ℕ) → length lanes ≡ 32 → length first ≡ 16 → length second ≡ 16 → lanes ≡ first ++ second
    → pick_l 0 (lanes ++ lanes) (range_with_len 16 16) ≡ second
second_half lanes first second whole long also is =
    pick_l_left 0 lanes lanes 32 (range_with_len 16 16) whole tt ∙ pick_l-range_with_len 0 lanes 16 16 (omega (arith, whole))
    ∙ ext_get_or 0 (chunk 16 16 lanes) second (sixteen ∙ sym also)
    (λ k inside.
    let small : k < 16 = omega (arith, sixteen) in
    get_or-chunk 16 16 lanes k 0 small ∙ ap (λ (l : List ℕ). get_or l (16 + k) 0) is
    ∙ get_or-append_right first second 16 (16 + k) 0 long (omega arith)
    ∙ (let place : 16 + k - 16 ≡ k = omega arith in ap (λ (n : ℕ). get_or second n 0) place))
  where
    sixteen : length (chunk 16 16 lanes) ≡ 16
    sixteen = length-chunk 16 16 lanes (omega (arith, whole))
