-- The lanes of a list of packings, one after another, as loops over the packings make or read them.
use Rattle.std.proofs.Common.{◌≡◌, ℕ, ◌+◌, ◌*◌, ◌/◌, ◌<◌, ◌≤◌, List, [], ◌∷◌, ◌++◌, length, take, drop, get_or, add-one, append_assoc, length-append, sym, ◌∙◌, ap, ap₂, arith}
use Rattle.std.specs.List.{flat_map}
use borrow.Rule.Slice.PartMut.{put_mid}
use Rattle.std.proofs.Math.Nat.{mul-le-mul_right, suc-mul}
use Rattle.std.proofs.lemmas.List.{append-nil, flat_map_more, nil_from_length, take-append-drop, take_more}
use Rattle.std.proofs.lemmas.Nat.{div-mul-add}
use Rattle.std.proofs.lemmas.Slice.{take-put_mid}
use native.Mathlib.Nat.{zero-mul}
use Rattle.packed_lanes.specs.Packed.{lanes_of}
use Rattle.packed_lanes.specs.declared.packed.Packed.{Packed}

-- n + 1 packings have N lanes more than n
pub lanes-after : (n N : ℕ) → (n + 1) * N ≡ n * N + N
lanes-after n N = ap (λ (k : ℕ). k * N) (add-one n) ∙ suc-mul n N

-- the lanes of packing i end within the lanes of n packings
pub lane_places : (i n N : ℕ) → i < n → i * N + N ≤ n * N
lane_places i n N inside =
    let more : i + 1 ≤ n = omega (arith, inside) in
    let room : (i + 1) * N ≤ n * N = mul-le-mul_right N more in
    let next = lanes-after i N in
    omega (arith, room, next)

module _ {F : Type 0} {N : ℕ} where
  -- n packings have n N lanes
  pub length-lanes : (ps : List (Packed F N)) → length (flat_map lanes_of ps) ≡ length ps * N
  length-lanes [] = sym (zero-mul N)
  length-lanes (p ∷ ps) =
      let turned : N + length ps * N ≡ length ps * N + N = omega arith in
      length-append (lanes_of p) (flat_map lanes_of ps)
      ∙ ap₂ (λ (m n : ℕ). m + n) p.long (length-lanes ps)
      ∙ turned
      ∙ sym (suc-mul (length ps) N)

  -- one packing more at the end
  pub one-more : (ps : List (Packed F N)) (p : Packed F N) → flat_map lanes_of (ps ++ p ∷ []) ≡ flat_map lanes_of ps ++ lanes_of p
  one-more ps p = sym (flat_map_more lanes_of [] ps p)

  -- ---- lanes that are read from a list, of which a rest is left

  module _ (ps : List (Packed F N)) (values rest : List F) (so_far : flat_map lanes_of ps ++ rest ≡ values) where
    -- the rest begins with the lanes of one packing more
    pub packed_more : (p : Packed F N) (others : List F) → lanes_of p ≡ take N rest → others ≡ drop N rest
        → flat_map lanes_of (ps ++ p ∷ []) ++ others ≡ values
    packed_more p others front back =
        ap (λ (xs : List F). xs ++ others) (one-more ps p)
        ∙ append_assoc (flat_map lanes_of ps) (lanes_of p) others
        ∙ ap (λ (xs : List F). flat_map lanes_of ps ++ (xs ++ others)) front
        ∙ ap (λ (xs : List F). flat_map lanes_of ps ++ (take N rest ++ xs)) back
        ∙ ap (λ (xs : List F). flat_map lanes_of ps ++ xs) (take-append-drop N rest)
        ∙ so_far

    -- how many values there are
    pub values-length : length values ≡ length ps * N + length rest
    values-length =
        sym (ap (λ (xs : List F). length xs) so_far)
        ∙ length-append (flat_map lanes_of ps) rest
        ∙ ap (λ (n : ℕ). n + length rest) (length-lanes ps)

    -- where the rest fills no packing, the packings are as many as there can be
    pub packed-count : length rest < N → length ps ≡ length values / N
    packed-count short =
        sym (ap (λ (n : ℕ). n / N) values-length ∙ div-mul-add (length ps) N (length rest) short)

    -- of values for n packings, those for one more are left
    pub rest-fills : (n : ℕ) → length values ≡ n * N → length ps < n → N ≤ length rest
    rest-fills n all fewer =
        let room = lane_places (length ps) n N fewer in
        let long = values-length in
        omega (arith, room, long, all)

    -- and none are left for the last
    pub packed-all : (n : ℕ) → length values ≡ n * N → n ≤ length ps → flat_map lanes_of ps ≡ values
    packed-all n all every =
        let room : n * N ≤ length ps * N = mul-le-mul_right N every in
        let long = values-length in
        sym (append-nil (flat_map lanes_of ps))
        ∙ ap (λ (xs : List F). flat_map lanes_of ps ++ xs) (sym (nil_from_length rest (omega (arith, room, long, all))))
        ∙ so_far

  -- ---- lanes that are written to a list, packing by packing

  -- the places before packing i have the lanes of the packings before it
  pub lanes_written : (ps : List (Packed F N)) (i start k n : ℕ) (values lanes : List F) → i < length ps
      → take start values ≡ flat_map lanes_of (take i ps) → (p : Packed F N) → p ≡ get_or ps i p → lanes ≡ lanes_of p
      → n ≡ start + N → start ≤ length values
      → take n (put_mid start k values lanes) ≡ flat_map lanes_of (take (i + 1) ps)
  lanes_written ps i start k n values lanes inside so_far p read is next fits =
      let long : length lanes ≡ N = ap (λ (xs : List F). length xs) is ∙ p.long in
      take-put_mid start k values lanes n (omega (arith, next, long)) fits
      ∙ ap (λ (xs : List F). xs ++ lanes) so_far
      ∙ ap (λ (xs : List F). flat_map lanes_of (take i ps) ++ xs) is
      ∙ sym (one-more (take i ps) p)
      ∙ ap (λ (x : Packed F N). flat_map lanes_of (take i ps ++ x ∷ [])) read
      ∙ ap (flat_map lanes_of) (sym (take_more ps i p inside))
