-- Parts of several narrow words, read and written word by word.
use Rattle.std.proofs.Common.{◌≡◌, ◌≢◌, ℕ, ◌+◌, ◌*◌, ◌/◌, ◌^◌, ◌<◌, ◌≤◌, sym, ap, ◌∙◌, arith, refl, subst, inl, inr, ◌⊎◌, Fits, w64}
use Rattle.std.proofs.lemmas.Bool.{cases_eq, cases_lt}
use Rattle.std.proofs.lemmas.Nat.{mul-le}
use Rattle.std.proofs.Math.Nat.{mul-div_cancel_left}
use Rattle.field_base.specs.Chunks.{chunk}
use Rattle.field_base.proofs.ChunkLists.{chunk-lt}
use Rattle.packed_lanes.specs.Parts.{IsWithPart}
use Rattle.packed_lanes.proofs.BlockLemmas.{places_up}
use Rattle.packed_lanes.proofs.LaneLemmas.{power_some, same_from_parts}
use Rattle.packed_lanes.proofs.NarrowParts.{part_of_part}

-- i c + k = c i + k
turned : (c i k : ℕ) → i * c + k ≡ c * i + k
turned c i k = omega arith

-- the narrow words of one part are those of another
pub same_part : (w c n i r h : ℕ) → 0 < w → ((k : ℕ) → k < c → chunk w (c * h + k) r ≡ chunk w (c * i + k) n)
    → chunk (w * c) h r ≡ chunk (w * c) i n
same_part w c n i r h some same =
    same_from_parts w c (chunk (w * c) h r) (chunk (w * c) i n) some (chunk-lt (w * c) h r) (chunk-lt (w * c) i n)
    (λ k less. part_of_part w c r h k less ∙ same k less ∙ sym (part_of_part w c n i k less))

-- a number whose narrow words are those of a part
pub is_part : (w c wide n i r : ℕ) → 0 < w → wide ≡ w * c → r < 2 ^ wide
    → ((k : ℕ) → k < c → chunk w k r ≡ chunk w (i * c + k) n) → r ≡ chunk wide i n
is_part w c wide n i r some is fits same =
    same_from_parts w c r (chunk (w * c) i n) some (subst (λ (z : ℕ). r < 2 ^ z) is fits) (chunk-lt (w * c) i n)
    (λ k less. same k less ∙ ap (λ (p : ℕ). chunk w p n) (turned c i k) ∙ sym (part_of_part w c n i k less))
    ∙ ap (λ (z : ℕ). chunk z i n) (sym is)

-- the narrow words of all parts
pub narrow_count : (w wide words c ratio total bits part : ℕ) → 0 < w → bits ≡ wide * words → wide ≡ w * c → part ≡ w * total
    → bits ≡ part * ratio → c * words ≡ total * ratio
narrow_count w wide words c ratio total bits part some row word parts all =
    let left : bits ≡ w * (c * words) = row ∙ ap (λ (z : ℕ). z * words) word ∙ assoc w c words in
    let right : bits ≡ w * (total * ratio) = all ∙ ap (λ (z : ℕ). z * ratio) parts ∙ assoc w total ratio in
    sym (mul-div_cancel_left (c * words) some) ∙ ap (λ (z : ℕ). z / w) (sym left ∙ right) ∙ mul-div_cancel_left (total * ratio) some
  where
    assoc : (a b d : ℕ) → a * b * d ≡ a * (b * d)
    assoc a b d = grind arith

-- word k of part i lies in the row
pub narrow_inside : (w c part ratio bits i k : ℕ) → 0 < w → part ≡ w * c → bits ≡ part * ratio → i < ratio → k < c → w * (i * c + k) < bits
narrow_inside w c part ratio bits i k some is all less within =
    let here = places_up w (i * c + k) (c * ratio) (in_all) in
    let whole : bits ≡ w * (c * ratio) = all ∙ ap (λ (z : ℕ). z * ratio) is ∙ (grind arith) in
    omega (arith, here, whole, some)
  where
    in_all : i * c + k < c * ratio
    in_all = let up = places_up c i ratio less in omega (arith, up, within)

-- the index of word k of part i is below the bits of the row
pub narrow_small : (w c part ratio bits i k : ℕ) → 0 < w → part ≡ w * c → bits ≡ part * ratio → i < ratio → k < c → i * c + k < bits
narrow_small w c part ratio bits i k some is all less within =
    let inside = narrow_inside w c part ratio bits i k some is all less within in
    let up = mul-le 1 (i * c + k) w (i * c + k) (omega (arith, some)) (omega arith) in
    omega (arith, inside, up)

-- the index of word k of part i, and the product in it, fit 64 bits; `count` is what the code has read as the words of a part
pub place_counted : (w log c part ratio bits i k : ℕ) {count : ℕ} → w ≡ 2 ^ log → part ≡ w * c → bits ≡ part * ratio → bits < 2 ^ 32
    → i < ratio → k < c → count ≡ c → Fits w64 (i * count) × Fits w64 (i * count + k)
place_counted w log c part ratio bits i k power is all narrow less within read =
    let small = narrow_small w c part ratio bits i k (power_some log w power) is all less within in
    subst (λ (z : ℕ). Fits w64 (i * z) × Fits w64 (i * z + k)) (sym read) (omega (arith, small, narrow), omega (arith, small, narrow))

-- word k of part i is one of the narrow words of the row
pub narrow_index : (c ratio total i k : ℕ) → total ≡ c * ratio → i < ratio → k < c → i * c + k < total
narrow_index c ratio total i k all less within = let up = places_up c i ratio less in omega (arith, up, within, all)

-- how far the words of a part are written: of `total` narrow words of the row, the first k of the c words of part i are those of v
pub record IsWrittenTo (w c total i k v before now : ℕ) : Type 0 where
  pub written : (j : ℕ) → j < k → chunk w (i * c + j) now ≡ chunk w j v
  pub below : (m : ℕ) → m < total → m < i * c → chunk w m now ≡ chunk w m before
  pub above : (m : ℕ) → m < total → i * c + k ≤ m → chunk w m now ≡ chunk w m before

-- before the first word nothing is written
pub nothing_written : (w c total i v n now : ℕ) → now ≡ n → IsWrittenTo w c total i 0 v n now
nothing_written w c total i v n now same = record {
  written = λ j less. absurd (omega arith);
  below = λ m inside less. ap (λ (z : ℕ). chunk w m z) same;
  above = λ m inside more. ap (λ (z : ℕ). chunk w m z) same;
}

-- word k is written after the first k words
pub more_written : (w c total i k v n now index x r : ℕ) → index ≡ i * c + k → index < total → IsWrittenTo w c total i k v n now
    → x ≡ chunk w k v → IsWithPart w total now index x r → IsWrittenTo w c total i (k + 1) v n r
more_written w c total i k v n now index x r at inside so_far is put = record {
  written = λ j less. cases j less (cases_eq j k);
  below = λ m within less. put.1 m within (λ same. absurd (omega arith)) ∙ so_far.below m within less;
  above = λ m within more. put.1 m within (λ same. absurd (omega arith)) ∙ so_far.above m within (omega arith);
}
  where
    cases : (j : ℕ) → j < k + 1 → (j ≡ k) ⊎ (j ≢ k) → chunk w (i * c + j) r ≡ chunk w j v
    cases j less (inl same) = ap (λ (z : ℕ). chunk w (i * c + z) r) same ∙ ap (λ (p : ℕ). chunk w p r) (sym at) ∙ put.0 ∙ is ∙ ap (λ (p : ℕ). chunk w p v) (sym same)
    cases j less (inr other) =
        put.1 (i * c + j) (omega arith) (λ same. other (omega arith)) ∙ so_far.written j (grind arith)

-- at its end the part is written
pub part_replaced : (w c part total ratio i v n r : ℕ) → 0 < w → part ≡ w * c → total ≡ c * ratio → i < ratio → v < 2 ^ part
    → IsWrittenTo w c total i c v n r → IsWithPart part ratio n i v r
part_replaced w c part total ratio i v n r some is all less fits done =
    subst (λ (z : ℕ). IsWithPart z ratio n i v r) (sym is) (here, others)
  where
    here : chunk (w * c) i r ≡ v
    here =
        sym (is_part w c (w * c) r i v some refl (subst (λ (z : ℕ). v < 2 ^ z) is fits) (λ k within. sym (done.written k within)))

    others : (k : ℕ) → k < ratio → k ≢ i → chunk (w * c) k r ≡ chunk (w * c) k n
    others k within other = same_part w c n k r k some (λ j inside. cases j inside (cases_lt k i))
      where
        cases : (j : ℕ) → j < c → (k < i) ⊎ (i ≤ k) → chunk w (c * k + j) r ≡ chunk w (c * k + j) n
        cases j inside (inl before) =
            let up = places_up c k ratio within in
            let next = places_up c k i before in
            done.below (c * k + j) (omega (arith, up, all, inside)) (omega (arith, next, inside))
        cases j inside (inr after) =
            let up = places_up c k ratio within in
            let next = places_up c i k (grind arith) in
            done.above (c * k + j) (omega (arith, up, all, inside)) (omega (arith, next))
