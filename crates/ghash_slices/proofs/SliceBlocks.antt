-- Slices of which some places are written, one by one and block by block.
use Rattle.std.proofs.Common.{◌≡◌, ◌≢◌, ◌⊎◌, inl, inr, ℕ, ◌+◌, ◌<◌, ◌≤◌, List, length, get_or-set_other, get_or-set_same, map, refl, sym, ◌∙◌, ap, subst, arith}
use Rattle.std.specs.Prelude.{slice_index}
use Rattle.std.specs.Simd.Lanes.{zip2}
use Rattle.std.proofs.Math.ListN.{length-set, set}
use Rattle.std.proofs.lemmas.Bool.{cases_lt}
use Rattle.std.proofs.lemmas.List.{ext_get_or, get_or-map, get_or_past, length-map}
use Rattle.std.proofs.lemmas.Simd.{get_or-zip2, length-zip2}
use Rattle.ghash_slices.specs.Blocks.{HoldsPlaces}

-- ---- places

module _ (f : ℕ → ℕ) where
  -- none is written yet
  pub none_held : (start : ℕ) (old : List ℕ) → HoldsPlaces f start start old old
  none_held start old = record {
    same_length = refl;
    here = λ p from below inside. absurd (omega arith);
    before = λ p below. refl;
    behind = λ p past. refl;
  }

  -- one place more
  pub one_more : (start end : ℕ) (old now : List ℕ) (v : ℕ) → start ≤ end → end < length now → v ≡ f end
      → HoldsPlaces f start end old now → HoldsPlaces f start (end + 1) old (set now end v)
  one_more start end old now v order inside is held = record {
    same_length = length-set now end v ∙ held.same_length;
    here = λ p from below within. pick p from below within (cases_lt p end);
    before = λ p below. let other : p ≢ end = omega arith in rw get_or-set_other (held.before p below);
    behind = λ p past. let other : p ≢ end = omega arith in rw get_or-set_other (held.behind p (omega arith));
  }
    where
      pick : (p : ℕ) → start ≤ p → p < end + 1 → p < length old → (p < end) ⊎ (end ≤ p) → slice_index (set now end v) p ≡ f p
      pick p from below within (inl earlier) =
          let other : p ≢ end = omega arith in rw get_or-set_other (held.here p from earlier within)
      pick p from below within (inr last) =
          let at : end ≡ p = omega arith in
          subst (λ (q : ℕ). slice_index (set now end v) q ≡ f q) at (rw get_or-set_same is)

  -- so it is where that place alone was written
  pub place_written : (start end : ℕ) (old now new : List ℕ) (v : ℕ) → start ≤ end → end < length now → new ≡ set now end v → v ≡ f end
      → HoldsPlaces f start end old now → HoldsPlaces f start (end + 1) old new
  place_written start end old now new v order inside written is held =
      subst (HoldsPlaces f start (end + 1) old) (sym written) (one_more start end old now v order inside is held)

  -- two places more
  pub pair_written : (start end : ℕ) (old now mid new : List ℕ) (u v : ℕ) → start ≤ end → end + 1 < length now → mid ≡ set now end u → u ≡ f end
      → new ≡ set mid (end + 1) v → v ≡ f (end + 1) → HoldsPlaces f start end old now → HoldsPlaces f start (end + 2) old new
  pair_written start end old now mid new u v order inside written is written' is' held =
      let as_long : length mid ≡ length now = ap length written ∙ length-set now end u in
      let two : end + 1 + 1 ≡ end + 2 = omega arith in
      subst (λ (n : ℕ). HoldsPlaces f start n old new) two
      (place_written start (end + 1) old mid new v (omega arith) (omega arith) written' is'
      (place_written start end old now mid u order (omega arith) written is held))

  -- the places from `mid` on were written after those before
  pub then_held : (g : ℕ → ℕ) (start mid end : ℕ) (old now new : List ℕ) → start ≤ mid → mid ≤ end → ((p : ℕ) → mid ≤ p → g p ≡ f p)
      → HoldsPlaces f start mid old now → HoldsPlaces g mid end now new → HoldsPlaces f start end old new
  then_held g start mid end old now new order order' same first rest = record {
    same_length = rest.same_length ∙ first.same_length;
    here = λ p from below inside. pick p from below inside (cases_lt p mid);
    before = λ p below. rest.before p (omega arith) ∙ first.before p below;
    behind = λ p past. rest.behind p past ∙ first.behind p (omega arith);
  }
    where
      pick : (p : ℕ) → start ≤ p → p < end → p < length old → (p < mid) ⊎ (mid ≤ p) → slice_index new p ≡ f p
      pick p from below inside (inl earlier) = rest.before p earlier ∙ first.here p from earlier inside
      pick p from below inside (inr later) =
          let within : p < length now = let same_length = first.same_length in omega arith in
          rest.here p later below within ∙ same p later

  -- behind the last place there is nothing to write
  pub held_until : (start end end' : ℕ) (old now : List ℕ) → length old ≤ end → length old ≤ end' → HoldsPlaces f start end old now
      → HoldsPlaces f start end' old now
  held_until start end end' old now all all' held = record {
    same_length = held.same_length;
    here = λ p from below inside. held.here p from (omega arith) inside;
    before = held.before;
    behind = λ p past. let same_length = held.same_length in
        get_or_past now p 0 (omega arith) ∙ sym (get_or_past old p 0 (omega arith));
  }

  -- a block of sixteen places is written, or what there is of it
  pub block_held : (start place : ℕ) (old now : List ℕ) → place ≤ 16 → (place < 16 → start + place ≡ length old)
      → HoldsPlaces f start (start + place) old now → HoldsPlaces f start (start + 16) old now
  block_held start place old now few end held = pick (cases_lt place 16)
    where
      pick : (place < 16) ⊎ (16 ≤ place) → HoldsPlaces f start (start + 16) old now
      pick (inl short) = let at = end short in held_until start (start + place) (start + 16) old now (omega arith) (omega arith) held
      pick (inr whole) =
          let all : start + place ≡ start + 16 = omega arith in subst (λ (e : ℕ). HoldsPlaces f start e old now) all held

-- places hold what is equal to what they hold
pub held_same : (f g : ℕ → ℕ) (start end : ℕ) (old new : List ℕ) → ((p : ℕ) → start ≤ p → f p ≡ g p) → HoldsPlaces f start end old new
    → HoldsPlaces g start end old new
held_same f g start end old new same held = record {
  same_length = held.same_length;
  here = λ p from below inside. held.here p from below inside ∙ same p from;
  before = held.before;
  behind = held.behind;
}

-- ---- whole slices

-- a slice whose places are all written is the old one mapped
pub held_map : (h : ℕ → ℕ) (end : ℕ) (old now : List ℕ) → length old ≤ end → HoldsPlaces (λ p. h (slice_index old p)) 0 end old now
    → now ≡ map h old
held_map h end old now all held =
    ext_get_or 0 now (map h old) (held.same_length ∙ sym (length-map old h))
    (λ p inside.
    let same_length = held.same_length in
    let within : p < length old = omega arith in
    held.here p (omega arith) (omega arith) within ∙ sym (get_or-map h old p 0 0 within))

-- with another list it is both together
pub held_zip2 : (h : ℕ → ℕ → ℕ) (end : ℕ) (old others now : List ℕ) → length old ≡ length others → length old ≤ end
    → HoldsPlaces (λ p. h (slice_index old p) (slice_index others p)) 0 end old now → now ≡ zip2 h old others
held_zip2 h end old others now same all held =
    ext_get_or 0 now (zip2 h old others) (held.same_length ∙ sym (length-zip2 h old others same))
    (λ p inside.
    let same_length = held.same_length in
    let within : p < length old = omega arith in
    let also : p < length others = omega arith in
    held.here p (omega arith) (omega arith) within ∙ sym (get_or-zip2 h old others p 0 0 0 within also))
