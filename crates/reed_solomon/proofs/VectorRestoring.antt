-- Shards at their places in the list of the bytes of all, and what is restored from the vectors that were made.
use Rattle.std.proofs.Common.{◌≡◌, ◌⊎◌, inl, inr, ℕ, zero, suc, ◌+◌, ◌*◌, ◌/◌, ◌%◌, ◌<◌, ◌≤◌, ◌≢◌, Bool, true, false, not, List, [], ◌∷◌, length, get_or, take, Option, Some, None, refl, sym, ◌∙◌, ap, subst, arith}
use Rattle.std.specs.Prelude.{is_some}
use Rattle.std.specs.Option.{option_or}
use Rattle.std.specs.declared.vec.Vec.{Vec}
use Rattle.std.proofs.lemmas.Bool.{true≢false, cases_lt}
use Rattle.std.proofs.lemmas.List.{get_or-take, get_or_past, length-append, length-take-le, take_all}
use Rattle.std.proofs.lemmas.List.Concat.{get_or-flat_map}
use Rattle.std.proofs.Math.ListN.{get_or-map}
use Rattle.std.proofs.Math.Nat.{mul-div_cancel_left, mul-mod_right, zero-div, zero-mul}
use Rattle.reed_solomon.specs.Shards.{IsPresent, IsReconstructed, RestoresColumn, shard_byte}
use Rattle.reed_solomon.specs.Sizes.{HasShardSize}
use Rattle.reed_solomon.specs.ShardVectors.{AreMade, AreRestored, HaveSize, IsMade, first_size, joined_shards, shard_content, shard_flags}

-- the first n shards have n times so many bytes
pub length-joined-take : {Z : Type 0} (size n : ℕ) (shards : List (Option (Vec ℕ Z))) → HaveSize size shards → n ≤ length shards
    → length (joined_shards size (take n shards)) ≡ n * size
length-joined-take size zero shards have within = sym (zero-mul size)
length-joined-take size (suc n) [] have within = absurd (omega (arith, within))
length-joined-take size (suc n) (shard ∷ shards) have within =
    let rest = length-joined-take size n shards (λ i. have (suc i)) (omega (arith, within)) in
    let first = have 0 in
    let both = length-append (shard_content size shard) (joined_shards size (take n shards)) in
    both ∙ omega (arith, rest, first)

-- all of them
pub length-joined : {Z : Type 0} (size : ℕ) (shards : List (Option (Vec ℕ Z))) → HaveSize size shards
    → length (joined_shards size shards) ≡ length shards * size
length-joined size shards have =
    ap (λ xs. length (joined_shards size xs)) (sym (take_all (length shards) shards (omega arith)))
    ∙ length-joined-take size (length shards) shards have (omega arith)

-- a byte of shard i, in the list of the bytes of all
pub byte-joined : {Z : Type 0} (size : ℕ) (shards : List (Option (Vec ℕ Z))) (i column : ℕ) → HaveSize size shards
    → i < length shards → column < size
    → shard_byte size (joined_shards size shards) i column ≡ get_or (shard_content size (get_or shards i None)) column 0
byte-joined size shards i column have within inside =
    ap (λ (n : ℕ). get_or (joined_shards size shards) (n + column) 0)
    (sym (length-joined-take size i shards have (omega (arith, within))))
    ∙ get_or-flat_map (shard_content size) shards i column None 0 within (subst (λ (n : ℕ). column < n) (sym (have i)) inside)

-- the same bytes are as much reconstructed
pub reconstructed-along : (k total until size : ℕ) (present : List Bool) (before made after : List ℕ)
    → ((i column : ℕ) → i < total → column < size → shard_byte size after i column ≡ shard_byte size made i column)
    → until ≤ total → IsReconstructed k total size until present before made → IsReconstructed k total size until present before after
reconstructed-along k total until size present before made after same within done =
    record {
      keeps = λ i column below inside kept. same i column below inside ∙ done.keeps i column below inside kept;
      restores = λ column inside. restored column inside (done.restores column inside);
    }
  where
    restored : (column : ℕ) → column < size → RestoresColumn k total size until present before made column
        → RestoresColumn k total size until present before after column
    restored column inside column_done =
        record {
          word = column_done.word;
          is_codeword = column_done.is_codeword;
          agrees = column_done.agrees;
          missing = λ i below lost. same i column (omega (arith, below, within)) inside ∙ column_done.missing i below lost;
        }

or-none : {X : Type 0} (a b : Option X) → is_some a ≡ false → option_or a b ≡ b
or-none None b none = refl
or-none (Some x) b none = absurd (true≢false none)

or-some : {X : Type 0} (a b : Option X) → is_some a ≡ true → option_or a b ≡ a
or-some None b some = absurd (true≢false (sym some))
or-some (Some x) b some = refl

cases_flag : (flag : Bool) → (flag ≡ true) ⊎ (flag ≡ false)
cases_flag true = inl refl
cases_flag false = inr refl

-- shards that were made, put where they were missing, restore
pub restored-made : {Z : Type 0} (k total until size : ℕ) (present : List Bool) (before made after : List (Option (Vec ℕ Z)))
    → until ≤ total → size ≡ first_size before → present ≡ shard_flags before → length before ≡ total → length after ≡ total
    → HaveSize size before → AreMade k total until size present before made
    → ((i : ℕ) → get_or after i None ≡ option_or (get_or made i None) (get_or before i None))
    → AreRestored k total until before after
restored-made {Z = Z} k total until size present before made after within size_is present_is long after_long have are_made put =
    record {
      keeps = λ i why. kept_where i why;
      whole = λ i below. whole i below;
      sizes = subst (λ (n : ℕ). HaveSize n after) size_is sizes;
      restored = subst (λ (n : ℕ). IsReconstructed k total n until (shard_flags before) (joined_shards n before) (joined_shards n after)) size_is
          (subst (λ (flags : List Bool). IsReconstructed k total size until flags (joined_shards size before) (joined_shards size after)) present_is
          (reconstructed-along k total until size present (joined_shards size before) are_made.joined (joined_shards size after) same within
          are_made.reconstructed));
    }
  where
    flag_of : (i : ℕ) → IsPresent (shard_flags before) i → get_or present i false ≡ true
    flag_of i here = ap (λ (flags : List Bool). get_or flags i false) present_is ∙ here

    is_flag : (i : ℕ) → get_or present i false ≡ is_some (get_or before i None)
    is_flag i = ap (λ (flags : List Bool). get_or flags i false) present_is ∙ get_or-map is_some before i None

    none_past : (i : ℕ) → until ≤ i → get_or made i None ≡ None
    none_past i past = get_or_past made i None (omega (arith, past, are_made.count))

    kept_past : (i : ℕ) → until ≤ i → get_or after i None ≡ get_or before i None
    kept_past i past = put i ∙ ap (λ (o : Option (Vec ℕ Z)). option_or o (get_or before i None)) (none_past i past)

    kept_below : (i : ℕ) → i < until → get_or present i false ≡ true → get_or after i None ≡ get_or before i None
    kept_below i below here =
        put i ∙ or-none (get_or made i None) (get_or before i None) ((are_made.each i below).where_missing ∙ ap not here)

    kept : (i : ℕ) → get_or present i false ≡ true → get_or after i None ≡ get_or before i None
    kept i here =
        elim (cases_lt i until) [
          | inl below ↦ kept_below i below here
          | inr past ↦ kept_past i past
        ]

    kept_where : (i : ℕ) → (IsPresent (shard_flags before) i) ⊎ (until ≤ i) → get_or after i None ≡ get_or before i None
    kept_where i why =
        elim why [
          | inl here ↦ kept i (flag_of i here)
          | inr past ↦ kept_past i past
        ]

    taken : (i : ℕ) → i < until → get_or present i false ≡ false → get_or after i None ≡ get_or made i None
    taken i below lost =
        put i ∙ or-some (get_or made i None) (get_or before i None) ((are_made.each i below).where_missing ∙ ap not lost)

    whole : (i : ℕ) → i < until → is_some (get_or after i None) ≡ true
    whole i below =
        elim (cases_flag (get_or present i false)) [
          | inl here ↦ ap is_some (kept i here) ∙ sym (is_flag i) ∙ here
          | inr lost ↦ ap is_some (taken i below lost) ∙ (are_made.each i below).where_missing ∙ ap not lost
        ]

    size_below : (i : ℕ) → i < until → length (shard_content size (get_or after i None)) ≡ size
    size_below i below =
        elim (cases_flag (get_or present i false)) [
          | inl here ↦ ap (λ (o : Option (Vec ℕ Z)). length (shard_content size o)) (kept i here) ∙ have i
          | inr lost ↦ ap (λ (o : Option (Vec ℕ Z)). length (shard_content size o)) (taken i below lost) ∙ (are_made.each i below).long
        ]

    sizes : HaveSize size after
    sizes i =
        elim (cases_lt i until) [
          | inl below ↦ size_below i below
          | inr past ↦ ap (λ (o : Option (Vec ℕ Z)). length (shard_content size o)) (kept_past i past) ∙ have i
        ]

    byte_kept : (i column : ℕ) → i < total → column < size → get_or after i None ≡ get_or before i None
        → (IsPresent present i) ⊎ (until ≤ i)
        → get_or (shard_content size (get_or after i None)) column 0 ≡ shard_byte size are_made.joined i column
    byte_kept i column below inside is why =
        ap (λ (o : Option (Vec ℕ Z)). get_or (shard_content size o) column 0) is
        ∙ sym (byte-joined size before i column have (subst (λ (n : ℕ). i < n) (sym long) below) inside)
        ∙ sym (are_made.reconstructed.keeps i column below inside why)

    byte_below : (i column : ℕ) → i < until → column < size
        → get_or (shard_content size (get_or after i None)) column 0 ≡ shard_byte size are_made.joined i column
    byte_below i column below inside =
        elim (cases_flag (get_or present i false)) [
          | inl here ↦ byte_kept i column (omega (arith, below, within)) inside (kept i here) (inl here)
          | inr lost ↦ ap (λ (o : Option (Vec ℕ Z)). get_or (shard_content size o) column 0) (taken i below lost)
              ∙ (are_made.each i below).bytes_are lost column inside
        ]

    same : (i column : ℕ) → i < total → column < size
        → shard_byte size (joined_shards size after) i column ≡ shard_byte size are_made.joined i column
    same i column below inside =
        byte-joined size after i column sizes (subst (λ (n : ℕ). i < n) (sym after_long) below) inside
        ∙ elim (cases_lt i until) [
          | inl before_end ↦ byte_below i column before_end inside
          | inr past ↦ byte_kept i column below inside (kept_past i past) (inr past)
        ]

-- so many shards of a size that is not 0 have a size
pub joined-sized : (total size bytes : ℕ) → 0 < total → size ≢ 0 → bytes ≡ total * size → HasShardSize total bytes
joined-sized total size bytes some wide is = (not_none, ap (λ (n : ℕ). n % total) is ∙ mul-mod_right total size)
  where
    back : total * size ≡ 0 → size ≡ 0
    back none =
        sym (mul-div_cancel_left size some) ∙ ap (λ (n : ℕ). n / total) none ∙ zero-div total

    not_none : bytes ≢ 0
    not_none none = wide (back (sym is ∙ none))

-- vectors that were made from the bytes of all, as they are reconstructed
pub made-of : {Z : Type 0} (k total until size : ℕ) (present : List Bool) (shards made : List (Option (Vec ℕ Z))) (joined bytes : List ℕ)
    → 0 < total → length shards ≡ total → HaveSize size shards → until ≤ length present → joined ≡ joined_shards size shards
    → IsReconstructed k total (length joined / total) until present joined bytes
    → (length made ≡ length (take until present))
    × ((i : ℕ) → i < length (take until present) → IsMade size i bytes (get_or (take until present) i false) (get_or made i None))
    → AreMade k total until size present shards made
made-of k total until size present shards made joined bytes some long have within is done each =
    record {
      joined = bytes;
      reconstructed = subst (λ (before : List ℕ). IsReconstructed k total size until present before bytes) is
          (subst (λ (n : ℕ). IsReconstructed k total n until present joined bytes) size_is done);
      count = each.0 ∙ flags;
      each = λ i below.
          subst (λ (flag : Bool). IsMade size i bytes flag (get_or made i None)) (get_or-take until present i false below)
          (each.1 i (subst (λ (n : ℕ). i < n) (sym flags) below));
    }
  where
    flags : length (take until present) ≡ until
    flags = length-take-le until present within

    size_is : length joined / total ≡ size
    size_is =
        ap (λ (xs : List ℕ). length xs / total) is
        ∙ ap (λ (n : ℕ). n / total) (length-joined size shards have ∙ ap (λ (n : ℕ). n * size) long)
        ∙ mul-div_cancel_left size some

-- the shards of data, or all, are not more than all
pub end_within : (until k m : ℕ) → (until ≡ k) ⊎ (until ≡ k + m) → until ≤ k + m
end_within until k m end =
    elim end [
      | inl is ↦ omega (arith, is)
      | inr is ↦ omega (arith, is)
    ]
