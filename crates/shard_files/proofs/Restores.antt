-- A group of which enough shards are at hand agrees with what was split, and is restored to it.
use Rattle.std.proofs.Common.{◌≡◌, ◌↔◌, ℕ, ◌+◌, ◌*◌, ◌<◌, Bool, List, length, get_or, drop, sym, ◌∙◌, ap, subst}
use Rattle.std.proofs.lemmas.List.{ext_get_or, get_or-drop, get_or-take}
use Rattle.reed_solomon.specs.RoundTrip.{AgreeWherePresent}
use Rattle.shard_files.specs.Codes.{IsStripeWord}
use Rattle.shard_files.specs.Groups.{HasEnough, HaveSameShards, shard_at}
use Rattle.shard_files.specs.Stripes.{shard_total}
use Rattle.shard_files.specs.declared.head.Origin.{Origin}
use Rattle.shard_files.specs.declared.layout.Layout.{Layout}
use Rattle.shard_files.proofs.Groups.{shard_long}
use Rattle.shard_files.proofs.Layouts.{of_origin}

-- a byte of a shard
byte_at : (size : ℕ) (shards : List ℕ) (i column : ℕ) → column < size
    → get_or (shard_at size shards i) column 0 ≡ get_or shards (i * size + column) 0
unfolding shard_at
byte_at size shards i column below = get_or-take size (drop (i * size) shards) column 0 below ∙ get_or-drop (i * size) shards column 0

pub agrees : (origin : Origin) (content whole shards : List ℕ) (present : List Bool) → HasEnough origin content whole shards present
    → AgreeWherePresent (shard_total origin) origin.size present shards whole
agrees origin content whole shards present has i column inside below is =
    sym (byte_at origin.size shards i column below)
    ∙ ap (λ (shard : List ℕ). get_or shard column 0) (has.same i inside is)
    ∙ byte_at origin.size whole i column below

-- shards that agree byte by byte where they are at hand are the same there
same_shards : (origin : Origin) (present : List Bool) (new shards : List ℕ) → length new ≡ shard_total origin * origin.size
    → length shards ≡ shard_total origin * origin.size → AgreeWherePresent (shard_total origin) origin.size present new shards
    → HaveSameShards origin present new shards
same_shards origin present new shards new_long long agree index inside is =
    ext_get_or 0 (shard_at origin.size new index) (shard_at origin.size shards index) (one_long new new_long ∙ sym (one_long shards long))
    (λ column below. byte column (subst (λ (n : ℕ). column < n) (one_long new new_long) below))
  where
    one_long : (all : List ℕ) → length all ≡ shard_total origin * origin.size → length (shard_at origin.size all index) ≡ origin.size
    one_long all all_long = shard_long origin.size (shard_total origin) index all all_long inside

    byte : (column : ℕ) → column < origin.size → get_or (shard_at origin.size new index) column 0 ≡ get_or (shard_at origin.size shards index) column 0
    byte column below =
        byte_at origin.size new index column below ∙ agree index column inside below is ∙ sym (byte_at origin.size shards index column below)

-- what a layout's code restores of a group is what was split
pub restored_whole : (layout : Layout) (content whole shards : List ℕ) (present : List Bool) → HasEnough layout.origin content whole shards present
    → (old new : List ℕ) (flags : List Bool) → old ≡ shards → flags ≡ present
    → ((all : List ℕ) → IsStripeWord layout.code.number layout.code.data_shards layout.code.parity_shards layout.code.size all
    → length all ≡ length old
    → AgreeWherePresent (layout.code.data_shards + layout.code.parity_shards) layout.code.size flags old all → new ≡ all)
    → new ≡ whole
restored_whole layout content whole shards present has old new flags old_is flags_are restored =
    of_origin layout
    (λ n k m size. (all : List ℕ) → IsStripeWord n k m size all → length all ≡ length old
    → AgreeWherePresent (k + m) size flags old all → new ≡ all)
    restored whole has.split.code_word (has.long ∙ ap length (sym old_is))
    (subst (λ (l : List ℕ). AgreeWherePresent (shard_total layout.origin) layout.origin.size flags l whole) (sym old_is)
    (subst (λ (l : List Bool). AgreeWherePresent (shard_total layout.origin) layout.origin.size l shards whole) (sym flags_are)
    (agrees layout.origin content whole shards present has)))

-- what a layout's code leaves of the shards at hand
pub kept_shards : (layout : Layout) (shards : List ℕ) (present : List Bool) (old new : List ℕ) (flags : List Bool) → old ≡ shards
    → flags ≡ present → length shards ≡ shard_total layout.origin * layout.origin.size → length new ≡ length old
    → AgreeWherePresent (layout.code.data_shards + layout.code.parity_shards) layout.code.size flags new old
    → HaveSameShards layout.origin present new shards
kept_shards layout shards present old new flags old_is flags_are long new_long agree =
    same_shards layout.origin present new shards (new_long ∙ ap length old_is ∙ long) long
    (subst (λ (l : List ℕ). AgreeWherePresent (shard_total layout.origin) layout.origin.size present new l) old_is
    (subst (λ (l : List Bool). AgreeWherePresent (shard_total layout.origin) layout.origin.size l new old) flags_are
    (of_origin layout (λ n k m size. AgreeWherePresent (k + m) size flags new old) agree)))

-- what a layout's code tells of a group's bytes is said of the group
pub told_whole : {P : Type 0} (layout : Layout) (shards own : List ℕ) → own ≡ shards
    → (P ↔ IsStripeWord layout.code.number layout.code.data_shards layout.code.parity_shards layout.code.size own)
    → (P ↔ IsStripeWord layout.origin.code layout.origin.data_shards layout.origin.parity_shards layout.origin.size shards)
told_whole {P} layout shards own own_is told =
    subst (λ (l : List ℕ). P ↔ IsStripeWord layout.origin.code layout.origin.data_shards layout.origin.parity_shards layout.origin.size l) own_is
    (of_origin layout (λ n k m size. P ↔ IsStripeWord n k m size own) told)
