-- What was seen, once one more file was looked at, and which file is chosen.
use Rattle.std.proofs.Common.{◌≡◌, ◌≢◌, ◌⊎◌, ◌↔◌, inl, inr, ℕ, zero, suc, ◌+◌, ◌<◌, ◌≤◌, Bool, true, false, List, [], ◌∷◌, length, get_or, map, set, Some, None, refl, sym, ◌∙◌, ap, subst, arith}
use Rattle.std.proofs.lemmas.Bool.{cases_lt, true≢false}
use Rattle.shard_files.specs.Heads.{IsHead}
use Rattle.shard_files.specs.Scans.{count_at, EnoughSeen, HasMost, identity_at, IsChoice, IsKnown, IsOnly, IsWanted, origin_at}
use Rattle.shard_files.specs.declared.head.Head.{Head}
use Rattle.shard_files.specs.declared.scan.Choice.{Choice}
use Rattle.shard_files.specs.declared.scan.Choice.TheVariants.{Nothing, Only, Several, TooFew}
use Rattle.shard_files.specs.declared.scan.Seen.{Seen}

-- ---- what is read of a file that was seen

read_map : {A B : Type 0} (f : A → B) (items : List A) (place : ℕ) (item : A) (other : B) → place < length items
    → f (get_or items place item) ≡ get_or (map f items) place other
read_map f [] place item other below = absurd (omega (arith, below))
read_map f (first ∷ items) zero item other below = refl
read_map f (first ∷ items) (suc place) item other below = read_map f items place item other (omega (arith, below))

module _ (seen : List Seen) (place : ℕ) (file : Seen) (below : place < length seen) (is : file ≡ get_or seen place file) where
  pub count_read : file.count ≡ count_at seen place
  count_read = ap (λ (s : Seen). s.count) is ∙ read_map (λ (s : Seen). s.count) seen place file 0 below

  data_read : file.layout.origin.data_shards ≡ get_or (map (λ (s : Seen). s.layout.origin.data_shards) seen) place 0
  data_read =
      ap (λ (s : Seen). s.layout.origin.data_shards) is ∙ read_map (λ (s : Seen). s.layout.origin.data_shards) seen place file 0 below

  pub enough_read : {P : Type 0} → (P ↔ (file.layout.origin.data_shards ≤ file.count)) → (P ↔ EnoughSeen seen place)
  enough_read tells = (
    λ p. record { inside = below; enough = omega (arith, tells.0 p, data_read, count_read) },
    λ has. tells.1 (omega (arith, has.enough, data_read, count_read)),
  )

  pub origin_read : origin_at seen place ≡ Some file.layout.origin
  origin_read =
      sym (ap (λ (s : Seen). Some s.layout.origin) is ∙ read_map (λ (s : Seen). Some s.layout.origin) seen place file None below)

-- ---- files that were seen stand where they stood

pub origin_set : (seen : List Seen) (place : ℕ) (file : Seen) → place < length seen → Some file.layout.origin ≡ origin_at seen place
    → (at : ℕ) → origin_at (set seen place file) at ≡ origin_at seen at
origin_set [] place file below is at = refl
origin_set (first ∷ seen) zero file below is zero = is
origin_set (first ∷ seen) zero file below is (suc at) = refl
origin_set (first ∷ seen) (suc place) file below is zero = refl
origin_set (first ∷ seen) (suc place) file below is (suc at) = origin_set seen place file (omega (arith, below)) is at

-- ---- what a file is

-- the head of a shard that there may be is one
pub known_head : (head : Head) → IsKnown head → IsHead head
known_head head known = record { origin_fits = known.fits; index_fits = omega (arith, known.inside, known.possible.few) }

-- ---- one more file

module _ (seen : List Seen) (wanted : List Bool) (place : ℕ) where
  later : (other : ℕ) → IsWanted wanted place other → IsWanted wanted (place + 1) other
  later other is = record { early = omega (arith, is.early); flag = is.flag }

  before : (other : ℕ) → IsWanted wanted (place + 1) other → IsWanted wanted place other ⊎ (other ≡ place)
  before other is =
      elim (cases_lt other place) [
        | inl less ↦ inl (record { early = less; flag = is.flag })
        | inr more ↦ inr (omega (arith, more, is.early))
      ]

  -- where several are told, no other changes that
  pub still_several : IsChoice seen wanted place Several → IsChoice seen wanted (place + 1) Several
  still_several says =
      record {
        one = says.one;
        one_wanted = later says.one says.one_wanted;
        one_enough = says.one_enough;
        other = says.other;
        other_wanted = later says.other says.other_wanted;
        other_enough = says.other_enough;
        differ = says.differ;
      }

  -- one that is not wanted changes nothing
  module _ (not : get_or wanted place false ≡ false) where
    old : (other : ℕ) → IsWanted wanted (place + 1) other → IsWanted wanted place other
    old other is =
        elim (before other is) [
          | inl early ↦ early
          | inr same ↦ absurd (true≢false (sym is.flag ∙ ap (λ (n : ℕ). get_or wanted n false) same ∙ not))
        ]

    pub skipped : (choice : Choice) → IsChoice seen wanted place choice → IsChoice seen wanted (place + 1) choice
    skipped Nothing none = λ other is. none other (old other is)
    skipped (TooFew chosen) says =
        record {
          is_wanted = later chosen says.is_wanted;
          few = λ other is. says.few other (old other is);
          most = λ other is. says.most other (old other is);
        }
    skipped (Only chosen) says =
        record { is_wanted = later chosen says.is_wanted; enough = says.enough; others = λ other is. says.others other (old other is) }
    skipped Several says = still_several says

  -- one that is wanted
  module _ (flag : get_or wanted place false ≡ true) where
    here : IsWanted wanted (place + 1) place
    here = record { early = omega arith; flag = flag }

    -- has enough, where none had
    pub first_enough : EnoughSeen seen place → ((other : ℕ) → IsWanted wanted place other → EnoughSeen seen other → ⊥)
        → IsOnly seen wanted (place + 1) place
    first_enough enough none =
        record {
          is_wanted = here;
          enough = enough;
          others = λ other is has. elim (before other is) [
            | inl early ↦ absurd (none other early has)
            | inr same ↦ ap (identity_at seen) same
          ];
        }

    module _ (few : EnoughSeen seen place → ⊥) where
      none_enough : ((other : ℕ) → IsWanted wanted place other → EnoughSeen seen other → ⊥)
          → (other : ℕ) → IsWanted wanted (place + 1) other → EnoughSeen seen other → ⊥
      none_enough none other is has =
          elim (before other is) [
            | inl early ↦ none other early has
            | inr same ↦ few (subst (EnoughSeen seen) same has)
          ]

      -- has most, where none had as many
      pub new_most : ((other : ℕ) → IsWanted wanted place other → EnoughSeen seen other → ⊥)
          → ((other : ℕ) → IsWanted wanted place other → count_at seen other ≤ count_at seen place) → HasMost seen wanted (place + 1) place
      new_most none less =
          record {
            is_wanted = here;
            few = none_enough none;
            most = λ other is. elim (before other is) [
              | inl early ↦ less other early
              | inr same ↦ let count = ap (count_at seen) same in omega (arith, count)
            ];
          }

      -- has no more
      pub old_most : (chosen : ℕ) → HasMost seen wanted place chosen → count_at seen place ≤ count_at seen chosen
          → HasMost seen wanted (place + 1) chosen
      old_most chosen says less =
          record {
            is_wanted = later chosen says.is_wanted;
            few = none_enough says.few;
            most = λ other is. elim (before other is) [
              | inl early ↦ says.most other early
              | inr same ↦ let count = ap (count_at seen) same in omega (arith, count, less)
            ];
          }

    -- has enough of another file
    pub now_several : (chosen : ℕ) → IsOnly seen wanted place chosen → EnoughSeen seen place → identity_at seen place ≢ identity_at seen chosen
        → IsChoice seen wanted (place + 1) Several
    now_several chosen says enough differ =
        record {
          one = place;
          one_wanted = here;
          one_enough = enough;
          other = chosen;
          other_wanted = later chosen says.is_wanted;
          other_enough = says.enough;
          differ = differ;
        }

    -- has not enough, or of the same file
    pub still_only : (chosen : ℕ) → IsOnly seen wanted place chosen → (EnoughSeen seen place → identity_at seen place ≡ identity_at seen chosen)
        → IsOnly seen wanted (place + 1) chosen
    still_only chosen says same_file =
        record {
          is_wanted = later chosen says.is_wanted;
          enough = says.enough;
          others = λ other is has. elim (before other is) [
            | inl early ↦ says.others other early has
            | inr same ↦ ap (identity_at seen) same ∙ same_file (subst (EnoughSeen seen) same has)
          ];
        }
