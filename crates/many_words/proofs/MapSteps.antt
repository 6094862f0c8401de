-- Words that are replaced by their images under a linear map, or to which images are added, block by block, and the tables of the map.
use Rattle.std.proofs.Common.{below_more, ◌≡◌, ℕ, ◌+◌, ◌*◌, ◌%◌, ◌^◌, ◌<◌, ◌≤◌, List, [], ◌∷◌, length, get_or, set, map, refl, sym, ◌∙◌, ap, ap₂, arith}
use Rattle.std.specs.Prelude.{bit_xor, slice_index}
use Rattle.std.proofs.lemmas.List.{get_or-set_other, get_or-set_same, map-id}
use native.Mathlib.Nat.{mod-eq_of_lt, mul-one}
use lib.Bits.{xor_comm, xor_zero_r}
use Rattle.field_base.specs.LinearMaps.{linear_image}
use Rattle.additive_transforms.specs.Rows.{level_of}
use Rattle.additive_transforms.specs.Units.{ArePut, AreUnits, FirstAre}
use Rattle.additive_transforms.proofs.WordSteps.{block_put, numbers_read}
use Rattle.many_words.proofs.FourImages.{four_images}

module _ (d size lanes block : ℕ) (f : ℕ → ℕ) (same : size ≡ d) (sixteen : lanes ≡ 16) where
  -- what an element of the planes is
  abbrev pub part : ℕ → ℕ
  part x = x % 2 ^ 2 ^ level_of d

  within : (l : ℕ) → l < lanes → l < 16
  within l below = omega (arith, below, sixteen)

  -- a block whose words are replaced by their images
  pub block_mapped : (elements zeros images : ℕ → ℕ) (old mid new : List ℕ) → FirstAre (16 * block) (λ k. f (part (slice_index old k))) old mid
      → AreUnits d size (16 * block) lanes elements mid → ((l : ℕ) → l < 16 → zeros l ≡ 0)
      → ((l : ℕ) → l < 16 → images l ≡ bit_xor (zeros l) (f (elements l * 2 ^ 0))) → ArePut d size (16 * block) lanes images mid new
      → FirstAre (16 * (block + 1)) (λ k. f (part (slice_index old k))) old new
  block_mapped elements zeros images old mid new before read none are put =
      block_put d size lanes 16 block 0 same (sym sixteen) (λ k. f (part (slice_index old k))) images old mid new before put
      (λ l below.
      are l (within l below)
      ∙ ap₂ bit_xor (none l (within l below))
      (ap f
      (mul-one (elements l) ∙ numbers_read d size (16 * block) lanes elements mid same read l below
      ∙ ap part (before.kept (16 * block + l) (omega arith))))
      ∙ xor_comm 0 (f (part (slice_index old (16 * block + l)))) ∙ xor_zero_r (f (part (slice_index old (16 * block + l)))))

  -- a block to which the images of other words are added
  pub block_summed : (elements sums images : ℕ → ℕ) (words old mid new : List ℕ)
      → FirstAre (16 * block) (λ k. bit_xor (part (slice_index old k)) (f (part (slice_index words k)))) old mid
      → AreUnits d size (16 * block) lanes sums mid → AreUnits d size (16 * block) lanes elements words
      → ((l : ℕ) → l < 16 → images l ≡ bit_xor (sums l) (f (elements l * 2 ^ 0))) → ArePut d size (16 * block) lanes images mid new
      → FirstAre (16 * (block + 1)) (λ k. bit_xor (part (slice_index old k)) (f (part (slice_index words k)))) old new
  block_summed elements sums images words old mid new before also read are put =
      block_put d size lanes 16 block 0 same (sym sixteen) (λ k. bit_xor (part (slice_index old k)) (f (part (slice_index words k)))) images
      old mid new before put
      (λ l below.
      are l (within l below)
      ∙ ap₂ bit_xor
      (numbers_read d size (16 * block) lanes sums mid same also l below ∙ ap part (before.kept (16 * block + l) (omega arith)))
      (ap f (mul-one (elements l) ∙ numbers_read d size (16 * block) lanes elements words same read l below)))

-- ---- tables

-- sixteen words of 64 bits that were read as the entries of a table: the sums of the images of the digit's bits
pub entries_read : (d lanes digit : ℕ) (images words : List ℕ) (units : ℕ → ℕ) → d ≡ 3 → lanes ≡ 16 → length images ≡ 64 → digit < 16
    → AreUnits d 3 0 lanes units (map (λ x. x) words)
    → ((v : ℕ) → v < 16 → slice_index words v ≡ linear_image (slice_index images (4 * digit) ∷ slice_index images (4 * digit + 1)
    ∷ slice_index images (4 * digit + 2) ∷ slice_index images (4 * digit + 3) ∷ []) v)
    → ((v : ℕ) → v < 16 → slice_index words v < 2 ^ 64) → (v : ℕ) → v < 16 → units v ≡ linear_image images (v * 2 ^ (0 + 4 * digit))
entries_read d lanes digit images words units depth sixteen long inside read are fit v below =
    let first : 0 + v ≡ v = omega arith in
    let place : 4 * digit ≡ 0 + 4 * digit = omega arith in
    let room : 4 * digit + 4 ≤ length images = omega (arith, long, inside) in
    numbers_read d 3 0 lanes units (map (λ x. x) words) (sym depth) read v (omega (arith, below, sixteen))
    ∙ ap₂ (λ (l : List ℕ) (k : ℕ). get_or l k 0 % 2 ^ 2 ^ level_of d) (map-id words) first
    ∙ ap (λ (e : ℕ). get_or words v 0 % 2 ^ 2 ^ level_of e) depth
    ∙ mod-eq_of_lt (fit v below) ∙ are v below
    ∙ four_images images (4 * digit) _ _ _ _ room refl refl refl refl v below ∙ ap (λ (e : ℕ). linear_image images (v * 2 ^ e)) place

-- one table more
pub table_set : {S : Type 0} (entry : S → ℕ → ℕ) (value : ℕ → ℕ → ℕ) (tables : List S) (digit : ℕ) (table : S) → digit < length tables
    → ((v : ℕ) → v < 16 → entry table v ≡ value digit v)
    → ((n v : ℕ) → n < digit → v < 16 → (s : S) → entry (get_or tables n s) v ≡ value n v)
    → (n v : ℕ) → n < digit + 1 → v < 16 → (s : S) → entry (get_or (set tables digit table) n s) v ≡ value n v
table_set entry value tables digit table inside is before n v below few s =
    below_more (λ (i : ℕ). entry (get_or (set tables digit table) i s) v ≡ value i v) digit
    (λ i early.
    ap (λ (t : _). entry t v) (get_or-set_other tables digit i table s (λ e. absurd (omega (arith, early, e)))) ∙ before i v early few s)
    (ap (λ (t : _). entry t v) (get_or-set_same tables digit table s inside) ∙ is v few) n below
