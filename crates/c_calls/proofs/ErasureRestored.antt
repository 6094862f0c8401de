-- What the call that restores shards returns, by what the code says of it.
use Rattle.std.proofs.Common.{◌≡◌, ℕ, ◌+◌, ◌*◌, ◌/◌, ◌^◌, ◌≤◌, Bool, List, length, refl, sym, ◌∙◌, ap₂, subst, arith}
use Rattle.std.proofs.lemmas.List.{length-map}
use Rattle.additive_transforms.specs.Words.{level_element}
use Rattle.reed_solomon.specs.Locators.{lost_count}
use Rattle.reed_solomon.specs.Restoring.{AreRestoredColumns, is_missing}
use Rattle.reed_solomon.specs.TransformSizes.{CanRebuild, HaveOneSize}
use Rattle.reed_solomon.specs.declared.transform_codec.TransformCode.{TransformCode}
use Rattle.c_calls.specs.Bytes.{flags_of}
use Rattle.c_calls.specs.Erasure.{IsErasureCode, ReconstructsAt, ReconstructsErasure}
use Rattle.c_calls.proofs.ErasureCounts.{at_code}

module _ {W : Type 0} (number : W → ℕ) (zero : W) (level : ℕ) (code : TransformCode) (k m : ℕ)
    (k_is : code.data_shards ≡ k) (m_is : code.parity_shards ≡ m) (points : 2 ^ code.all_levels ≤ 2 ^ 2 ^ level)
    (present : List ℕ) (total : length present ≡ code.data_shards + code.parity_shards)
    (flags : List Bool) (same : flags ≡ flags_of present) (shards parity new new_parity : List W) (space : ℕ) where
  -- the shards can be restored by these flags
  abbrev pub CanBe : List Bool → Type 0
  CanBe given = CanRebuild level code.all_levels code.data_shards code.parity_shards (length shards) (length parity) space given

  -- the call at the numbers that the code computes with
  abbrev pub At : ℕ → Type 0
  At status =
      ReconstructsAt (level_element number level) zero level code.data_shards code.parity_shards code.levels code.all_levels present
      shards parity new new_parity space status

  -- the call at the numbers of shards that it was given
  abbrev pub Ends : ℕ → Type 0
  Ends status = ReconstructsErasure number zero level k m present shards parity new new_parity space status

  ends : (status : ℕ) → At status → Ends status
  ends status here =
      λ n r counts.
      at_code
      (λ l p q s. ReconstructsAt (level_element number level) zero level l p q s present shards parity new new_parity space status)
      code k m n r k_is m_is here counts

  -- there is such a code
  no_code : (P : Type 0) → ¬ IsErasureCode level code.data_shards code.parity_shards code.levels code.all_levels → P
  no_code P none = absurd (none (record { some_data = code.some_data; some_parity = code.some_parity; few = code.few; points = points }))

  -- the shards were restored
  pub ends_well : 40 * 2 ^ code.all_levels ≤ space → CanBe flags
      → AreRestoredColumns (level_element number level) zero level code.levels code.data_shards code.parity_shards
      (length shards / code.data_shards) flags (length shards / code.data_shards) shards parity new new_parity
      → Ends 0
  ends_well room can_be restored =
      let can = subst CanBe same can_be in
      let size : ℕ = length shards / code.data_shards in
      ends 0 (record {
        code = λ none. no_code _ none;
        length = λ is misfit. absurd (misfit (total, record { sizes = can.sizes; room = room }));
        few = λ is fits missing.
            absurd (missing (subst (λ (q : ℕ). lost_count (is_missing (flags_of present)) q ≤ code.parity_shards) can.flags can.enough));
        ok = λ is fits told. (
          refl,
          subst (λ (given : List Bool). AreRestoredColumns (level_element number level) zero level code.levels code.data_shards
              code.parity_shards size given size shards parity new new_parity) same restored,
        );
        kept = λ failed. absurd (failed refl);
      })

  -- they cannot be restored, though their words are those of shards of one size and there is space, since too few are there
  pub ends_early : HaveOneSize code.data_shards code.parity_shards (length shards) (length parity) → 40 * 2 ^ code.all_levels ≤ space
      → (CanBe flags → ⊥) → new ≡ shards → new_parity ≡ parity → Ends 5
  ends_early sizes room cannot kept kept_parity =
      let long : length (flags_of present) ≡ code.data_shards + code.parity_shards = length-map present _ ∙ total in
      ends 5 (record {
        code = λ none. no_code _ none;
        length = λ is misfit. absurd (misfit (total, record { sizes = sizes; room = room }));
        few = λ is fits missing. refl;
        ok = λ is fits enough.
            absurd (subst (λ (given : List Bool). CanBe given → ⊥) same cannot (record {
              flags = long;
              points = points;
              sizes = sizes;
              enough = subst (λ (q : ℕ). lost_count (is_missing (flags_of present)) q ≤ code.parity_shards) (sym long) enough;
              room = omega (arith, room);
            }));
        kept = λ failed. ap₂ (λ (one other : List W). (one, other)) kept kept_parity;
      })
