-- Rows of parity to which shards of data are added one at a time.
use Rattle.std.proofs.Common.{◌≡◌, ◌≢◌, inl, inr, ℕ, zero, suc, ◌+◌, ◌-◌, ◌*◌, ◌/◌, ◌%◌, ◌<◌, ◌≤◌, Bool, List, length, get_or, set, get_or-set_other, get_or-set_same, drop, refl, sym, ◌∙◌, ap, ap₂, subst, arith}
use Rattle.std.specs.Prelude.{if◌then◌else◌, bit_xor}
use Rattle.std.specs.Simd.Lanes.{chunk, put_chunk, zip2}
use Rattle.std.proofs.Math.ListN.{length-set}
use Rattle.std.proofs.Math.Nat.{mul-le-mul_left}
use Rattle.std.proofs.lemmas.Bool.{cases_lt}
use Rattle.std.proofs.lemmas.List.{get_or-drop}
use Rattle.std.specs.Int.Bits.{xor_assoc}
use Rattle.std.proofs.lemmas.Nat.{xor_comm}
use Rattle.std.proofs.lemmas.Simd.{get_or-chunk, get_or-put_chunk_above, get_or-put_chunk_at, get_or-put_chunk_below, get_or-zip2, length-chunk, length-put_chunk, length-zip2}
use lib.Bits.{xor_zero_r}
use Rattle.field_base.specs.Basis.{sum_below}
use Rattle.reed_solomon.specs.Adding.{AddedShardsEncode}
use Rattle.reed_solomon.specs.ByteFields.{byte_times}
use Rattle.reed_solomon.specs.declared.byte_field.ByteField.TheVariants.{Qr}
use Rattle.reed_solomon.specs.Parity.{HaveParityTables, parity_factor, tables_length}
use Rattle.reed_solomon.specs.Shards.{shard_byte}
use Rattle.reed_solomon.specs.Tables.{nibble_sum}
use Rattle.reed_solomon.proofs.NibbleTables.{nibble_product, nibble_sum-behind}
use Rattle.reed_solomon.proofs.ParityWords.{matching_parity}
use Rattle.field_base.proofs.BasisSums.{sum_below-same}

-- ---- sums that are written in place

-- the first n places have the values of f, and the others are as they were
pub record AreSums (f : ℕ → ℕ) (n : ℕ) (old now : List ℕ) : Type 0 where
  pub same : length now ≡ length old
  pub done : (k : ℕ) → k < n → get_or now k 0 ≡ f k
  pub rest : (k : ℕ) → n ≤ k → get_or now k 0 ≡ get_or old k 0

-- at first none
pub no_sums : (f : ℕ → ℕ) (old : List ℕ) → AreSums f 0 old old
no_sums f old = record { same = refl; done = λ k below. absurd (omega (arith, below)); rest = λ k past. refl }

module _ (added : ℕ → ℕ) (old : List ℕ) where
  -- the old value of a place and what is added to it
  abbrev pub sum_of : ℕ → ℕ
  sum_of k = bit_xor (get_or old k 0) (added k)

  -- one place more
  pub sum_put : (n value : ℕ) (now : List ℕ) → n < length old → value ≡ bit_xor (get_or now n 0) (added n) → AreSums sum_of n old now
      → AreSums sum_of (n + 1) old (set now n value)
  sum_put n value now inside is so_far =
      record {
        same = length-set now n value ∙ so_far.same;
        done = λ k below.
            elim (cases_lt k n) [
              | inl before ↦ get_or-set_other now n k value 0 (λ e. absurd (omega (arith, before, e))) ∙ so_far.done k before
              | inr here ↦ new k (omega (arith, here, below))
            ];
        rest = λ k past. get_or-set_other now n k value 0 (λ e. absurd (omega (arith, past, e))) ∙ so_far.rest k (omega (arith, past));
      }
    where
      new : (k : ℕ) → n ≡ k → get_or (set now n value) k 0 ≡ sum_of k
      new k at =
          subst (λ (p : ℕ). get_or (set now n value) p 0 ≡ sum_of p) at
          (get_or-set_same now n value 0 (omega (arith, inside, so_far.same)) ∙ is
          ∙ ap (λ (x : ℕ). bit_xor x (added n)) (so_far.rest n (omega arith)))

  -- a block of 32 more
  pub block_put : (n : ℕ) (now lanes : List ℕ) → n + 32 ≤ length old → length lanes ≡ 32
      → ((lane : ℕ) → lane < 32 → get_or lanes lane 0 ≡ added (n + lane)) → AreSums sum_of n old now
      → AreSums sum_of (n + 32) old (put_chunk n now (zip2 bit_xor (chunk n 32 now) lanes))
  block_put n now lanes room long values so_far =
      record {
        same = length-put_chunk n now block ∙ so_far.same;
        done = λ k below.
            elim (cases_lt k n) [
              | inl before ↦ get_or-put_chunk_below n now block k 0 before ∙ so_far.done k before
              | inr here ↦ new k here below
            ];
        rest = λ k past. get_or-put_chunk_above n now block k 0 (omega (arith, past, count)) ∙ so_far.rest k (omega (arith, past));
      }
    where
      block : List ℕ
      block = zip2 bit_xor (chunk n 32 now) lanes

      first : length (chunk n 32 now) ≡ 32
      first = length-chunk n 32 now (omega (arith, room, so_far.same))

      count : length block ≡ 32
      count = length-zip2 bit_xor (chunk n 32 now) lanes (first ∙ sym long) ∙ first

      new : (k : ℕ) → n ≤ k → k < n + 32 → get_or (put_chunk n now block) k 0 ≡ sum_of k
      new k here below =
          let place : n + (k - n) ≡ k = omega (arith, here) in
          let small : k - n < 32 = omega (arith, here, below) in
          subst (λ (p : ℕ). get_or (put_chunk n now block) p 0 ≡ sum_of p) place
          (get_or-put_chunk_at n now block (k - n) 0 (omega (arith, count, small)) (omega (arith, count, room, so_far.same))
          ∙ get_or-zip2 bit_xor (chunk n 32 now) lanes (k - n) 0 0 0 (omega (arith, first, small)) (omega (arith, long, small))
          ∙ ap₂ bit_xor (get_or-chunk n 32 now (k - n) 0 small ∙ so_far.rest (n + (k - n)) (omega arith)) (values (k - n) small))

-- ---- where the entries of a pair of shards begin

module _ (k m t j : ℕ) (tables : List ℕ) where
  -- they lie within the tables
  pub entries_room : length tables ≡ tables_length k m → t < m → j < k → 128 * k * (t / 4) + 128 * j + 32 * (t % 4) + 32 ≤ length tables
  entries_room long below inside =
      let one_more : t / 4 + 1 ≤ (m + 3) / 4 = omega (arith, below) in
      let fits = mul-le-mul_left (128 * k) one_more in
      omega (arith, fits, long, inside)

  -- and give products by the pair's factor
  pub entries_product : HaveParityTables k m tables → t < m → j < k → (byte : ℕ) → byte < 256
      → nibble_sum tables (128 * k * (t / 4) + 128 * j + 32 * (t % 4)) byte ≡ byte_times Qr (parity_factor k t j) byte
  entries_product all below inside byte fits =
      let place : 128 * k * (t / 4) + 128 * j + 32 * (t % 4) ≡ 128 * k * (t / 4) + (128 * j + 32 * (t % 4)) = omega arith in
      ap (λ (p : ℕ). nibble_sum tables p byte) place
      ∙ sym (nibble_sum-behind (128 * k * (t / 4)) tables (128 * j + 32 * (t % 4)) byte)
      ∙ nibble_product (parity_factor k t) (drop (128 * k * (t / 4)) tables) (t % 4) k j byte (all.rows t below) inside fits

-- ---- all shards of data, each once

-- a sum of which one term was 0 and becomes v
pub sum_below-more : (n j v : ℕ) (f g : ℕ → ℕ) → j < n → f j ≡ 0 → g j ≡ v → ((i : ℕ) → i ≢ j → g i ≡ f i) → sum_below g n ≡ bit_xor (sum_below f n) v
unfolding sum_below
sum_below-more zero j v f g inside was is others = absurd (omega (arith, inside))
sum_below-more (suc n) j v f g inside was is others =
    elim (cases_lt j n) [
      | inl before ↦ ap₂ bit_xor (sum_below-more n j v f g before was is others) (others n (λ e. absurd (omega (arith, e, before))))
          ∙ swapped (sum_below f n) v (f n)
      | inr here ↦ last (omega (arith, here, inside))
    ]
  where
    swapped : (a b c : ℕ) → bit_xor (bit_xor a b) c ≡ bit_xor (bit_xor a c) b
    swapped a b c = xor_assoc a b c ∙ ap (bit_xor a) (xor_comm b c) ∙ sym (xor_assoc a c b)

    last : n ≡ j → bit_xor (sum_below g n) (g n) ≡ bit_xor (bit_xor (sum_below f n) (f n)) v
    last e =
        ap₂ bit_xor (sum_below-same g f n (λ i below. others i (λ same. absurd (omega (arith, same, below, e))))) (ap g e ∙ is)
        ∙ ap (λ (s : ℕ). bit_xor s v) (sym (ap (bit_xor (sum_below f n)) (ap f e ∙ was) ∙ xor_zero_r (sum_below f n)))

-- a sum of zeros
sum_below-zeros : (n : ℕ) → sum_below (λ j. 0) n ≡ 0
unfolding sum_below
sum_below-zeros zero = refl
sum_below-zeros (suc n) = ap (λ (s : ℕ). bit_xor s 0) (sum_below-zeros n)

pub added_shards_encode : AddedShardsEncode
added_shards_encode =
    record {
      none = λ k t size shards sums zeros column inside. zeros column inside ∙ sym (sum_below-zeros k);
      one_more = λ k t size j shards shard old new added then_added below long was is others same adds before column inside.
          let term = λ (i : ℕ). byte_times Qr (parity_factor k t i) (shard_byte size shards i column) in
          adds column (omega (arith, inside, long))
          ∙ ap₂ bit_xor (before column inside) (ap (byte_times Qr (parity_factor k t j)) (same column inside))
          ∙ sym (sum_below-more k j (term j) (λ i. if added i then term i else 0) (λ i. if then_added i then term i else 0) below
          (ap (λ (b : Bool). if b then term j else 0) was) (ap (λ (b : Bool). if b then term j else 0) is)
          (λ i other. ap (λ (b : Bool). if b then term i else 0) (others i other)));
      all = λ k m size shards added fits bytes every sums.
          (matching_parity k m size shards fits bytes).0 (λ t column above below left inside.
          sym (get_or-drop ((k + t) * size) shards column 0) ∙ sums t below column inside
          ∙ sum_below-same (λ j. if added j then byte_times Qr (parity_factor k t j) (shard_byte size shards j column) else 0) (λ j. byte_times Qr (parity_factor k t j) (shard_byte size shards j column)) k
          (λ j less. ap (λ (b : Bool). if b then byte_times Qr (parity_factor k t j) (shard_byte size shards j column) else 0) (every j less)));
    }
