-- What is split begins with its bytes, with zeros behind them, and is a code word.
use Rattle.std.proofs.Common.{◌≡◌, ℕ, ◌+◌, ◌*◌, ◌<◌, ◌≤◌, List, length, get_or, take, ◌∙◌, subst, arith}
use Rattle.std.proofs.Math.ListN.{get_or-eq_default}
use Rattle.std.proofs.Math.Nat.{mul-le-mul_right}
use Rattle.std.proofs.lemmas.List.{ext_get_or, get_or-take, length-take-le}
use Rattle.shard_files.specs.Splits.{IsSplit}
use Rattle.shard_files.specs.Codes.{IsStripeWord}
use Rattle.shard_files.specs.Stripes.{shard_total, stripe_width}
use Rattle.shard_files.specs.declared.head.Origin.{Origin}
use Rattle.shard_files.specs.declared.layout.Layout.{Layout}
use Rattle.shard_files.proofs.Layouts.{of_origin}

-- the shards of data hold the bytes, and encoding keeps them
pub split_of_encoded : (origin : Origin) (content filled shards : List ℕ) → length shards ≡ shard_total origin * origin.size
    → length content ≤ stripe_width origin → ((i : ℕ) → i < length shards → get_or filled i 0 ≡ get_or content i 0)
    → ((i : ℕ) → i < stripe_width origin → get_or shards i 0 ≡ get_or filled i 0)
    → IsStripeWord origin.code origin.data_shards origin.parity_shards origin.size shards → IsSplit origin content shards
split_of_encoded origin content filled shards long fits same kept word =
    record {
      begins = ext_get_or 0 (take (length content) shards) content taken
          (λ i below. byte i (subst (λ (n : ℕ). i < n) taken below));
      padded = λ i behind below. kept i below ∙ same i (omega (arith, below, width)) ∙ get_or-eq_default content 0 behind;
      code_word = word;
    }
  where
    most : (a b : ℕ) → a ≤ a + b
    most a b = omega arith

    width : stripe_width origin ≤ length shards
    width = let more = mul-le-mul_right origin.size (most origin.data_shards origin.parity_shards) in omega (arith, more, long)

    room : length content ≤ length shards
    room = omega (arith, width, fits)

    taken : length (take (length content) shards) ≡ length content
    taken = length-take-le (length content) shards room

    byte : (i : ℕ) → i < length content → get_or (take (length content) shards) i 0 ≡ get_or content i 0
    byte i below =
        get_or-take (length content) shards i 0 below ∙ kept i (omega (arith, below, fits)) ∙ same i (omega (arith, below, room))

-- `split_of_encoded`, by the numbers of a layout's code
pub split_of_code : (layout : Layout) (content filled shards : List ℕ) → length shards ≡ shard_total layout.origin * layout.origin.size
    → length content ≤ stripe_width layout.origin → ((i : ℕ) → i < length shards → get_or filled i 0 ≡ get_or content i 0)
    → ((i : ℕ) → i < layout.code.data_shards * layout.code.size → get_or shards i 0 ≡ get_or filled i 0)
    → IsStripeWord layout.code.number layout.code.data_shards layout.code.parity_shards layout.code.size shards
    → IsSplit layout.origin content shards
split_of_code layout content filled shards long fits same kept word =
    split_of_encoded layout.origin content filled shards long fits same
    (of_origin layout (λ n k m size. (i : ℕ) → i < k * size → get_or shards i 0 ≡ get_or filled i 0) kept)
    (of_origin layout (λ n k m size. IsStripeWord n k m size shards) word)
