-- Positions in files and in stripes.
use Rattle.std.proofs.Common.{◌≡◌, ℕ, ◌+◌, ◌-◌, ◌*◌, ◌/◌, ◌^◌, ◌<◌, ◌≤◌, min, List, length, drop, ◌∙◌, ap, arith}
use Rattle.std.proofs.Math.Nat.{div-add-mod, mul-le-mul_left, mul-le-mul_right}
use Rattle.std.proofs.lemmas.List.{length-drop, length-take}
use native.Mathlib.Nat.{mod-lt}
use Rattle.shard_files.specs.Stripes.{IsPossible, shard_total, stripe_content, stripe_length, stripe_total, stripe_width}
use Rattle.shard_files.specs.declared.head.Origin.{Origin}

next : (a b : ℕ) → a < b → a + 1 ≤ b
next a b less = omega (arith, less)

one_more : (n w : ℕ) → (n + 1) * w ≡ n * w + w
one_more n w = omega arith

-- a stripe that there is begins before the end of the file
begins_within : (long w n : ℕ) → 0 < w → n < (long + (w - 1)) / w → n * w < long
begins_within long w n some within =
    let whole = div-add-mod (long + (w - 1)) w in
    let more = mul-le-mul_right w (next n ((long + (w - 1)) / w) within) in
    let turned : w * ((long + (w - 1)) / w) ≡ (long + (w - 1)) / w * w = omega arith in
    omega (arith, whole, more, turned, one_more n w, some)

-- and all stripes have the whole file
pub ends_beyond : (long w : ℕ) → 0 < w → long ≤ (long + (w - 1)) / w * w
ends_beyond long w some =
    let whole = div-add-mod (long + (w - 1)) w in
    let rest = mod-lt (long + (w - 1)) some in
    let turned : w * ((long + (w - 1)) / w) ≡ (long + (w - 1)) / w * w = omega arith in
    omega (arith, whole, rest, turned, some)

product_positive : (a b : ℕ) → 0 < a → 0 < b → b ≤ a * b
product_positive a b some _ = let more = mul-le-mul_right b (at_least_one a some) in omega (arith, more)
  where
    at_least_one : (n : ℕ) → 0 < n → 1 ≤ n
    at_least_one n h = omega (arith, h)

module _ (origin : Origin) (possible : IsPossible origin) where
  data_few : origin.data_shards ≤ 65536
  data_few = omega (arith, possible.few)

  pub width_some : 0 < stripe_width origin
  width_some = omega (arith, product_positive origin.data_shards origin.size possible.some_data possible.some_size, possible.some_size)

  pub width_small : stripe_width origin ≤ 2 ^ 40
  width_small =
      let one = mul-le-mul_right origin.size data_few in
      let two = mul-le-mul_left 65536 possible.small_size in
      omega (arith, one, two)

  pub begins : (stripe : ℕ) → stripe < stripe_total origin → stripe * stripe_width origin < origin.length
  begins stripe within = begins_within origin.length (stripe_width origin) stripe width_some within

  pub ends : origin.length ≤ stripe_total origin * stripe_width origin
  ends = ends_beyond origin.length (stripe_width origin) width_some

  -- also where more are counted
  pub ends_at : (stripe : ℕ) → stripe_total origin ≤ stripe → origin.length ≤ stripe * stripe_width origin
  ends_at stripe most = let more = mul-le-mul_right (stripe_width origin) most in omega (arith, ends, more)

  -- a number of stripes no greater than all of them, times the bytes of a shard in one
  few_stripes : (stripe : ℕ) → stripe ≤ stripe_total origin → stripe * stripe_width origin ≤ 2 ^ 56 + 2 ^ 40
  few_stripes stripe most =
      let whole = div-add-mod (origin.length + (stripe_width origin - 1)) (stripe_width origin) in
      let turned : stripe_width origin * stripe_total origin ≡ stripe_total origin * stripe_width origin = omega arith in
      let more = mul-le-mul_right (stripe_width origin) most in
      omega (arith, whole, turned, more, width_small, possible.small_length)

  shard_part : (stripe : ℕ) → stripe * origin.size ≤ stripe * stripe_width origin
  shard_part stripe = mul-le-mul_left stripe (product_positive origin.data_shards origin.size possible.some_data possible.some_size)

  counted : (stripe : ℕ) → stripe ≤ stripe * stripe_width origin
  counted stripe = let more = mul-le-mul_left stripe width_some in omega (arith, more)

  -- pieces end where a number of 64 bits reaches
  pub piece_room : (stripe : ℕ) → stripe ≤ stripe_total origin → stripe * (32 + origin.size) < 2 ^ 63
  piece_room stripe most =
      let apart : stripe * (32 + origin.size) ≡ 32 * stripe + stripe * origin.size = omega arith in
      omega (arith, apart, few_stripes stripe most, shard_part stripe, counted stripe)

-- the bytes of a stripe of a file stand in its shards
pub stripe_room : (origin : Origin) (stripe : ℕ) → stripe_length origin stripe ≤ shard_total origin * origin.size
stripe_room origin stripe =
    let more = mul-le-mul_right origin.size (first origin.data_shards origin.parity_shards) in
    let least : stripe_length origin stripe ≤ stripe_width origin = omega arith in
    omega (arith, more, least)
  where
    first : (a b : ℕ) → a ≤ a + b
    first a b = omega arith

-- how many bytes a stripe of a file has
pub content_length : (origin : Origin) (stripe : ℕ) (content : List ℕ) → length content ≡ origin.length
    → length (stripe_content origin stripe content) ≡ stripe_length origin stripe
content_length origin stripe content same =
    length-take (stripe_width origin) (drop (stripe * stripe_width origin) content)
    ∙ ap (min (stripe_width origin)) (length-drop (stripe * stripe_width origin) content ∙ ap (λ (n : ℕ). n - stripe * stripe_width origin) same)
