-- Four blocks at once: the products by the powers of the key are added before one reduction.
use Rattle.std.proofs.Common.{◌≡◌, ℕ, ◌+◌, ◌*◌, ◌^◌, ◌<◌, List, take, drop, refl, sym, ◌∙◌, ap, ap₂}
use Rattle.std.specs.Prelude.{bit_xor}
use Rattle.std.proofs.lemmas.Nat.{xor_block, xor_lt}
use lib.Bits.{xor_assoc}
use Rattle.field_base.specs.Carryless.{carryless}
use Rattle.field_base.specs.Remainder.{ghash_modulus, rem}
use Rattle.field_base.proofs.RemainderLaws.{rem_sum}
use Rattle.field_base.proofs.RemainderRing.{ghash_ring, mul_mod-rem}
use Rattle.field_base.proofs.RingLemmas.{sum_times}
use Rattle.tags.specs.Powers.{ArePowers, added_block}
use Rattle.tags.specs.Reversed.{ghash_times}
use Rattle.tags.specs.declared.blocks.Powers.{Powers}

-- the remainder of the sum of two products, each in two words
two_words : (l m h i : ℕ) → l < 2 ^ 128 → m < 2 ^ 128
    → bit_xor h i * 2 ^ 128 + bit_xor l m ≡ bit_xor (h * 2 ^ 128 + l) (i * 2 ^ 128 + m)
two_words l m h i l_fits m_fits = sym (xor_block 128 h i l m l_fits m_fits)

-- a product in two words, reduced
product_words : (a p l h : ℕ) → a < 2 ^ 128 → p < 2 ^ 128 → carryless a p ≡ h * 2 ^ 128 + l
    → rem 128 ghash_modulus (h * 2 ^ 128 + l) ≡ ghash_times a p
product_words a p l h a_fits p_fits is =
    ap (rem 128 ghash_modulus) (sym is) ∙ sym (mul_mod-rem 128 ghash_modulus refl a p a_fits p_fits)

-- the remainder of the sum of four products is the sum of the products
pub sum_of_products : (a b c d p q r s la lb lc ld ha hb hc hd w : ℕ)
    → a < 2 ^ 128 → b < 2 ^ 128 → c < 2 ^ 128 → d < 2 ^ 128 → p < 2 ^ 128 → q < 2 ^ 128 → r < 2 ^ 128 → s < 2 ^ 128
    → la < 2 ^ 128 → lb < 2 ^ 128 → lc < 2 ^ 128 → ld < 2 ^ 128
    → carryless a p ≡ ha * 2 ^ 128 + la → carryless b q ≡ hb * 2 ^ 128 + lb
    → carryless c r ≡ hc * 2 ^ 128 + lc → carryless d s ≡ hd * 2 ^ 128 + ld
    → w ≡ rem 128 ghash_modulus (bit_xor (bit_xor ha hb) (bit_xor hc hd) * 2 ^ 128 + bit_xor (bit_xor la lb) (bit_xor lc ld))
    → w ≡ bit_xor (bit_xor (ghash_times a p) (ghash_times b q)) (bit_xor (ghash_times c r) (ghash_times d s))
sum_of_products a b c d p q r s la lb lc ld ha hb hc hd w a_fits b_fits c_fits d_fits p_fits q_fits r_fits s_fits
    la_fits lb_fits lc_fits ld_fits first second third fourth of_w =
    of_w
    ∙ ap (rem 128 ghash_modulus)
    (two_words (bit_xor la lb) (bit_xor lc ld) (bit_xor ha hb) (bit_xor hc hd) (xor_lt 128 la lb la_fits lb_fits)
    (xor_lt 128 lc ld lc_fits ld_fits)
    ∙ ap₂ bit_xor (two_words la lb ha hb la_fits lb_fits) (two_words lc ld hc hd lc_fits ld_fits))
    ∙ rem_sum 128 ghash_modulus refl (bit_xor (ha * 2 ^ 128 + la) (hb * 2 ^ 128 + lb)) (bit_xor (hc * 2 ^ 128 + lc) (hd * 2 ^ 128 + ld))
    ∙ ap₂ bit_xor
    (rem_sum 128 ghash_modulus refl (ha * 2 ^ 128 + la) (hb * 2 ^ 128 + lb)
    ∙ ap₂ bit_xor (product_words a p la ha a_fits p_fits first) (product_words b q lb hb b_fits q_fits second))
    (rem_sum 128 ghash_modulus refl (hc * 2 ^ 128 + lc) (hd * 2 ^ 128 + ld)
    ∙ ap₂ bit_xor (product_words c r lc hc c_fits r_fits third) (product_words d s ld hd d_fits s_fits fourth))

-- the sum of the products by the powers is what four steps leave: with a the first block added to the hash,
-- ((a k + x2) k + x3) k + x4) k = a k^4 + x2 k^3 + x3 k^2 + x4 k
pub four_steps : (a x2 x3 x4 k k2 k3 k4 : ℕ) → k2 ≡ ghash_times k k → k3 ≡ ghash_times k2 k → k4 ≡ ghash_times k3 k
    → bit_xor (bit_xor (ghash_times a k4) (ghash_times x2 k3)) (bit_xor (ghash_times x3 k2) (ghash_times x4 k))
    ≡ ghash_times (bit_xor (ghash_times (bit_xor (ghash_times (bit_xor (ghash_times a k) x2) k) x3) k) x4) k
four_steps a x2 x3 x4 k k2 k3 k4 square cube fourth =
    let two : ghash_times (bit_xor (ghash_times a k) x2) k ≡ bit_xor (ghash_times a k2) (ghash_times x2 k) =
    more (ghash_times a k) x2 ∙ ap (λ (z : ℕ). bit_xor z (ghash_times x2 k)) (up a k k2 square) in
    let three : ghash_times (bit_xor (ghash_times (bit_xor (ghash_times a k) x2) k) x3) k
    ≡ bit_xor (bit_xor (ghash_times a k3) (ghash_times x2 k2)) (ghash_times x3 k) =
    ap (λ (z : ℕ). ghash_times (bit_xor z x3) k) two ∙ more (bit_xor (ghash_times a k2) (ghash_times x2 k)) x3
    ∙ ap (λ (z : ℕ). bit_xor z (ghash_times x3 k))
    (more (ghash_times a k2) (ghash_times x2 k) ∙ ap₂ bit_xor (up a k2 k3 cube) (up x2 k k2 square)) in
    sym (ap (λ (z : ℕ). ghash_times (bit_xor z x4) k) three
    ∙ more (bit_xor (bit_xor (ghash_times a k3) (ghash_times x2 k2)) (ghash_times x3 k)) x4
    ∙ ap (λ (z : ℕ). bit_xor z (ghash_times x4 k))
    (more (bit_xor (ghash_times a k3) (ghash_times x2 k2)) (ghash_times x3 k)
    ∙ ap₂ bit_xor (more (ghash_times a k3) (ghash_times x2 k2) ∙ ap₂ bit_xor (up a k3 k4 fourth) (up x2 k2 k3 cube)) (up x3 k k2 square))
    ∙ xor_assoc (bit_xor (ghash_times a k4) (ghash_times x2 k3)) (ghash_times x3 k2) (ghash_times x4 k))
  where
    more : (y x : ℕ) → ghash_times (bit_xor y x) k ≡ bit_xor (ghash_times y k) (ghash_times x k)
    more y x = sum_times 128 1 ghash_times ghash_ring y x k

    up : (y p q : ℕ) → q ≡ ghash_times p k → ghash_times (ghash_times y p) k ≡ ghash_times y q
    up y p q is = ghash_ring.assoc y p k ∙ ap (ghash_times y) (sym is)

-- four blocks more, by the powers of the key
pub four_blocks : (element : List ℕ → ℕ) (key sum x1 x2 x3 x4 : ℕ) (blocks : List ℕ) (p : Powers) (r : ℕ) → ArePowers key p
    → x1 ≡ element (take 16 blocks) → x2 ≡ element (take 16 (drop 16 blocks))
    → x3 ≡ element (take 16 (drop 32 blocks)) → x4 ≡ element (take 16 (drop 48 blocks))
    → r ≡ bit_xor (bit_xor (ghash_times (bit_xor sum x1) p.fourth) (ghash_times x2 p.cube))
    (bit_xor (ghash_times x3 p.square) (ghash_times x4 p.key))
    → r ≡ added_block element key (added_block element key (added_block element key (added_block element key sum (take 16 blocks))
    (take 16 (drop 16 blocks))) (take 16 (drop 32 blocks))) (take 16 (drop 48 blocks))
four_blocks element key sum x1 x2 x3 x4 blocks p r are of_x1 of_x2 of_x3 of_x4 of_r =
    of_r
    ∙ ap (λ (z : ℕ). bit_xor (bit_xor (ghash_times (bit_xor sum x1) p.fourth) (ghash_times x2 p.cube))
    (bit_xor (ghash_times x3 p.square) (ghash_times x4 z))) are.0
    ∙ four_steps (bit_xor sum x1) x2 x3 x4 key p.square p.cube p.fourth are.1 are.2 are.3
    ∙ ap₂ (λ (y z : ℕ). ghash_times (bit_xor (ghash_times (bit_xor y z) key) x4) key)
    (ap₂ (λ (y z : ℕ). ghash_times (bit_xor (ghash_times (bit_xor sum y) key) z) key) of_x1 of_x2) of_x3
    ∙ ap (λ (z : ℕ). added_block (λ b. z) key (added_block element key (added_block element key (added_block element key sum (take 16 blocks))
    (take 16 (drop 16 blocks))) (take 16 (drop 32 blocks))) blocks) of_x4
