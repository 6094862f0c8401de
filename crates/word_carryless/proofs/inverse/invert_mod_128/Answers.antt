use Rattle.std.proofs.Common.{◌≡◌, ℕ, ◌+◌, ◌^◌, ◌<◌, arith, lit<}
use Rattle.field_base.specs.Powers.{repeated_square}
use Rattle.field_base.specs.Remainder.{ghash_modulus, mul_mod}
use Rattle.field_base.proofs.RemainderRing.{ghash_ring}
use Rattle.word_carryless.proofs.Chains.{run, run-one, joined, squared_once, chain_end}
use Rattle.word_carryless.proofs.inverse.invert_mod_128.Goals as goal

-- two runs of ones, the first squared by a power map
join : (m n a first second moved product : ℕ) → first ≡ run (mul_mod 128 ghash_modulus) m a → second ≡ run (mul_mod 128 ghash_modulus) n a
    → moved ≡ repeated_square 1 (mul_mod 128 ghash_modulus) n first → product ≡ mul_mod 128 ghash_modulus moved second
    → product ≡ run (mul_mod 128 ghash_modulus) (m + n) a
join = joined 128 (mul_mod 128 ghash_modulus) ghash_ring (lit< tt)

-- by one square
join_one : (m a first moved product : ℕ) → a < 2 ^ 128 → first < 2 ^ 128 → first ≡ run (mul_mod 128 ghash_modulus) m a
    → moved ≡ mul_mod 128 ghash_modulus first first → product ≡ mul_mod 128 ghash_modulus moved a
    → product ≡ run (mul_mod 128 ghash_modulus) (m + 1) a
join_one m a first moved product a_fits first_fits of_first of_moved of_product =
    join m 1 a first a moved product of_first (run-one 128 (mul_mod 128 ghash_modulus) ghash_ring (lit< tt) a a_fits)
    (squared_once 128 (mul_mod 128 ghash_modulus) ghash_ring (lit< tt) first moved first_fits of_moved) of_product

pub returns : goal.returns
returns c =
    let x = c.args.x in
    let run_1 = run-one 128 (mul_mod 128 ghash_modulus) ghash_ring (lit< tt) x (omega arith) in
    let run_2 = join_one 1 x x c.square_mod_128.result c.multiply_mod_128-run_2.result (omega arith) (omega arith) run_1 c.square_mod_128.ensures c.multiply_mod_128-run_2.ensures in
    let run_3 = join_one 2 x c.multiply_mod_128-run_2.result c.square_mod_128-2.result c.multiply_mod_128-run_3.result (omega arith) (omega arith) run_2 c.square_mod_128-2.ensures c.multiply_mod_128-run_3.ensures in
    let run_6 = join 3 3 x c.multiply_mod_128-run_3.result c.multiply_mod_128-run_3.result c.square_3_times_mod_128.result c.multiply_mod_128-run_6.result run_3 run_3 c.square_3_times_mod_128.ensures c.multiply_mod_128-run_6.ensures in
    let run_7 = join_one 6 x c.multiply_mod_128-run_6.result c.square_mod_128-3.result c.multiply_mod_128-run_7.result (omega arith) (omega arith) run_6 c.square_mod_128-3.ensures c.multiply_mod_128-run_7.ensures in
    let run_14 = join 7 7 x c.multiply_mod_128-run_7.result c.multiply_mod_128-run_7.result c.square_7_times_mod_128.result c.multiply_mod_128-run_14.result run_7 run_7 c.square_7_times_mod_128.ensures c.multiply_mod_128-run_14.ensures in
    let run_28 = join 14 14 x c.multiply_mod_128-run_14.result c.multiply_mod_128-run_14.result c.square_14_times_mod_128.result c.multiply_mod_128-run_28.result run_14 run_14 c.square_14_times_mod_128.ensures c.multiply_mod_128-run_28.ensures in
    let run_56 = join 28 28 x c.multiply_mod_128-run_28.result c.multiply_mod_128-run_28.result c.square_28_times_mod_128.result c.multiply_mod_128-run_56.result run_28 run_28 c.square_28_times_mod_128.ensures c.multiply_mod_128-run_56.ensures in
    let run_63 = join 56 7 x c.multiply_mod_128-run_56.result c.multiply_mod_128-run_7.result c.square_7_times_mod_128-2.result c.multiply_mod_128-run_63.result run_56 run_7 c.square_7_times_mod_128-2.ensures c.multiply_mod_128-run_63.ensures in
    let run_126 = join 63 63 x c.multiply_mod_128-run_63.result c.multiply_mod_128-run_63.result c.square_63_times_mod_128.result c.multiply_mod_128-run_126.result run_63 run_63 c.square_63_times_mod_128.ensures c.multiply_mod_128-run_126.ensures in
    let run_127 = join_one 126 x c.multiply_mod_128-run_126.result c.square_mod_128-4.result c.multiply_mod_128-run_127.result (omega arith) (omega arith) run_126 c.square_mod_128-4.ensures c.multiply_mod_128-run_127.ensures in
    chain_end 128 (mul_mod 128 ghash_modulus) ghash_ring (lit< tt) 127 x c.multiply_mod_128-run_127.result c.square_mod_128-5.result run_127 c.square_mod_128-5.ensures
