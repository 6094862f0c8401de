use Rattle.std.proofs.Common.{◌≡◌, ℕ, ◌+◌, refl, arith, lit<}
use Rattle.field_base.specs.Remainder.{mul_mod, poly64_modulus}
use Rattle.field_base.specs.Powers.{repeated_square}
use Rattle.field_base.proofs.RemainderRing.{poly64_ring}
use Rattle.word_carryless.proofs.Chains.{run, run-one, joined, chain_end}
use Rattle.word_carryless.proofs.inverse.invert_mod_64.Goals as goal

-- two runs of ones, as `join_runs_64` joins them
join : (m n a first second product : ℕ) → first ≡ run (mul_mod 64 poly64_modulus) m a → second ≡ run (mul_mod 64 poly64_modulus) n a
    → product ≡ mul_mod 64 poly64_modulus (repeated_square 1 (mul_mod 64 poly64_modulus) n first) second
    → product ≡ run (mul_mod 64 poly64_modulus) (m + n) a
join m n a first second product of_first of_second of_product =
    joined 64 (mul_mod 64 poly64_modulus) poly64_ring (lit< tt) m n a first second _ product
    of_first of_second refl of_product

pub returns : goal.returns
returns c =
    let x = c.args.x in
    let run_1 = run-one 64 (mul_mod 64 poly64_modulus) poly64_ring (lit< tt) x (omega arith) in
    let run_2 = join 1 1 x x x c.join_runs_64-run_2.result run_1 run_1 c.join_runs_64-run_2.ensures in
    let run_3 = join 2 1 x c.join_runs_64-run_2.result x c.join_runs_64-run_3.result run_2 run_1 c.join_runs_64-run_3.ensures in
    let run_6 = join 3 3 x c.join_runs_64-run_3.result c.join_runs_64-run_3.result c.join_runs_64-run_6.result run_3 run_3 c.join_runs_64-run_6.ensures in
    let run_12 = join 6 6 x c.join_runs_64-run_6.result c.join_runs_64-run_6.result c.join_runs_64-run_12.result run_6 run_6 c.join_runs_64-run_12.ensures in
    let run_24 = join 12 12 x c.join_runs_64-run_12.result c.join_runs_64-run_12.result c.join_runs_64-run_24.result run_12 run_12 c.join_runs_64-run_24.ensures in
    let run_48 = join 24 24 x c.join_runs_64-run_24.result c.join_runs_64-run_24.result c.join_runs_64-run_48.result run_24 run_24 c.join_runs_64-run_48.ensures in
    let run_60 = join 48 12 x c.join_runs_64-run_48.result c.join_runs_64-run_12.result c.join_runs_64-run_60.result run_48 run_12 c.join_runs_64-run_60.ensures in
    let run_63 = join 60 3 x c.join_runs_64-run_60.result c.join_runs_64-run_3.result c.join_runs_64-run_63.result run_60 run_3 c.join_runs_64-run_63.ensures in
    chain_end 64 (mul_mod 64 poly64_modulus) poly64_ring (lit< tt) 63 x c.join_runs_64-run_63.result c.square_mod_64.result
    run_63 c.square_mod_64.ensures
