use Rattle.std.proofs.Common.{◌≡◌, ◌*◌, ◌%◌, ◌^◌}
use Rattle.field_base.specs.Carryless.{carryless}
use Rattle.word_tables.proofs.BlockLemmas.{done_before}
use Rattle.word_carryless.proofs.masked.masked_products.Given as goal

-- the words before this block of four are products, the others are as they were
abbrev pub invariant-fours : goal.invariant-fours
invariant-fours l = l.xs ≡ done_before (λ x. carryless x l.y % 2 ^ 64) (4 * l.four) l.fn.xs

-- those before this block of two
abbrev pub invariant-twos : goal.invariant-twos
invariant-twos l = l.xs ≡ done_before (λ x. carryless x l.y % 2 ^ 64) (2 * l.two) l.fn.xs

-- those before this place
abbrev pub invariant-rest : goal.invariant-rest
invariant-rest l = l.xs ≡ done_before (λ x. carryless x l.y % 2 ^ 64) l.place l.fn.xs
