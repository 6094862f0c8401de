use Rattle.std.proofs.Common.{sym}
use Rattle.std.proofs.lemmas.Nat.{xor_lt}
use Rattle.word_polynomial.specs.lemmas.Triple.{triple_sum}
use Rattle.word_polynomial.proofs.triple.Triple.xor.Goals as goal

pub invariant_of-result : goal.invariant_of-result
invariant_of-result c =
    let x = c.args.self in
    let y = c.args.other in
    record {
      in_range = record {
        first = xor_lt 64 _ _ x.in_range.first y.in_range.first;
        second = xor_lt 64 _ _ x.in_range.second y.in_range.second;
        third = xor_lt 64 _ _ x.in_range.third y.in_range.third;
      };
    }

pub returns : goal.returns
returns c =
    let x = c.args.self in
    let y = c.args.other in
    sym (triple_sum 64 x.c0 x.c1 x.c2 y.c0 y.c1 y.c2 x.in_range.first y.in_range.first x.in_range.second y.in_range.second)
