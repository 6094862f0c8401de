use Rattle.std.proofs.Common.{ℕ, List, ◌++◌, codes, ◌∙◌, ap}
use Rattle.std.specs.Int.{to_be_bytes, w128}
use Rattle.std.specs.Prelude.{decimal}
use Rattle.hex.specs.Hex.{encode_lower}
use Rattle.prove_sums.proofs.reports.sum_report.Goals as goal

pub returns-clause-line : goal.returns-clause-line
returns-clause-line c =
    c.in_ok-line.ensures.ok
    ∙ ap (λ (digits : List ℕ). codes "the sum is " ++ (digits ++ (codes ", and its proof has " ++ (decimal c.args.size ++ codes " bytes\n"))))
    (c.in_ok-digits.ensures ∙ ap encode_lower (c.to_be_bytes-bytes.ensures ∙ ap (to_be_bytes w128) c.to_bits.ensures))
