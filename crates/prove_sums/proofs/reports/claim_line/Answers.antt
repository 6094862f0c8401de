use Rattle.std.proofs.Common.{◌∙◌, ap}
use Rattle.std.specs.Int.{to_be_bytes, w128}
use Rattle.hex.specs.Hex.{encode_lower}
use Rattle.prove_sums.proofs.Exits.{claim-same}
use Rattle.prove_sums.proofs.reports.claim_line.Goals as goal

pub returns : goal.returns
returns c =
    c.in_ok-line.ensures.ok
    ∙ claim-same c.args.proof.now.shape.rounds _ _ _ _ _ _ _ _ c.name-field.ensures c.in_ok-left.ensures c.in_ok-right.ensures
    (c.in_ok-sum.ensures ∙ ap encode_lower (c.to_be_bytes-bytes.ensures ∙ ap (to_be_bytes w128) (c.to_bits.ensures ∙ c.sum.ensures)))
