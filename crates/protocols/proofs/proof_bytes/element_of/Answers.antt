use Rattle.std.proofs.Common.{rules, ◌≢◌, ℕ, take, ◌∙◌, ap}
use Rattle.protocols.proofs.ProofBytes.{no-element}
use Rattle.protocols.proofs.proof_bytes.element_of.Goals as goal

pub returns-then-ne-clause-none : goal.returns-then-ne-clause-none
returns-then-ne-clause-none g c =
    let field = g.F.Represented in
    let front = take c.NUM_BYTES.result c.low_first-word.result in
    let other : front ≢ c.args.bytes.now = search rules in
    no-element g.F.RawDataSerializable.NUM_BYTES field.repr field.width g.met.F.RawDataSerializable.room_law field.range_law field.same_law
    c.args.bytes.now front c.of_low_first-element.result c.of_low_first-element.ensures
    (ap (λ (n : ℕ). take n c.low_first-word.result) c.NUM_BYTES.ensures ∙ c.low_first-word.ensures) other
