use Rattle.std.proofs.Common.{◌^◌, ◌≤◌, length, arith, lit<, rules}
use Rattle.std.proofs.Math.Nat.{pow-le-pow_right}
use Rattle.std.proofs.lemmas.Bool.Decides.{Decides-eqb}
use Rattle.transcripts.proofs.OpenedLeaves.{opens-refused, opens-verdict}
use Rattle.transcripts.proofs.openings.opens_to.Goals as goal

pub joined-requires-clause-room : goal.joined-requires-clause-room
joined-requires-clause-room g c =
    let power : 2 ^ c.args.commitment.depth ≤ 2 ^ 40 = pow-le-pow_right (lit< tt) c.requires in
    omega (arith, power)

pub returns : goal.returns
returns g c =
    let count = Decides-eqb c.in-Some.found.1 (length c.args.nodes.now) in
    opens-verdict (g.H.ByteHasher32.digest c.args.hasher.now) c.args.commitment.depth 0 c.in-Some.found.1 c.args.leaves.now c.args.nodes.now
    c.in-Some.found.0 c.args.commitment.root c.both.result _ c.eq.result c.in-Some.ensures.used c.in-Some.ensures.opens c.both.ensures
    (count.0, count.1) (search rules)

pub returns-in_default : goal.returns-in_default
returns-in_default g c =
    opens-refused (g.H.ByteHasher32.digest c.args.hasher.now) c.args.commitment.depth 0 c.args.leaves.now c.args.nodes.now
    c.args.commitment.root c.joined.result c.in_default.is c.joined.ensures.none
