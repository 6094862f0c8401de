use Rattle.std.proofs.Common.{[], arith, rules}
use Rattle.transcripts.proofs.CapPaths.{cap-leads_exactly, cap-not_whole, cap-not_within}
use Rattle.transcripts.proofs.caps.leads_to_cap.Goals as goal

pub returns-then-path-levels : goal.returns-then-path-levels
returns-then-path-levels g c =
    cap-not_whole (g.H.ByteHasher32.digest c.args.hasher.now) c.args.levels c.args.index 0 c.args.cap.now c.args.leaf []
    c.args.path.now c.if-path-levels.true

pub returns-then-place-cap : goal.returns-then-place-cap
returns-then-place-cap g c =
    cap-not_within (g.H.ByteHasher32.digest c.args.hasher.now) c.args.levels c.args.index c.end_of-place.result.0
    c.args.cap.now c.args.leaf [] c.args.path.now c.if-path-levels.false c.end_of-place.ensures.place (omega arith)

pub returns : goal.returns
returns g c =
    cap-leads_exactly (g.H.ByteHasher32.digest c.args.hasher.now) c.args.levels c.args.index c.end_of-place.result.0 c.args.cap.now
    c.args.leaf c.end_of-place.result.1 c.args.path.now _ c.if-path-levels.false c.end_of-place.ensures.place (omega arith)
    c.end_of-place.ensures.digest (search rules)
