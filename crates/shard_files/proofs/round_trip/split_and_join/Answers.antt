use Rattle.std.proofs.Common.{inl}
use Rattle.std.proofs.lemmas.Result.{IfErr-weaker}
use Rattle.shard_files.specs.Memory.{AreEnough, FewAreLost, holdings_of}
use Rattle.shard_files.proofs.InMemory.{files_left, losses_leave}
use Rattle.shard_files.proofs.round_trip.split_and_join.Goals as goal
use Rattle.shard_files.proofs.round_trip.split_and_join.Goals.{After-join_bytes}

-- what is left of the shards is enough
enough : (c : After-join_bytes) → FewAreLost c.args.layout.origin c.args.lost.now
    → AreEnough c.args.layout.origin c.in-Ok.ensures.split.0 (holdings_of c.lose.new.self.files.items)
enough c few =
    let layout = c.args.layout in
    let split = c.in-Ok.ensures.split in
    losses_leave layout.origin c.args.content.now split.0 c.lose.new.self.files.items layout.possible layout.fits split.1 c.args.lost.now
    (files_left layout.origin split.0 c.args.lost.now c.in-Ok.shards.files.items c.lose.new.self.files.items few split.2
    c.lose.ensures.gone c.lose.ensures.left)

pub returns-clause-returned : goal.returns-clause-returned
returns-clause-returned c =
    λ few.
    let split = c.in-Ok.ensures.split in
    c.join_bytes.ensures.joined c.args.content.now split.0 split.1 (enough (goal.at.returns-clause-returned c).After-join_bytes few)

pub returns-clause-refused : goal.returns-clause-refused
returns-clause-refused c =
    λ few.
    let split = c.in-Ok.ensures.split in
    IfErr-weaker c.join_bytes.result _ _ (λ error memory. inl memory)
    (c.join_bytes.ensures.granted c.args.content.now split.0 split.1 (enough (goal.at.returns-clause-refused c).After-join_bytes few))
