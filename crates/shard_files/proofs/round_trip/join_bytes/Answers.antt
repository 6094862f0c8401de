use Rattle.std.proofs.Common.{ℕ, List, [], ◌++◌, length, get_or, refl, ◌∙◌, ap}
use Rattle.sha2.specs.Sha256.{sha256}
use Rattle.shard_files.specs.Memory.{holdings_of}
use Rattle.shard_files.proofs.Returns.{shards_return_law}
use Rattle.shard_files.proofs.round_trip.join_bytes.Goals as goal

pub returns-in-Ok-clause-joined : goal.returns-in-Ok-clause-joined
returns-in-Ok-clause-joined c =
    λ content wholes are enough.
    let layout = c.args.layout in
    let files = holdings_of c.args.shards.now.files.items in
    c.in-Ok.ensures.restored files content (λ s. get_or wholes s []) refl
    (shards_return_law layout.origin content wholes files layout.possible layout.fits are enough.enough enough.seen)
    ∙ ap (λ (l : List ℕ). l ++ content) c.new-bytes.ensures.items

pub returns-in-Ok-clause-named : goal.returns-in-Ok-clause-named
returns-in-Ok-clause-named c =
    let told = c.in-Ok.ensures.named in
    let same = told.3 ∙ ap (λ (l : List ℕ). l ++ told.0) c.new-bytes.ensures.items in
    (ap length same ∙ told.2.length_is, ap sha256 same ∙ told.2.identity_is)

pub returns-in-Err-clause-granted : goal.returns-in-Err-clause-granted
returns-in-Err-clause-granted c =
    λ content wholes are enough.
    let layout = c.args.layout in
    let files = holdings_of c.args.shards.now.files.items in
    c.join_fault.ensures.memory
    (c.in-Err.ensures.granted files content (λ s. get_or wholes s []) refl
    (shards_return_law layout.origin content wholes files layout.possible layout.fits are enough.enough enough.seen))
