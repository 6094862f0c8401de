use Rattle.std.proofs.Common.{◌≡◌, None, Some, length, sym, ◌∙◌, subst}
use Rattle.std.proofs.lemmas.Bool.{true≢false}
use Rattle.shard_files.specs.Groups.{AreOf, numbered}
use Rattle.shard_files.specs.Heads.{head_file, IsHead}
use Rattle.shard_files.specs.declared.head.Head.{Head}
use Rattle.shard_files.specs.declared.head.Origin.{Origin}
use Rattle.shard_files.proofs.Groups.{AreOfHead, numbered_fits, of_read, other_origin, read_of, takes_nothing, takes_same}
use Rattle.shard_files.proofs.Heads.{bytes_digest, same_some}
use Rattle.shard_files.proofs.group.Group.take.Goals as goal

pub take_piece-requires-clause-digest : goal.take_piece-requires-clause-digest
take_piece-requires-clause-digest c =
    let fits = c.args.self.now.layout.fits in
    c.rest_of.ensures
    ∙ bytes_digest c.args.head.now c.in-Some.read c.in-Some.ensures.written
    (subst (λ (o : Origin). length o.identity ≡ 32) (sym (c.is_same.ensures.0 c.if-is_same.true)) fits.identity_size)

pub returns-then-is_same-clause-taken : goal.returns-then-is_same-clause-taken
returns-then-is_same-clause-taken c =
    let group = c.args.self.now in
    let now = c.take_piece.new.self in
    let bytes = c.args.head.now in
    let read = c.in-Some.read in
    let piece = c.args.piece.now in
    let only : (head : Head) → IsHead head → bytes ≡ head_file head → read ≡ head = λ head is same. same_some read head (c.in-Some.ensures.read head is same) in
    takes_same group.layout.origin (AreOfHead read c.args.stripe piece) (AreOf group.layout.origin c.args.stripe bytes piece) group.shards.items now.shards.items
    group.present.items now.present.items
    (of_read group.layout.origin bytes read c.args.stripe piece group.layout.fits group.layout.possible.few only (c.is_same.ensures.0 c.if-is_same.true) c.in-Some.ensures.written)
    (read_of group.layout.origin bytes read c.args.stripe piece group.layout.fits group.layout.possible.few only) c.take_piece.ensures.taken

pub returns-else-is_same-clause-taken : goal.returns-else-is_same-clause-taken
returns-else-is_same-clause-taken c =
    let group = c.args.self.now in
    let bytes = c.args.head.now in
    let read = c.in-Some.read in
    let piece = c.args.piece.now in
    takes_nothing group.layout.origin (AreOf group.layout.origin c.args.stripe bytes piece) group.shards.items group.present.items
    (other_origin group.layout.origin bytes read c.args.stripe piece group.layout.fits group.layout.possible.few
    (λ head is same. same_some read head (c.in-Some.ensures.read head is same))
    (λ same. true≢false (sym (c.is_same.ensures.1 same) ∙ c.if-is_same.false)))

pub returns-in-None-clause-taken : goal.returns-in-None-clause-taken
returns-in-None-clause-taken c =
    let group = c.args.self.now in
    takes_nothing group.layout.origin (AreOf group.layout.origin c.args.stripe c.args.head.now c.args.piece.now) group.shards.items group.present.items
    (λ index shard inside given.
    no_head (numbered group.layout.origin index) (c.in-None.ensures.read (numbered group.layout.origin index)
    (numbered_fits group.layout.origin group.layout.fits group.layout.possible.few index inside) given.0))
  where
    no_head : (head : Head) → None ≡ Some head → ⊥
    no_head head is = cc
