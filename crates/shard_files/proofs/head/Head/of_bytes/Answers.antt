use Rattle.std.proofs.Common.{◌≡◌, Some, sym, ◌∙◌, ap, arith}
use Rattle.std.proofs.lemmas.Bool.{true≢false}
use Rattle.std.specs.Int.{w64, to_le_bytes}
use Rattle.shard_files.specs.Heads.{head_digest, head_fields}
use Rattle.shard_files.specs.declared.head.Head.{Head}
use Rattle.shard_files.proofs.Heads.{bytes_count, bytes_digest, bytes_fields, bytes_long, bytes_of_parts, bytes_size, parsed_is}
use Rattle.shard_files.proofs.head.Head.of_bytes.Goals as goal

pub returns-then-bytes-ne-HEAD-clause-read : goal.returns-then-bytes-ne-HEAD-clause-read
returns-then-bytes-ne-HEAD-clause-read c =
    λ head is same. absurd (omega (arith, bytes_count c.args.bytes.now head same is.origin_fits.identity_size, c.if-bytes-ne-HEAD.true))

pub returns-then-not-is_of-clause-read : goal.returns-then-not-is_of-clause-read
returns-then-not-is_of-clause-read c =
    λ head is same.
    let bytes = c.args.bytes.now in
    let parsed = c.parsed-head.result in
    let said = c.parsed-head.ensures in
    let sized = is.origin_fits.identity_size in
    let head_is : head ≡ parsed =
    sym (parsed_is bytes head same sized is parsed said.code said.data said.parity said.index said.length said.size said.identity) in
    absurd (true≢false
    (sym (c.is_of.ensures.1 (
      bytes_fields bytes head same sized ∙ ap (λ (h : Head). head_fields h.origin h.index) head_is,
      bytes_long bytes head same sized ∙ ap (λ (h : Head). to_le_bytes w64 h.origin.length) head_is,
      bytes_size bytes head same sized ∙ ap (λ (h : Head). to_le_bytes w64 h.origin.size) head_is,
      bytes_digest bytes head same sized ∙ ap head_digest head_is,
    ))
    ∙ c.if-not-is_of.true))

pub returns-clause-written : goal.returns-clause-written
returns-clause-written c =
    let both = c.is_of.ensures.0 c.if-not-is_of.false in
    bytes_of_parts c.args.bytes.now c.parsed-head.result both.0 both.1 both.2 c.parsed-head.ensures.identity both.3

pub returns-clause-read : goal.returns-clause-read
returns-clause-read c =
    λ head is same.
    let said = c.parsed-head.ensures in
    ap (λ (h : Head). Some h)
    (parsed_is c.args.bytes.now head same is.origin_fits.identity_size is c.parsed-head.result said.code said.data said.parity said.index said.length said.size said.identity)
