use Rattle.std.proofs.Common.{◌≡◌, List, ℕ, inr, rules, subst}
use Rattle.field_bytes.specs.Streams.{joined_bytes}
use Rattle.field_element.specs.Element.{repr_of}
use Rattle.prove_sums.specs.ProofFiles.{IsFile, file_bytes}
use Rattle.prove_sums.specs.Shapes.{element_count}
use Rattle.prove_sums.proofs.Files.{file_head, none-read, same-count, some-read}
use Rattle.prove_sums.proofs.proof_file.decode.Goals as goal

pub returns-in-None-clause-refused : goal.returns-in-None-clause-refused
returns-in-None-clause-refused c =
    let parts = c.in-Ok.parts in
    let file = c.in-Ok.ensures.file in (
      λ field queries rounds left right elements nodes is.
          none-read _ c.in_ok-read.read c.in-None.is c.in_ok-read.ensures.none elements
          (file.only field queries rounds left right (joined_bytes 16 repr_of elements) nodes is.may_be is.written).5,
      inr (parts.roots.field, file_head c.args.bytes.now _ _ _ _ _ _ _ file.may_be file.written),
    )

pub invariant_of-result : goal.invariant_of-result
invariant_of-result c =
    let parts = c.in-Ok.parts in
    let elements = c.in-Some.elements in
    let count =
    same-count repr_of parts.body.now elements.items (element_count parts.shape.queries parts.shape.rounds)
    (some-read _ c.in_ok-read.read c.in-Some.elements c.in-Some.is c.in_ok-read.ensures.written) c.in-Ok.ensures.file.may_be.body_size in
    record { count = search rules }

pub returns-clause-whole : goal.returns-clause-whole
returns-clause-whole c =
    let parts = c.in-Ok.parts in
    let is = some-read _ c.in_ok-read.read c.in-Some.elements c.in-Some.is c.in_ok-read.ensures.written in
    record {
      may_be = subst (λ (b : List ℕ). IsFile parts.shape.queries parts.shape.rounds parts.roots.left parts.roots.right b parts.nodes.now) is c.in-Ok.ensures.file.may_be;
      written =
          subst (λ (b : List ℕ). c.args.bytes.now ≡ file_bytes parts.roots.field parts.shape.queries parts.shape.rounds parts.roots.left parts.roots.right b parts.nodes.now) is c.in-Ok.ensures.file.written;
    }

pub returns-clause-own : goal.returns-clause-own
returns-clause-own c = λ field queries rounds left right elements nodes file.
    let only = c.in-Ok.ensures.file.only field queries rounds left right (joined_bytes 16 repr_of elements) nodes file.may_be file.written in (
      only.0,
      only.1,
      only.2,
      only.3,
      only.4,
      some-read _ c.in_ok-read.read c.in-Some.elements c.in-Some.is c.in_ok-read.ensures.own elements only.5,
      only.6,
    )
