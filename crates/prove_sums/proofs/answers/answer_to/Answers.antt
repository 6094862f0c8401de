use Rattle.std.proofs.Common.{◌≡◌, ◌≢◌, false, true, rules, ◌∙◌}
use Rattle.field_element.specs.Element.{repr_of}
use Rattle.protocols.proofs.SchemeRuns.{memory-alone}
use Rattle.prove_sums.proofs.Refusals.{answered, err-told, file-at, missized, ok-told, other-field, other-left, other-right, unread}
use Rattle.prove_sums.proofs.answers.answer_to.Goals as goal

pub returns-in-Err-clause-answer : goal.returns-in-Err-clause-answer
returns-in-Err-clause-answer g c =
    let told = err-told _ c.in_ok-proof.field-0 c.in-Err.refusal c.in-Err.is c.in_ok-proof.ensures.refused in
    unread g.H.ByteHasher32.digest c.args.hasher.now repr_of c.args.bits c.args.roots.now.field c.args.roots.now.left c.args.roots.now.right c.args.bytes.now c.in-Err.refusal told.0 told.1

pub returns-in-Err-check_field-clause-answer : goal.returns-in-Err-check_field-clause-answer
returns-in-Err-check_field-clause-answer g c =
    let file = ok-told _ c.in_ok-proof.field-0 c.in-Ok.proof c.in-Ok.is c.in_ok-proof.ensures.whole in
    let told = err-told _ c.check_field.result c.in-Err-check_field.refusal c.in-Err-check_field.is c.check_field.ensures.refused in
    other-field g.H.ByteHasher32.digest c.args.hasher.now _ c.args.bits _ c.args.roots.now.left c.args.roots.now.right _ _ _ _ _ _ _ _ file
    c.in-Err-check_field.refusal told

pub returns-in-Err-check_sizes-clause-answer : goal.returns-in-Err-check_sizes-clause-answer
returns-in-Err-check_sizes-clause-answer g c =
    let file = ok-told _ c.in_ok-proof.field-0 c.in-Ok.proof c.in-Ok.is c.in_ok-proof.ensures.whole in
    let same = ok-told _ c.check_field.result tt c.in-Ok-check_field.is c.check_field.ensures.same in
    let told = err-told _ c.check_sizes.result c.in-Err-check_sizes.refusal c.in-Err-check_sizes.is c.check_sizes.ensures.refused in
    missized g.H.ByteHasher32.digest c.args.hasher.now _ c.args.bits _ c.args.roots.now.left c.args.roots.now.right _ _ _ _ _ _ _ _ file same
    c.in-Err-check_sizes.refusal told

pub returns-then-ne-clause-answer : goal.returns-then-ne-clause-answer
returns-then-ne-clause-answer g c =
    let proof = c.in-Ok.proof in
    let file = ok-told _ c.in_ok-proof.field-0 proof c.in-Ok.is c.in_ok-proof.ensures.whole in
    let same = ok-told _ c.check_field.result tt c.in-Ok-check_field.is c.check_field.ensures.same in
    let other : proof.roots.left ≢ c.args.roots.now.left = search rules in
    other-left g.H.ByteHasher32.digest c.args.hasher.now _ c.args.bits _ c.args.roots.now.left c.args.roots.now.right _ _ _ _ _ _ _ _ file same other

pub returns-then-ne-2-clause-answer : goal.returns-then-ne-2-clause-answer
returns-then-ne-2-clause-answer g c =
    let proof = c.in-Ok.proof in
    let file = ok-told _ c.in_ok-proof.field-0 proof c.in-Ok.is c.in_ok-proof.ensures.whole in
    let same = ok-told _ c.check_field.result tt c.in-Ok-check_field.is c.check_field.ensures.same in
    let left : proof.roots.left ≡ c.args.roots.now.left = search rules in
    let other : proof.roots.right ≢ c.args.roots.now.right = search rules in
    other-right g.H.ByteHasher32.digest c.args.hasher.now _ c.args.bits _ c.args.roots.now.left c.args.roots.now.right _ _ _ _ _ _ _ _ file same left
    other

pub returns-then-not-accepted-clause-answer : goal.returns-then-not-accepted-clause-answer
returns-then-not-accepted-clause-answer g c =
    let proof = c.in-Ok.proof in
    let file = ok-told _ c.in_ok-proof.field-0 proof c.in-Ok.is c.in_ok-proof.ensures.whole in
    let same = ok-told _ c.check_field.result tt c.in-Ok-check_field.is c.check_field.ensures.same in
    let sized = ok-told _ c.check_sizes.result tt c.in-Ok-check_sizes.is c.check_sizes.ensures.sized in
    answered g.H.ByteHasher32.digest _ _ _ _ _ _ _ _ _ _ _ _ _ _ file same sized _ false (search rules) (search rules)
    c.in_ok-accepted.ensures.verdict c.if-not-accepted.true

pub returns-clause-answer : goal.returns-clause-answer
returns-clause-answer g c =
    let proof = c.in-Ok.proof in
    let file = ok-told _ c.in_ok-proof.field-0 proof c.in-Ok.is c.in_ok-proof.ensures.whole in
    let same = ok-told _ c.check_field.result tt c.in-Ok-check_field.is c.check_field.ensures.same in
    let sized = ok-told _ c.check_sizes.result tt c.in-Ok-check_sizes.is c.check_sizes.ensures.sized in
    answered g.H.ByteHasher32.digest _ _ _ _ _ _ _ _ _ _ _ _ _ _ file same sized _ true (search rules) (search rules)
    c.in_ok-accepted.ensures.verdict c.if-not-accepted.false

pub returns-clause-proof : goal.returns-clause-proof
returns-clause-proof g c =
    let proof = c.in-Ok.proof in
    let roots = c.args.roots.now in
    let left : proof.roots.left ≡ roots.left = search rules in
    let right : proof.roots.right ≡ roots.right = search rules in
    let file = ok-told _ c.in_ok-proof.field-0 proof c.in-Ok.is c.in_ok-proof.ensures.whole in
    let same = ok-told _ c.check_field.result tt c.in-Ok-check_field.is c.check_field.ensures.same in
    file-at g.H.ByteHasher32.digest c.args.hasher.now _ c.args.bits _ roots.left roots.right _ _ _ _ _ _ _ _ file same left right

pub returns-in_err-accepted-clause-memory : goal.returns-in_err-accepted-clause-memory
returns-in_err-accepted-clause-memory g c =
    memory-alone _ c.from_residual-in_err-accepted.ensures.1 (λ error is. is ∙ c.in_err-accepted.ensures.memory)
