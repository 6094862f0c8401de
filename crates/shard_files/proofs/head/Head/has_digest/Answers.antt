use Rattle.std.proofs.Common.{◌≡◌, ◌-◌, length, take, drop, IsTrue, sym, ◌∙◌, rules}
use Rattle.std.proofs.lemmas.List.{take_rest}
use Rattle.shard_files.proofs.head.Head.has_digest.Goals as goal

pub returns : goal.returns
returns c =
    let bytes = c.args.bytes.now in
    let digest = c.digest-digest.result in
    let own = take (length bytes - 72) (drop 72 bytes) in
    let both : (IsTrue c.eq.result → own ≡ digest) × (own ≡ digest → IsTrue c.eq.result) = search rules in
    let rest : own ≡ drop 72 bytes = take_rest bytes 72 in
    (λ is. sym rest ∙ both.0 is ∙ c.digest-digest.ensures, λ same. both.1 (rest ∙ same ∙ sym c.digest-digest.ensures))
