use Rattle.std.proofs.Common.{◌≡◌, ◌++◌, ◌/◌, ℕ, ◌∙◌, ap, arith}
use Rattle.field_base.specs.Chunks.{chunks}
use Rattle.field_base.proofs.ChunkLists.{none_pushed}
use Rattle.bits_packed.proofs.LaneLists.{byte_pushed}
use Rattle.bits_packed.proofs.packed.parts.push_bytes.Goals as goal

pub loop-i-init : goal.loop-i-init
loop-i-init g c = none_pushed 8 (g.U.Underlier.number c.args.packed.now.bits) c.args.bytes.now.items

pub loop-i-preserved : goal.loop-i-preserved
loop-i-preserved g c =
    byte_pushed 8 c.loop-i.i _ c.byte.result _ _ _ c.in_ok-push.ensures.items c.loop-i.invariant c.byte.ensures

pub returns : goal.returns
returns g c =
    let all : c.loop-i.i ≡ g.U.Underlier.BITS / 8 = omega arith in
    c.loop-i.invariant
    ∙ ap (λ (n : ℕ). c.args.bytes.now.items ++ chunks 8 n (g.U.Underlier.number c.args.packed.now.bits)) all
