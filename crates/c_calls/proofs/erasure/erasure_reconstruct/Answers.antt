use Rattle.std.proofs.Common.{ℕ, length, take, refl, sym, ◌∙◌, ap, arith}
use Rattle.std.proofs.lemmas.Bool.{false≢true}
use Rattle.c_calls.proofs.ErasureCounts.{refused}
use Rattle.c_calls.proofs.ErasureRestored.{ends_early, ends_well}
use Rattle.c_calls.proofs.erasure.erasure_reconstruct.Goals as goal

pub returns-in-Ok-reconstruct : goal.returns-in-Ok-reconstruct
returns-in-Ok-reconstruct g c =
    let made = c.in-Ok.ensures.made in
    ends_well g.R.Stored.number g.R.Stored.ZERO g.L.Level.LEVEL c.in-Ok.code c.args.data c.args.parity made.0 made.1 made.2
    c.args.present.now (omega arith) _
    (ap (λ (q : ℕ). take q c.flags_of-flags.result) (sym c.if-present-total.false) ∙ c.flags_of-flags.ensures)
    c.args.shards.now c.args.parity_shards.now c.reconstruct.new.shards c.reconstruct.new.parity (length c.args.space.now)
    made.3 (c.in-Ok-reconstruct.ensures.accepted.0 refl) (c.in-Ok-reconstruct.ensures.restored refl)

pub returns-in-Err-reconstruct : goal.returns-in-Err-reconstruct
returns-in-Err-reconstruct g c =
    let made = c.in-Ok.ensures.made in
    let sizes = c.in-Ok-one_size.ensures.accepted.0 refl in
    let kept = c.in-Err-reconstruct.ensures.same in
    ends_early g.R.Stored.number g.R.Stored.ZERO g.L.Level.LEVEL c.in-Ok.code c.args.data c.args.parity made.0 made.1 made.2
    c.args.present.now (omega arith) _
    (ap (λ (q : ℕ). take q c.flags_of-flags.result) (sym c.if-present-total.false) ∙ c.flags_of-flags.ensures)
    c.args.shards.now c.args.parity_shards.now c.reconstruct.new.shards c.reconstruct.new.parity (length c.args.space.now)
    sizes made.3 (λ can. false≢true (c.in-Err-reconstruct.ensures.accepted.1 can)) kept.0 kept.1

pub returns-in-Err : goal.returns-in-Err
returns-in-Err g c =
    λ n r counts. refused (c.in-Err.ensures.no_code n r counts) (c.in-Err.ensures.no_room n r counts) (λ fits. fits.1.room)
