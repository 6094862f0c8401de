use Rattle.std.proofs.Common.{◌+◌, ◌*◌, ◌-◌, ◌∙◌, length, lit<, refl, arith}
use Rattle.std.proofs.lemmas.Nat.{xor_of_8}
use Rattle.error_codes.proofs.Loops.{last_coefficient, next_coefficient, no_coefficient}
use Rattle.error_codes.proofs.splitting.share_byte.Goals as goal

pub loop-back-init : goal.loop-back-init
loop-back-init c = record {
  fits = lit< tt;
  so_far = no_coefficient c.args.field c.args.others (length c.args.secret.now) c.args.place c.args.index c.args.draws.now;
}

pub loop-back-preserved : goal.loop-back-preserved
loop-back-preserved c =
    let row = c.args.others - 1 - c.loop-back.back in
    let drawn = (c.type_inv.draws (row * length c.args.secret.now + c.args.place)).fits in
    record {
      fits = xor_of_8 c.image.result _ c.image.type_inv drawn;
      so_far = next_coefficient c.args.field c.args.others (length c.args.secret.now) c.args.place c.args.index c.loop-back.value c.loop-back.back row
          c.image.result c.args.draws.now c.loop-back-test.true refl
          (c.image.ensures ∙ c.columns_of-columns.ensures c.loop-back.value c.loop-back.invariant.fits) drawn c.loop-back.invariant.so_far;
    }

pub returns : goal.returns
returns c =
    last_coefficient c.args.field c.args.others c.args.place c.args.index c.loop-back.value c.loop-back.back c.image-2.result c.args.secret.now
    c.args.draws.now (omega arith) (c.image-2.ensures ∙ c.columns_of-columns.ensures c.loop-back.value c.loop-back.invariant.fits)
    (c.type_inv.secret c.args.place).fits c.loop-back.invariant.so_far
