use Rattle.many_words.proofs.ScaledBytes.{images_are}
use Rattle.many_words.proofs.scaled_bytes.images_of.Goals as goal

pub returns : goal.returns
returns g c =
    images_are g.K.FieldKernel.width g.K.FieldKernel.product g.K.FieldKernel.field_law.ring c.args.scalar _ _ _ _ _ _ _ _ c.multiply.ensures
    c.multiply-2.ensures c.multiply-3.ensures c.multiply-4.ensures c.multiply-5.ensures c.multiply-6.ensures c.multiply-7.ensures
    c.multiply-8.ensures
