use Rattle.std.proofs.Common.{refl, sym, w8, arith}
use Rattle.std.specs.Simd.Lanes.{chunk}
use Rattle.std.proofs.lemmas.Simd.{chunk-fits, length-chunk}
use Rattle.additive_transforms.proofs.WordPlaces.{own_words_read, sixteen_digits}
use Rattle.additive_transforms.proofs.word_bytes.impls.U8WordBytes.read_bytes.Goals as goal

pub returns : goal.returns
returns c =
    let words = c.args.words.now in
    let start = c.args.start in
    let room = c.requires in
    own_words_read 0 16 start words (chunk start 16 words) refl (λ k. (c.type_inv.words k).fits)
    (sym (sixteen_digits (chunk start 16 words) (length-chunk start 16 words (omega (arith, room))) (chunk-fits w8 start 16 words c.type_inv.words)))
