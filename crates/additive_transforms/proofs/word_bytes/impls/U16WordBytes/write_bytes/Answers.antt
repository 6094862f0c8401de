use Rattle.std.proofs.Common.{◌^◌, refl}
use Rattle.std.specs.Simd.Lanes.{digits_l, number_l, put_chunk}
use Rattle.additive_transforms.proofs.WordPlaces.{own_words_put}
use Rattle.additive_transforms.proofs.word_bytes.impls.U16WordBytes.write_bytes.Goals as goal

pub returns-clause-words : goal.returns-clause-words
returns-clause-words c =
    own_words_put 1 8 c.args.start c.args.words.now
    (put_chunk c.args.start c.args.words.now (digits_l (256 ^ 2 ^ 1) 8 (number_l 256 c.args.bytes))) c.args.bytes refl c.requires c.fits-bytes.1 refl
