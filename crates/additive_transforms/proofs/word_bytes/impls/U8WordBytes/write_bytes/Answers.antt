use Rattle.std.proofs.Common.{List, ℕ, refl, sym, ap}
use Rattle.std.specs.Simd.Lanes.{put_chunk}
use Rattle.additive_transforms.proofs.WordPlaces.{own_words_put, sixteen_digits}
use Rattle.additive_transforms.proofs.word_bytes.impls.U8WordBytes.write_bytes.Goals as goal

pub returns-clause-words : goal.returns-clause-words
returns-clause-words c =
    let words = c.args.words.now in
    own_words_put 0 16 c.args.start words (put_chunk c.args.start words c.args.bytes) c.args.bytes refl c.requires c.fits-bytes.1
    (sym (ap (λ (bytes : List ℕ). put_chunk c.args.start words bytes) (sixteen_digits c.args.bytes c.fits-bytes.0 c.fits-bytes.1)))
