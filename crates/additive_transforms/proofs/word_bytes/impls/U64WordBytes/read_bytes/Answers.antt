use Rattle.std.proofs.Common.{refl}
use Rattle.additive_transforms.proofs.WordPlaces.{own_words_read}
use Rattle.additive_transforms.proofs.word_bytes.impls.U64WordBytes.read_bytes.Goals as goal

pub returns : goal.returns
returns c = own_words_read 3 2 c.args.start c.args.words.now _ refl (λ k. (c.type_inv.words k).fits) refl
