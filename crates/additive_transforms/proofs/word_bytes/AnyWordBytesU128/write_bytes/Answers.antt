use Rattle.std.proofs.Common.{map, ◌∙◌, ap, arith}
use Rattle.std.proofs.Math.ListN.{set}
use Rattle.std.proofs.lemmas.List.{length-map, map-set}
use Rattle.additive_transforms.proofs.WordPlaces.{number_put}
use Rattle.additive_transforms.proofs.word_bytes.AnyWordBytesU128.write_bytes.Goals as goal

pub returns-clause-words : goal.returns-clause-words
returns-clause-words g c =
    let number = g.W.Reads.number in
    let words = c.args.words.now in
    let room = c.requires in
    let long = length-map words number in
    number_put c.args.start (map number words) _ c.args.bytes (omega (arith, room, long)) c.fits-bytes.0 c.fits-bytes.1
    (map-set number words c.args.start c.of_stored.result
    ∙ ap (set (map number words) c.args.start) (c.of_stored.ensures ∙ c.number_of_bytes.ensures))
