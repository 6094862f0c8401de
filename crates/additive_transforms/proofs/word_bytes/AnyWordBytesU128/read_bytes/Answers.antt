use Rattle.std.proofs.Common.{map, sym, ◌∙◌, ap, arith}
use Rattle.std.proofs.lemmas.List.{get_or-map}
use Rattle.additive_transforms.proofs.WordPlaces.{number_read}
use Rattle.additive_transforms.proofs.word_bytes.AnyWordBytesU128.read_bytes.Goals as goal

pub returns : goal.returns
returns g c =
    let number = g.W.Reads.number in
    let words = c.args.words.now in
    let room = c.requires in
    let word = c.index-words-start.result in
    number_read c.args.start c.stored.result (map number words) c.bytes_of_128.result
    (get_or-map number words c.args.start word 0 (omega (arith, room)) ∙ ap number (sym c.index-words-start.is) ∙ sym c.stored.ensures)
    c.bytes_of_128.ensures
