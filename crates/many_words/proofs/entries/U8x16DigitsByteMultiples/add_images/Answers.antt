use Rattle.std.proofs.Common.{◌<◌, ◌%◌, ◌/◌, ◌∙◌, ap, arith, lit<, length, w8, Fits}
use native.Mathlib.Nat.{mod-lt}
use Rattle.std.specs.Prelude.{slice_index}
use Rattle.std.proofs.lemmas.Simd.{Each1-get_or}
use Rattle.many_words.proofs.TableLanes.{byte_images}
use Rattle.many_words.proofs.entries.U8x16DigitsByteMultiples.add_images.Goals as goal

pub returns : goal.returns
returns g c f from are l below =
    let lane = g.S.Planes.lane in
    let tables = c.args.tables.now in
    let byte = slice_index c.args.self.now l in
    let two = c.requires in
    let long = c.holds_bytes.ensures.count in
    let sixteen = g.met.S.Entries.sixteen_law in
    let inside : l < length c.args.self.now = omega (arith, below, long) in
    let within : l < g.S.Planes.lanes = omega (arith, below, sixteen) in
    let fits = (Each1-get_or (Fits w8) c.args.self.now l 0 inside c.holds_bytes.ensures.fit).fits in
    byte_images lane f from tables are byte (lane c.args.sums.now l) (lane c.low_entries.result l) (lane c.high_entries.result l) _ _ fits
    (c.low_entries.ensures l below ∙ ap (λ t. lane t (byte % 16)) c.index-tables-0.is
    ∙ are.entries 0 (byte % 16) (omega (arith, two)) (mod-lt byte (lit< tt)) c.index-tables-0.result)
    (c.high_entries.ensures l below ∙ ap (λ t. lane t (byte / 16)) c.index-tables-1.is
    ∙ are.entries 1 (byte / 16) (omega (arith, two)) (omega (arith, fits)) c.index-tables-1.result)
    (c.add.ensures l within) (c.add-2.ensures l within)
