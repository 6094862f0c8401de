use Rattle.std.proofs.Common.{◌+◌, ◌-◌, ◌*◌, ◌^◌, ◌≤◌, ℕ, subst, arith}
use Rattle.std.specs.Prelude.{slice_index_or}
use Rattle.reed_solomon.specs.Columns.{ArePutWords}
use Rattle.reed_solomon.proofs.ColumnPlaces.{strip_within}
use Rattle.reed_solomon.proofs.SummedPlaces.{in_parity_place, put_data, put_parity}
use Rattle.reed_solomon.proofs.direct.put_at_place.Goals as goal

pub copy_words-requires-clause-room : goal.copy_words-requires-clause-room
copy_words-requires-clause-room g c =
    let strip = c.args.strip in
    let within = strip_within strip.size c.args.code.now.data_shards c.args.p strip.start strip.width (omega (arith, c.if-p-code.true)) strip.inside in
    omega (arith, within, c.requires.whole)

pub returns-then-p-code-clause-put : goal.returns-then-p-code-clause-put
returns-then-p-code-clause-put g c =
    let code = c.args.code.now in
    let strip = c.args.strip in
    put_data g.R.Stored.ZERO code.data_shards code.levels code.parity_shards strip.size strip.start strip.width c.args.p c.args.row.now
    c.args.shards.now c.args.parity.now c.copy_words.new.target strip.inside (omega (arith, c.if-p-code.true)) c.copy_words.ensures.put

pub copy_words-requires-2-clause-room : goal.copy_words-requires-2-clause-room
copy_words-requires-2-clause-room g c =
    let strip = c.args.strip in
    let code = c.args.code.now in
    let place = in_parity_place code.data_shards (2 ^ code.levels) code.parity_shards c.args.p (omega (arith, c.if-p-code.false)) c.requires.place in
    let within = strip_within strip.size code.parity_shards (c.args.p - c.coefficient_count.result) strip.start strip.width
    (omega (arith, place.0, place.1, c.coefficient_count.ensures)) strip.inside in
    omega (arith, within, c.requires.parity_whole)

pub returns-clause-put : goal.returns-clause-put
returns-clause-put g c =
    let code = c.args.code.now in
    let strip = c.args.strip in
    let past : code.data_shards ≤ c.args.p = omega (arith, c.if-p-code.false) in
    let place = in_parity_place code.data_shards (2 ^ code.levels) code.parity_shards c.args.p past c.requires.place in
    put_parity g.R.Stored.ZERO code.data_shards code.levels code.parity_shards strip.size strip.start strip.width c.args.p c.args.row.now
    c.args.shards.now c.args.parity.now c.copy_words-2.new.target strip.inside past place.0 place.1 code.padded.enough
    (subst (λ (f : ℕ). ArePutWords g.R.Stored.ZERO ((c.args.p - f) * strip.size + strip.start) strip.width
    (λ d. slice_index_or c.args.row.now (0 + d) g.R.Stored.ZERO) c.args.parity.now c.copy_words-2.new.target) c.coefficient_count.ensures
    c.copy_words-2.ensures.put)
