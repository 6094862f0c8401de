use Rattle.std.proofs.Common.{◌≡◌, ℕ, ◌+◌, ◌-◌, ◌*◌, ◌^◌, ◌∙◌, ap, subst, arith}
use Rattle.reed_solomon.specs.Columns.{HoldStrip}
use Rattle.reed_solomon.proofs.StripWords.{rows_behind, words_read}
use Rattle.reed_solomon.proofs.restoring.read_strip.Goals as goal

pub gather-requires-2-clause-rows : goal.gather-requires-2-clause-rows
gather-requires-2-clause-rows g c =
    let code = c.args.code.now in
    let width = c.args.strip.width in
    let first = c.coefficient_count-first.result in
    let others : ℕ = c.point_count.result - first in
    let all : 2 ^ code.all_levels ≡ first + others = omega (arith, c.point_count.ensures, c.coefficient_count-first.ensures, code.all.enough) in
    rows_behind first others width _ _ (c.requires.rows ∙ ap (λ (s : ℕ). s * width) all) c.split_at_mut-of_data.ensures.back_len

pub returns-clause-words : goal.returns-clause-words
returns-clause-words g c =
    let zero = g.R.Stored.ZERO in
    let code = c.args.code.now in
    let strip = c.args.strip in
    let shards = c.args.shards.now in
    let halves = c.split_at_mut-of_data in
    let of_data = c.gather.new.values in
    let first = c.coefficient_count-first.result in
    let first_is = c.coefficient_count-first.ensures in
    let long = c.gather.ensures.long ∙ halves.ensures.front_len ∙ ap (λ (k : ℕ). k * strip.width) first_is in
    let held = subst (λ (u : ℕ). HoldStrip zero code.data_shards strip.size strip.start strip.width shards u of_data) first_is c.gather.ensures.strip in
    words_read zero code.data_shards code.levels code.parity_shards strip.size strip.start strip.width (c.point_count.result - first) shards
    c.args.parity.now of_data c.gather-2.new.values code.padded.enough long held c.gather-2.ensures.strip code.all_levels
    (omega (arith, c.point_count.ensures, first_is, code.all.enough))
