use Rattle.std.proofs.Common.{◌+◌, ◌-◌, ◌*◌, ◌^◌, ◌≤◌, ℕ, sym, ◌∙◌, subst, arith}
use Rattle.reed_solomon.specs.Direct.{AreAddedProducts}
use Rattle.reed_solomon.specs.Restoring.{is_lost}
use Rattle.reed_solomon.proofs.ColumnPlaces.{strip_within}
use Rattle.reed_solomon.proofs.SummedPlaces.{adds_data, adds_nothing, adds_padding, adds_parity, known_in_parity}
use Rattle.reed_solomon.proofs.direct.add_place.Goals as goal

pub returns-then-is_lost-clause-added : goal.returns-then-is_lost-clause-added
returns-then-is_lost-clause-added g c d inside =
    let code = c.args.code.now in
    adds_nothing g.R.Stored.number g.R.Stored.ZERO g.R.Stored.zero_number g.L.Level.LEVEL code.data_shards code.levels code.parity_shards
    c.args.strip.size c.args.strip.start c.args.strip.width c.args.q (g.R.Stored.number c.args.weight)
    (is_lost code.data_shards code.levels code.parity_shards c.args.present.now) c.args.shards.now c.args.parity.now c.args.sums.now c.args.sums.now
    (sym c.is_lost.ensures ∙ c.if-is_lost.true) d

pub add_products-requires : goal.add_products-requires
add_products-requires g c =
    let strip = c.args.strip in
    let within = strip_within strip.size c.args.code.now.data_shards c.args.q strip.start strip.width (omega (arith, c.if-q-code.true)) strip.inside in
    omega (arith, within, c.requires.whole, c.requires.row)

pub overflow_mul-place : goal.overflow_mul-place
overflow_mul-place g c =
    let strip = c.args.strip in
    let within = strip_within strip.size c.args.code.now.data_shards c.args.q strip.start strip.width (omega (arith, c.if-q-code.true)) strip.inside in
    omega (arith, within, c.requires.whole)

pub overflow_add-place : goal.overflow_add-place
overflow_add-place g c =
    let strip = c.args.strip in
    let within = strip_within strip.size c.args.code.now.data_shards c.args.q strip.start strip.width (omega (arith, c.if-q-code.true)) strip.inside in
    omega (arith, within, c.requires.whole)

pub returns-then-q-code-clause-added : goal.returns-then-q-code-clause-added
returns-then-q-code-clause-added g c d inside =
    let code = c.args.code.now in
    let strip = c.args.strip in
    let number = g.R.Stored.number in
    adds_data number g.R.Stored.ZERO g.R.Stored.zero_number g.L.Level.LEVEL code.data_shards code.levels code.parity_shards strip.size strip.start
    strip.width c.args.q (number c.args.weight) (is_lost code.data_shards code.levels code.parity_shards c.args.present.now) c.args.shards.now
    c.args.parity.now c.args.sums.now c.add_products.new.sums (sym c.is_lost.ensures ∙ c.if-is_lost.false) (omega (arith, c.if-q-code.true))
    (subst (λ (u : ℕ). AreAddedProducts number g.R.Stored.ZERO g.L.Level.LEVEL (number c.args.weight) (c.args.q * strip.size + strip.start) u
    c.args.shards.now c.args.sums.now c.add_products.new.sums) c.requires.row c.add_products.ensures.added) d inside

pub returns-then-q-first-clause-added : goal.returns-then-q-first-clause-added
returns-then-q-first-clause-added g c d inside =
    let code = c.args.code.now in
    adds_padding g.R.Stored.number g.R.Stored.ZERO g.R.Stored.zero_number g.L.Level.LEVEL code.data_shards code.levels code.parity_shards
    c.args.strip.size c.args.strip.start c.args.strip.width c.args.q (g.R.Stored.number c.args.weight)
    (is_lost code.data_shards code.levels code.parity_shards c.args.present.now) c.args.shards.now c.args.parity.now c.args.sums.now c.args.sums.now
    (sym c.is_lost.ensures ∙ c.if-is_lost.false) (omega (arith, c.if-q-code.false))
    (omega (arith, c.if-q-first.true, c.coefficient_count-first.ensures)) d

pub add_products-requires-2 : goal.add_products-requires-2
add_products-requires-2 g c =
    let strip = c.args.strip in
    let code = c.args.code.now in
    let late : 2 ^ code.levels ≤ c.args.q = omega (arith, c.if-q-first.false, c.coefficient_count-first.ensures) in
    let below = known_in_parity code.data_shards code.levels code.parity_shards c.args.present.now c.args.q (omega (arith, c.if-q-code.false)) late
    (sym c.is_lost.ensures ∙ c.if-is_lost.false) in
    let within = strip_within strip.size code.parity_shards (c.args.q - c.coefficient_count-first.result) strip.start strip.width
    (omega (arith, below, late, c.coefficient_count-first.ensures)) strip.inside in
    omega (arith, within, c.requires.parity_whole, c.requires.row)

pub overflow_mul-place-2 : goal.overflow_mul-place-2
overflow_mul-place-2 g c =
    let strip = c.args.strip in
    let code = c.args.code.now in
    let late : 2 ^ code.levels ≤ c.args.q = omega (arith, c.if-q-first.false, c.coefficient_count-first.ensures) in
    let below = known_in_parity code.data_shards code.levels code.parity_shards c.args.present.now c.args.q (omega (arith, c.if-q-code.false)) late
    (sym c.is_lost.ensures ∙ c.if-is_lost.false) in
    let within = strip_within strip.size code.parity_shards (c.args.q - c.coefficient_count-first.result) strip.start strip.width
    (omega (arith, below, late, c.coefficient_count-first.ensures)) strip.inside in
    omega (arith, within, c.requires.parity_whole)

pub overflow_add-place-2 : goal.overflow_add-place-2
overflow_add-place-2 g c =
    let strip = c.args.strip in
    let code = c.args.code.now in
    let late : 2 ^ code.levels ≤ c.args.q = omega (arith, c.if-q-first.false, c.coefficient_count-first.ensures) in
    let below = known_in_parity code.data_shards code.levels code.parity_shards c.args.present.now c.args.q (omega (arith, c.if-q-code.false)) late
    (sym c.is_lost.ensures ∙ c.if-is_lost.false) in
    let within = strip_within strip.size code.parity_shards (c.args.q - c.coefficient_count-first.result) strip.start strip.width
    (omega (arith, below, late, c.coefficient_count-first.ensures)) strip.inside in
    omega (arith, within, c.requires.parity_whole)

pub returns-clause-added : goal.returns-clause-added
returns-clause-added g c d inside =
    let code = c.args.code.now in
    let strip = c.args.strip in
    let number = g.R.Stored.number in
    let first = c.coefficient_count-first.ensures in
    let late : 2 ^ code.levels ≤ c.args.q = omega (arith, c.if-q-first.false, first) in
    let past : code.data_shards ≤ c.args.q = omega (arith, c.if-q-code.false) in
    let here = sym c.is_lost.ensures ∙ c.if-is_lost.false in
    let below = known_in_parity code.data_shards code.levels code.parity_shards c.args.present.now c.args.q past late here in
    adds_parity number g.R.Stored.ZERO g.R.Stored.zero_number g.L.Level.LEVEL code.data_shards code.levels code.parity_shards strip.size strip.start
    strip.width c.args.q (number c.args.weight) (is_lost code.data_shards code.levels code.parity_shards c.args.present.now) c.args.shards.now
    c.args.parity.now c.args.sums.now c.add_products-2.new.sums here past late below
    (subst (λ (f : ℕ). AreAddedProducts number g.R.Stored.ZERO g.L.Level.LEVEL (number c.args.weight) ((c.args.q - f) * strip.size + strip.start)
    strip.width c.args.parity.now c.args.sums.now c.add_products-2.new.sums) first
    (subst (λ (u : ℕ). AreAddedProducts number g.R.Stored.ZERO g.L.Level.LEVEL (number c.args.weight)
    ((c.args.q - c.coefficient_count-first.result) * strip.size + strip.start) u c.args.parity.now c.args.sums.now c.add_products-2.new.sums)
    c.requires.row c.add_products-2.ensures.added)) d inside
