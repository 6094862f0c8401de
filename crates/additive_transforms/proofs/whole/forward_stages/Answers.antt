use Rattle.std.proofs.Common.{◌≡◌, ℕ, ◌+◌, ◌-◌, ◌*◌, ◌^◌, ◌<◌, ◌≤◌, length, map, sym, ◌∙◌, ap, arith}
use Rattle.std.proofs.lemmas.List.{length-map}
use lib.Seq.{length-take-le}
use Rattle.ghash_slices.specs.Twiddles.{basis_of}
use Rattle.additive_transforms.proofs.Counts.{block_count, low_counted, low_room, two_halves, whole_blocks}
use Rattle.additive_transforms.proofs.StagesFrom.{forward_leaves}
use Rattle.additive_transforms.proofs.whole.forward_stages.Goals as goal

pub low_forward-requires-clause-whole : goal.low_forward-requires-clause-whole
low_forward-requires-clause-whole g c =
    whole_blocks c.args.stages 3 (length c.upper_stages.new.values) (omega arith) (c.upper_stages.ensures.length ∙ c.requires.stages.1)

pub low_forward-requires-clause-numbered : goal.low_forward-requires-clause-numbered
low_forward-requires-clause-numbered g c some =
    let m = c.args.stages in
    let above : 3 < m = omega arith in
    let few : m - 1 ≤ length c.args.twiddles.now.basis = omega (arith, c.args.twiddles.now.reach, c.requires.stages.0) in
    let elements = ap length c.requires.basis ∙ length-take-le (m - 1) c.args.twiddles.now.basis few in
    let same : length (basis_of c.args.low.now) - 3 ≡ m - 4 = omega (arith, elements) in
    let runs = block_count m 3 (length c.upper_stages.new.values) above (c.upper_stages.ensures.length ∙ c.requires.stages.1)
    ∙ ap (λ (n : ℕ). 2 ^ n) (sym same) in
    omega (arith, runs)

pub low_forward-requires-clause-room : goal.low_forward-requires-clause-room
low_forward-requires-clause-room g c =
    let m = c.args.stages in
    let above : 0 < m = omega arith in
    let twice = two_halves m above in
    let is = c.upper_stages.ensures.length ∙ c.requires.stages.1 in
    let room = low_room (g.K.Kernel.count c.args.kernel.now) (g.K.Kernel.count c.upper_stages.new.kernel) m (2 ^ (m - 1)) c.requires.enough
    c.requires.room
    c.upper_stages.ensures.count in
    omega (arith, room, twice, is)

pub returns-clause-values : goal.returns-clause-values
returns-clause-values g c =
    let value = g.K.Kernel.value in
    let upper = c.upper_stages.new.values in
    let twiddles = c.args.twiddles.now in
    forward_leaves twiddles.shifts twiddles.basis twiddles.z twiddles.are twiddles.reach c.args.stages c.requires.stages.0 c.requires.enough _ _ (map value c.args.values.now) (map value upper) _ c.requires.shifts c.requires.basis
    (length-map c.args.values.now value ∙ c.requires.stages.1)
    (length-map upper value ∙ c.upper_stages.ensures.length ∙ c.requires.stages.1) c.upper_stages.ensures.left c.low_forward.ensures.sums

pub returns-clause-count : goal.returns-clause-count
returns-clause-count g c =
    let m = c.args.stages in
    let above : 0 < m = omega arith in
    let twice = two_halves m above in
    let is = c.upper_stages.ensures.length ∙ c.requires.stages.1 in
    let four : 2 * length c.upper_stages.new.values ≡ 4 * 2 ^ (m - 1) = omega (arith, twice, is) in
    low_counted (g.K.Kernel.count c.args.kernel.now) (g.K.Kernel.count c.upper_stages.new.kernel) _ m (2 ^ (m - 1)) c.requires.enough
    c.upper_stages.ensures.count
    (c.low_forward.ensures.count ∙ ap (λ (n : ℕ). g.K.Kernel.count c.upper_stages.new.kernel + n) four)
