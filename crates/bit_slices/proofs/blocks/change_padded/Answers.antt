use Rattle.std.proofs.Common.{◌≡◌, ◌<◌, ◌≤◌, ◌+◌, ◌-◌, ℕ, length, get_or, sym, ◌∙◌, ap, subst, arith}
use Rattle.bit_slices.proofs.blocks.change_padded.Goals as goal

pub returns : goal.returns
returns g c = (c.loop-place.invariant.0, c.loop-place.invariant.1, λ k past within d. done k past within d)
  where
    gives : ℕ → ℕ → ℕ → Type 0
    gives = g.O.Operation.gives c.args.others.now

    number : g.row.W.Denot → ℕ
    number = g.W.Reads.number

    done : (k : ℕ) → c.args.start ≤ k → k < length c.loop-place.words → (d : g.row.W.Denot)
        → gives k (number (get_or c.args.words.now k d)) (number (get_or c.loop-place.words k d))
    done k past within d =
        let n : ℕ = k - c.args.start in
        let below : k < length c.args.words.now = omega (arith, within, c.loop-place.invariant.0) in
        let lane : n < 128 = omega (arith, past, below, c.requires.few) in
        let place : c.args.start + n ≡ k = omega (arith, past) in
        let turn : k < c.loop-place.place = omega (arith, below, c.loop-place-test.false) in
        let same : k < length c.args.others.now → (e : g.row.W.Denot) → get_or c.padded-beside.result n e ≡ get_or c.args.others.now k e =
        λ inside e.
        ◌∙◌ {b = get_or c.args.others.now (c.args.start + n) e} (c.padded-beside.ensures n lane (omega (arith, place, inside)) e)
        (ap (λ (p : ℕ). get_or c.args.others.now p e) place) in
        let given = c.change_blocks.ensures.1 n (omega (arith, lane, c.requires.one)) d in
        let moved =
        g.met.O.Operation.place_law c.args.others.now c.padded-beside.result k n (c.requires.reaches k below) same
        (number (get_or c.padded-block.result n d)) (number (get_or c.change_blocks.new.words n d)) given in
        let before =
        ◌∙◌ {b = get_or c.args.words.now (c.args.start + n) d} (c.padded-block.ensures n lane (omega (arith, place, below)) d)
        (ap (λ (p : ℕ). get_or c.args.words.now p d) place) in
        subst (λ (w : g.row.W.Denot). gives k (number w) (number (get_or c.loop-place.words k d))) before
        (subst (λ (w : g.row.W.Denot). gives k (number (get_or c.padded-block.result n d)) (number w))
        (sym (c.loop-place.invariant.2 k past turn d)) moved)
