use Rattle.std.proofs.Common.{◌≡◌, ℕ, ◌+◌, ◌*◌, ◌/◌, ◌≤◌, List, get_or, length, map, sym, ◌∙◌, ap, ap₂, subst, arith}
use Rattle.std.specs.Prelude.{slice_index}
use Rattle.std.specs.Simd.Lanes.{zip2}
use Rattle.std.proofs.Math.ListN.{set}
use Rattle.std.proofs.lemmas.List.{length-map}
use Rattle.ghash_slices.specs.Blocks.{HoldsPlaces}
use Rattle.ghash_slices.specs.LowStages.{ghash_product}
use Rattle.ghash_slices.proofs.SliceBlocks.{held_zip2, none_held, pair_written, then_held}
use Rattle.ghash_slices.specs.Fours.{product_at}
use Rattle.many_words.proofs.lanes.multiply_each.Goals as goal

pub fours-init : goal.fours-init
fours-init g c =
    let old = map g.W.Reads.number c.args.words.now in none_held (product_at old (map g.W.Reads.number c.args.others.now)) 0 old

pub fours-preserved : goal.fours-preserved
fours-preserved g c =
    let old = map g.W.Reads.number c.args.words.now in
    let others = map g.W.Reads.number c.args.others.now in
    let at : ℕ = 4 * c.fours.four in
    let long = length-map c.fours.words g.W.Reads.number in
    let long' = length-map c.put_number-in-fours.new.words g.W.Reads.number in
    let next : at + 2 + 2 ≡ 4 * (c.fours.four + 1) = omega arith in
    let products = c.multiply_four-products in
    let behind = c.fours.invariant.behind in
    let are = products.ensures ∙ ap₂ (zip2 ghash_product) c.four_at.ensures c.four_at-in-fours.ensures in
    let first : at ≤ at = omega arith in
    let second : at ≤ at + 1 = omega arith in
    let third : at ≤ at + 2 = omega arith in
    let fourth : at ≤ at + 2 + 1 = omega arith in
    let two : at + 2 + 1 ≡ at + 3 = omega arith in
    subst (λ (n : ℕ). HoldsPlaces (product_at old others) 0 n old (map g.W.Reads.number c.put_number-in-fours-3.new.words)) next
    (pair_written (product_at old others) 0 (at + 2) old (map g.W.Reads.number c.put_number-in-fours.new.words)
    (map g.W.Reads.number c.put_number-in-fours-2.new.words) (map g.W.Reads.number c.put_number-in-fours-3.new.words) _ _ (omega arith)
    (omega (arith, long', c.put_number-in-fours.auto.words, c.put_number.auto.words))
    c.put_number-in-fours-2.ensures
    (ap (λ (l : List ℕ). get_or l 2 0) are ∙ ap (λ (x : ℕ). ghash_product x (slice_index others (at + 2))) (behind (at + 2) third))
    (c.put_number-in-fours-3.ensures
    ∙ ap (λ (n : ℕ). set (map g.W.Reads.number c.put_number-in-fours-2.new.words) n (slice_index products.result 3)) (sym two))
    (ap (λ (l : List ℕ). get_or l 3 0) are
    ∙ ap (λ (n : ℕ). ghash_product (slice_index (map g.W.Reads.number c.fours.words) n) (slice_index others n)) (sym two)
    ∙ ap (λ (x : ℕ). ghash_product x (slice_index others (at + 2 + 1))) (behind (at + 2 + 1) fourth))
    (pair_written (product_at old others) 0 at old (map g.W.Reads.number c.fours.words) (map g.W.Reads.number c.put_number.new.words)
    (map g.W.Reads.number c.put_number-in-fours.new.words) _ _ (omega arith) (omega (arith, long)) c.put_number.ensures
    (ap (λ (l : List ℕ). get_or l 0 0) are ∙ ap (λ (x : ℕ). ghash_product x (slice_index others at)) (behind at first))
    c.put_number-in-fours.ensures
    (ap (λ (l : List ℕ). get_or l 1 0) are ∙ ap (λ (x : ℕ). ghash_product x (slice_index others (at + 1))) (behind (at + 1) second))
    c.fours.invariant))

pub returns : goal.returns
returns g c =
    let old = map g.W.Reads.number c.args.words.now in
    let now = map g.W.Reads.number c.fours.words in
    let others = map g.W.Reads.number c.args.others.now in
    let new = map g.W.Reads.number c.multiply_by_pairs.new.words in
    let long = length-map c.args.words.now g.W.Reads.number in
    let long_now = length-map c.fours.words g.W.Reads.number in
    let same = c.fours.invariant.same_length in
    let done : 4 * c.fours.four ≡ 4 * (length c.args.words.now / 4) = omega arith in
    let all : length c.fours.words ≡ length c.args.words.now = omega (arith, long, long_now, same) in
    held_zip2 ghash_product (length c.args.words.now) old others new (long ∙ c.requires ∙ sym (length-map c.args.others.now g.W.Reads.number))
    (omega (arith, long))
    (then_held (product_at old others) (product_at now others) 0 (4 * (length c.args.words.now / 4)) (length c.args.words.now) old now new
    (omega arith) (omega arith)
    (λ p later. ap (λ (x : ℕ). ghash_product x (slice_index others p)) (c.fours.invariant.behind p (omega (arith, done))))
    (subst (λ (n : ℕ). HoldsPlaces (product_at old others) 0 n old now) done c.fours.invariant)
    (subst (λ (n : ℕ). HoldsPlaces (product_at now others) (4 * (length c.args.words.now / 4)) n now new) all c.multiply_by_pairs.ensures))
