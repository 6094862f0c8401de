use Rattle.std.proofs.Common.{◌≡◌, ◌≤◌, ◌*◌, ◌^◌, ◌+◌, ℕ, ◌<◌, true, false, List, ◌++◌, length, lit<, ◌∙◌, ap, subst, arith, mul-le-mul_right}
use Rattle.std.specs.Prelude.{slice_index}
use Rattle.std.proofs.Math.Nat.{pow-le-pow_right}
use Rattle.additive_transforms.specs.Words.{level_element}
use Rattle.reed_solomon.specs.Columns.{AreRowProducts}
use Rattle.reed_solomon.specs.Restoring.{is_lost, word_at}
use Rattle.reed_solomon.proofs.MendedColumns.{data_restored, parity_restored}
use Rattle.reed_solomon.proofs.DerivedColumns.{derived_front}
use Rattle.reed_solomon.proofs.RestoredColumns.{known_words, restored_front}
use Rattle.reed_solomon.proofs.restoring.restore_strip.Goals as goal

pub split_at_mut-symbols-requires : goal.split_at_mut-symbols-requires
split_at_mut-symbols-requires g c =
    let r = c.args.code.now.all_levels in
    let width = c.args.strip.width in
    let fewer : c.levels_of-reach.result ≤ r =
    c.levels_of-reach.ensures.padded.least r (omega (arith, c.places_to_last.ensures.few, c.requires.fit.room)) in
    let more : 2 ^ c.levels_of-reach.result * width ≤ 2 ^ r * width = mul-le-mul_right width (pow-le-pow_right (lit< tt) fewer) in
    let long : length c.inverse_known.new.words ≡ 2 ^ r * width =
    c.inverse_known.ensures.length ∙ c.multiply_rows.ensures.long ∙ c.read_strip.ensures.long ∙ c.requires.rows in
    omega (arith, c.derive_first-words.ensures.words, c.derive_first-words.ensures.long, long, more)

pub returns-clause-restored : goal.returns-clause-restored
returns-clause-restored g c =
    λ o inside symbol word_parity word data_known parity_known.
    let level = g.L.Level.LEVEL in
    let number = g.R.Stored.number in
    let zero = g.R.Stored.ZERO in
    let element = level_element number level in
    let code = c.args.code.now in
    let k = code.data_shards in
    let n = code.levels in
    let m = code.parity_shards in
    let r = code.all_levels in
    let strip = c.args.strip in
    let size = strip.size in
    let start = strip.start in
    let width = strip.width in
    let present = c.args.present.now in
    let shards = c.args.shards.now in
    let parity = c.args.parity.now in
    let factors = c.args.factors.now in
    let words = c.read_strip.new.values in
    let products = c.multiply_rows.new.values in
    let first = c.inverse_known.new.words in
    let reach = c.levels_of-reach.result in
    let halves = c.split_at_mut-symbols in
    let slopes = halves.result.0.now in
    let others = halves.result.1.now in
    let values = c.forward_strip.new.words in
    let symbols = c.multiply_rows-2.new.values in
    let lost = is_lost k n m present in
    let room = c.requires.fit.room in
    let fewer : reach ≤ r = c.levels_of-reach.ensures.padded.least r (omega (arith, c.places_to_last.ensures.few, room)) in
    let words_long : length words ≡ 2 ^ r * width = c.read_strip.ensures.long ∙ c.requires.rows in
    let products_long : length products ≡ 2 ^ r * width = c.multiply_rows.ensures.long ∙ words_long in
    let first_long : length first ≡ 2 ^ r * width = c.inverse_known.ensures.length ∙ products_long in
    let slopes_long : length slopes ≡ 2 ^ reach * width = halves.ensures.front_len ∙ c.derive_first-words.ensures.words in
    let slopes_are = derived_front number zero r reach width first c.derive_first-words.new.values slopes others c.derive_first-words.ensures.derived
    halves.ensures.value slopes_long in
    let values_long : length values ≡ 2 ^ reach * width = c.forward_strip.ensures.length ∙ slopes_long in
    let nothing : number c.ZERO.result ≡ 0 = ap number c.ZERO.ensures ∙ g.R.Stored.zero_number in
    let nothing_too : number c.ZERO-2.result ≡ 0 = ap number c.ZERO-2.ensures ∙ g.R.Stored.zero_number in
    let padded : k ≤ 2 ^ n = code.padded.enough in
    let restored = restored_front number zero g.R.Stored.zero_number level k n m r present g.L.Level.few c.requires.fit.points c.requires.fit.enough
    (slice_index word.coefficients) width o reach fewer inside (word_at zero k n m size (start + o) shards parity) factors words products first slopes
    values symbols (number c.ZERO.result) (number c.ZERO-2.result) nothing nothing_too c.requires.fit.all products_long first_long slopes_long
    values_long (λ p below. c.read_strip.ensures.words p o below inside)
    (subst (λ (q : ℕ). AreRowProducts number zero level width q lost false factors words products) c.point_count-count.ensures
    c.multiply_rows.ensures.products)
    (c.inverse_known.ensures.coefficients o inside).have slopes_are (c.forward_strip.ensures.values o inside)
    (subst (λ (q : ℕ). AreRowProducts number zero level width q lost true factors values symbols) c.power_of-rows.ensures.power
    c.multiply_rows-2.ensures.products)
    (λ p below known.
    known_words number zero g.R.Stored.zero_number level k n m size (start + o) present shards parity symbol word_parity word data_known
    parity_known padded p known)
    others c.multiply_rows-2.ensures.long in
    let reached : (p : ℕ) → p < 2 ^ n + m → lost p ≡ true → p < 2 ^ reach =
    λ p within absent.
    let before = c.places_to_last.ensures.all p within absent in
    omega (arith, before, c.levels_of-reach.ensures.padded.enough) in
    let all : List _ = symbols ++ others in (
      data_restored element zero level n k m size start width o (2 ^ n) present shards parity c.mend.new.shards c.mend-2.new.shards all
          symbol word_parity word strip.inside inside padded (omega arith)
          (λ p within absent. restored p (reached p within absent) absent) data_known c.mend.ensures.mended,
      parity_restored element zero level n k m size start width o c.coefficient_count-first.result present shards parity c.mend.new.shards
          c.mend-2.new.shards all symbol word_parity word strip.inside inside padded c.coefficient_count-first.ensures
          (λ p within absent. restored p (reached p within absent) absent) parity_known c.mend-2.ensures.mended,
    )
