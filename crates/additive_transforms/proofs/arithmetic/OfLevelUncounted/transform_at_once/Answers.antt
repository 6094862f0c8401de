use Rattle.std.proofs.Common.{◌≡◌, ℕ, ◌^◌, ◌∙◌, ap, arith}
use Rattle.std.proofs.lemmas.Nat.{pow_pos}
use native.Mathlib.Nat.{mod-lt}
use Rattle.field_base.specs.Tower.{tower_mul}
use Rattle.field_base.proofs.TowerRing.{tower_ring}
use Rattle.additive_transforms.specs.lemmas.LevelVector.{level_vectors}
use Rattle.additive_transforms.specs.Words.{cantor_vector, level_element}
use Rattle.additive_transforms.proofs.LaneWords.{four_bytes, two_bytes}
use Rattle.additive_transforms.proofs.StagesFrom.{all_from}
use Rattle.additive_transforms.proofs.SubspaceSteps.{first_subspace_value}
use Rattle.additive_transforms.proofs.arithmetic.OfLevelUncounted.transform_at_once.Goals as goal

pub transform_lanes_16-requires-clause-words : goal.transform_lanes_16-requires-clause-words
transform_lanes_16-requires-clause-words g c =
    let six : c.args.stages ≡ 6 = omega arith in
    c.requires.stages.1 ∙ ap (λ (e : ℕ). 2 ^ e) six

pub transform_lanes_32-requires-clause-words : goal.transform_lanes_32-requires-clause-words
transform_lanes_32-requires-clause-words g c =
    let six : c.args.stages ≡ 6 = omega arith in
    c.requires.stages.1 ∙ ap (λ (e : ℕ). 2 ^ e) six

pub transform_lanes_16-requires-clause-size : goal.transform_lanes_16-requires-clause-size
transform_lanes_16-requires-clause-size g c =
    let eight : c.in_sixteen.result ≡ 8 = omega arith in
    two_bytes g.W.WordBytes.size c.in_sixteen.result c.in_sixteen.ensures.bytes eight

pub transform_lanes_32-requires-clause-size : goal.transform_lanes_32-requires-clause-size
transform_lanes_32-requires-clause-size g c =
    let four : c.in_sixteen-then-LEVEL-eq5.result ≡ 4 = omega arith in
    four_bytes g.W.WordBytes.size c.in_sixteen-then-LEVEL-eq5.result c.in_sixteen-then-LEVEL-eq5.ensures.bytes four

pub returns-clause-values : goal.returns-clause-values
returns-clause-values g c =
    let z = g.R.Stored.number c.args.z in
    let k = g.L.Level.LEVEL in
    all_from cantor_vector (tower_ring k) (level_element g.W.Reads.number k) (λ x. mod-lt (g.W.Reads.number x) (pow_pos (2 ^ k))) z
    c.requires.few (pow_pos k) (level_vectors k g.L.Level.few) c.args.values.now c.stages_from.new.values
    c.requires.stages.1 (c.stages_from.ensures.length ∙ c.requires.stages.1) c.args.inverse
    (c.stages_from.ensures.stages z (first_subspace_value (tower_mul k) z))
