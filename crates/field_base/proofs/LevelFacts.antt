-- The laws of a field, each by its induction on the level.
use Rattle.field_base.specs.TowerField.{NoLevelHasARoot, NonzeroHasInverse, RootInverse, TowerIsField, TracesAreOne}
use Rattle.field_base.proofs.TowerTraces.{tower_inverses, tower_no_root, root_inverse_is, traces_are_one}
use Rattle.field_base.proofs.TowerLaws.{tower_field}

pub record TowerFacts : Type 0 where
  -- every nonzero element has an inverse
  pub inverses : NonzeroHasInverse
  -- X² + t X + 1 has no root at the level that it extends
  pub no_root : NoLevelHasARoot
  -- X + t is the inverse of the root X
  pub root_inverses : RootInverse
  -- the trace of every adjoined root is 1
  pub traces : TracesAreOne
  -- every level is a field
  pub field : TowerIsField

-- the laws hold at every level
pub tower_facts : TowerFacts
tower_facts = record { inverses = tower_inverses; no_root = tower_no_root; root_inverses = root_inverse_is; traces = traces_are_one; field = tower_field }
