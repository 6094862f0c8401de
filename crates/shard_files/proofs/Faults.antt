-- Errors that are others.
use Rattle.std.proofs.Common.{◌≡◌, ◌≢◌, ◌⊎◌, inl, inr, sym, ◌∙◌, ap}
use Rattle.shard_files.specs.declared.error.JoinError.{JoinError}
use Rattle.shard_files.specs.declared.error.JoinError.TheVariants.{CannotWrite, Memory, TooFew}
use Rattle.shard_files.specs.declared.error.RepairError.TheVariants.{Join}

-- where a file cannot be written, or memory is refused, there are not too few shards
pub not_few : (error : JoinError) → (error ≡ CannotWrite) ⊎ (error ≡ Memory) → error ≢ TooFew
not_few error why is =
    elim why [
      | inl cannot ↦ writing (sym cannot ∙ is)
      | inr memory ↦ refused (sym memory ∙ is)
    ]
  where
    writing : CannotWrite ≡ TooFew → ⊥
    writing same = cc

    refused : Memory ≡ TooFew → ⊥
    refused same = cc

-- `not_few` for a repair that is refused memory
pub not_few_join : (error : JoinError) → error ≡ Memory → Join error ≢ Join TooFew
not_few_join error memory is = apart (ap (λ (e : JoinError). Join e) (sym memory) ∙ is)
  where
    apart : Join Memory ≡ Join TooFew → ⊥
    apart same = cc
