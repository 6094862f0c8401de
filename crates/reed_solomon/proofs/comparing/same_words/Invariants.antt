use Rattle.std.proofs.Common.{◌≡◌, ◌+◌, ◌<◌, ℕ, slice_index_or}
use Rattle.additive_transforms.specs.Words.{level_element}
use Rattle.reed_solomon.proofs.comparing.same_words.Given as goal

-- the words so far have
abbrev pub invariant-loop-c : goal.invariant-loop-c
invariant-loop-c g l =
    let element = level_element g.R.Stored.number g.L.Level.LEVEL in
    (c : ℕ) → c < l.c
    → element (slice_index_or l.other (l.place + c) g.R.Stored.ZERO) ≡ element (slice_index_or l.one (l.from + c) g.R.Stored.ZERO)
