use Rattle.std.proofs.Common.{◌≡◌, ◌+◌, ◌<◌, ℕ}
use Rattle.additive_transforms.specs.Words.{level_element}
use Rattle.reed_solomon.specs.Codes.{shard_symbol}
use Rattle.reed_solomon.proofs.comparing.are_of_strip.Given as goal

-- the rows so far are
abbrev pub invariant-loop-i : goal.invariant-loop-i
invariant-loop-i g l =
    let element = level_element g.R.Stored.number g.L.Level.LEVEL in
    (i c : ℕ) → i < l.i → c < l.strip.width → shard_symbol element g.R.Stored.ZERO l.strip.size l.shards (l.strip.start + c) i
    ≡ shard_symbol element g.R.Stored.ZERO l.strip.width l.symbols c i
