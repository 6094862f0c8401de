use Rattle.std.proofs.Common.{◌≡◌, ◌*◌, ℕ, ap, arith}
use Rattle.shard_files.specs.Stripes.{stripe_width}
use Rattle.shard_files.proofs.Positions.{begins}
use Rattle.shard_files.proofs.layout.Layout.stripe_length.Goals as goal

pub overflow_mul-left : goal.overflow_mul-left
overflow_mul-left c =
    let layout = c.args.self.now in
    let same : c.args.stripe * c.width-width.result ≡ c.args.stripe * stripe_width layout.origin = ap (λ (n : ℕ). c.args.stripe * n) c.width-width.ensures in
    omega (arith, same, begins layout.origin layout.possible c.args.stripe c.requires, layout.possible.small_length)

pub overflow_sub-left : goal.overflow_sub-left
overflow_sub-left c =
    let layout = c.args.self.now in
    let same : c.args.stripe * c.width-width.result ≡ c.args.stripe * stripe_width layout.origin = ap (λ (n : ℕ). c.args.stripe * n) c.width-width.ensures in
    omega (arith, same, begins layout.origin layout.possible c.args.stripe c.requires)
