use Rattle.std.proofs.Common.{◌≡◌, ◌+◌, ◌≤◌, ℕ, List, Bool, length, take, refl, ap, ◌∙◌, subst, arith}
use Rattle.reed_solomon.specs.Shards.{present_count}
use Rattle.c_calls.specs.Bytes.{IsCode, flags_of}
use Rattle.c_calls.proofs.FactorsTold.{factors_told}
use Rattle.c_calls.proofs.shards.factors_of.Goals as goal

pub returns-in-Some : goal.returns-in-Some
returns-in-Some c =
    let code = c.in-Ok.code in
    let made = c.in-Ok.ensures.made in
    let all : ℕ = c.args.data + c.args.parity in
    let present = c.args.present.now in
    let is_code : IsCode c.args.data c.args.parity =
    (omega (arith, made.0, code.some_data), omega (arith, made.1, code.some_parity), omega (arith, made.0, made.1, code.few)) in
    let whole : c.total_shard_count-total.result ≡ all = c.total_shard_count-total.ensures ∙ (omega (arith, made.0, made.1)) in
    let flags : length present ≡ all = omega (arith, whole) in
    let seen : take c.total_shard_count-total.result c.flags_of-flags.result ≡ flags_of present =
    ap (λ (n : ℕ). take n c.flags_of-flags.result) (omega (arith, whole, flags)) ∙ c.flags_of-flags.ensures in
    let there = c.is_missing.ensures.0 c.if-not-is_missing.false in
    let enough : c.args.data ≤ present_count (flags_of present) =
    subst (λ (bits : List Bool). c.args.data ≤ present_count bits) seen (omega (arith, made.0, c.factors_of.ensures.enough.0 (rw c.in-Some.is refl))) in
    let written =
    factors_told code.data_shards c.args.data (code.data_shards + code.parity_shards) all _ (flags_of present) c.args.shard c.in-Some.found
    c.copy_from_slice.new.self made.0 (omega (arith, made.0, made.1)) seen (c.copy_from_slice.ensures.after ∙ ap (λ (n : ℕ). take n c.in-Some.found) whole) c.in-Some.ensures.made in
    record {
      code = λ none. absurd (none is_code);
      length = λ _ unfit. absurd (unfit (flags, omega (arith, whole), omega (arith, there.0, flags), there.1));
      few = λ _ _ few. absurd (few enough);
      ok = λ _ _ _. (refl, (written, omega (arith, whole, c.copy_from_slice.ensures.len)));
      kept = λ other. absurd (other refl);
    }
