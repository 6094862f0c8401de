use Rattle.std.proofs.Common.{ℕ, length, subst}
use Rattle.bits_packed.specs.Rounds.{AreRounds}
use Rattle.bits_packed.proofs.Rounds.{rounds_from}
use Rattle.bits_packed.proofs.packed.transpose.rounds_of_constant.Goals as goal

pub rounds-requires : goal.rounds-requires
rounds-requires g c = subst (λ (s : ℕ). AreRounds g.U.Underlier.BITS c.args.count s (length c.args.rows.now)) c.in-1.is c.requires

pub rounds-requires-in-8 : goal.rounds-requires-in-8
rounds-requires-in-8 g c = subst (λ (s : ℕ). AreRounds g.U.Underlier.BITS c.args.count s (length c.args.rows.now)) c.in-8.is c.requires

pub rounds-requires-in-16 : goal.rounds-requires-in-16
rounds-requires-in-16 g c = subst (λ (s : ℕ). AreRounds g.U.Underlier.BITS c.args.count s (length c.args.rows.now)) c.in-16.is c.requires

pub rounds-requires-in-64 : goal.rounds-requires-in-64
rounds-requires-in-64 g c = subst (λ (s : ℕ). AreRounds g.U.Underlier.BITS c.args.count s (length c.args.rows.now)) c.in-64.is c.requires

pub rounds-requires-in-128 : goal.rounds-requires-in-128
rounds-requires-in-128 g c = subst (λ (s : ℕ). AreRounds g.U.Underlier.BITS c.args.count s (length c.args.rows.now)) c.in-128.is c.requires

pub returns-in-1 : goal.returns-in-1
returns-in-1 g c = rounds_from g.U.Underlier.BITS c.args.count c.args.block 1 _ _ c.in-1.is c.rounds.ensures

pub returns-in-8 : goal.returns-in-8
returns-in-8 g c = rounds_from g.U.Underlier.BITS c.args.count c.args.block 8 _ _ c.in-8.is c.rounds-in-8.ensures

pub returns-in-16 : goal.returns-in-16
returns-in-16 g c = rounds_from g.U.Underlier.BITS c.args.count c.args.block 16 _ _ c.in-16.is c.rounds-in-16.ensures

pub returns-in-64 : goal.returns-in-64
returns-in-64 g c = rounds_from g.U.Underlier.BITS c.args.count c.args.block 64 _ _ c.in-64.is c.rounds-in-64.ensures

pub returns-in-128 : goal.returns-in-128
returns-in-128 g c = rounds_from g.U.Underlier.BITS c.args.count c.args.block 128 _ _ c.in-128.is c.rounds-in-128.ensures
