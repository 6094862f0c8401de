use Rattle.prove_sums.proofs.tables.TableField.named.Goals as goal

pub returns-in-g128-clause-named : goal.returns-in-g128-clause-named
returns-in-g128-clause-named c = c.in-g128.is

pub returns-in-t8-clause-named : goal.returns-in-t8-clause-named
returns-in-t8-clause-named c = c.in-t8.is

pub returns-in-t16-clause-named : goal.returns-in-t16-clause-named
returns-in-t16-clause-named c = c.in-t16.is

pub returns-in-t32-clause-named : goal.returns-in-t32-clause-named
returns-in-t32-clause-named c = c.in-t32.is

pub returns-in-t64-clause-named : goal.returns-in-t64-clause-named
returns-in-t64-clause-named c = c.in-t64.is

pub returns-in-t128-clause-named : goal.returns-in-t128-clause-named
returns-in-t128-clause-named c = c.in-t128.is
