use Rattle.std.proofs.Common.{sym, subst}
use Rattle.word_carryless.specs.Masked.{IsInClass}
use Rattle.word_carryless.proofs.CarryIsolation.{kept_bits}
use Rattle.word_carryless.proofs.ClassMasks.{class-mask}
use Rattle.word_carryless.proofs.masked.word_of_class.Goals as goal

pub returns-clause-bits : goal.returns-clause-bits
returns-clause-bits c = kept_bits c.args.i c.args.word c.requires

pub returns-clause-class : goal.returns-clause-class
returns-clause-class c =
    subst (IsInClass c.args.i) (sym (kept_bits c.args.i c.args.word c.requires)) (class-mask c.args.i c.args.word)
