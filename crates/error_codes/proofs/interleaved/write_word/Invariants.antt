use Rattle.error_codes.proofs.WordColumns.{WordWritten}
use Rattle.error_codes.proofs.interleaved.write_word.Given as goal

abbrev pub invariant-loop-i : goal.invariant-loop-i
invariant-loop-i l = WordWritten l.depth l.c l.word l.initial.symbols l.symbols l.i
