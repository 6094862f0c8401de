-- The number so far, and the digits that follow it, write the number of all.
use Rattle.std.proofs.Common.{◌≡◌, ◌<◌, ◌^◌, drop}
use Rattle.calculator.specs.Digits.{decimal_after}
use Rattle.calculator.proofs.chosen.decimal_value.Given as goal

abbrev pub invariant-loop-character : goal.invariant-loop-character
invariant-loop-character l = record {
  fits : l.number < 10 ^ l.character-index;
  rest : decimal_after l.number (drop l.character-index l.word) ≡ decimal_after 0 l.word;
}
