use Rattle.std.proofs.Common.{◌≤◌, arith}
use Rattle.word_tables.proofs.DigitMaps.{sum_in_one_word, sum_in_two_words}
use Rattle.word_tables.proofs.linear.sum_of_values.Goals as goal

pub returns-then-digits-le16 : goal.returns-then-digits-le16
returns-then-digits-le16 c = sum_in_one_word c.args.digits c.args.values.now c.args.x c.sum_in_word.result c.sum_in_word.ensures

pub returns-else-digits-le16 : goal.returns-else-digits-le16
returns-else-digits-le16 c =
    let many : 16 ≤ c.args.digits = omega arith in
    sum_in_two_words c.args.digits c.args.values.now c.args.x c.sum_in_word-else-digits-le16.result c.sum_in_word-else-digits-le16-2.result many
    c.sum_in_word-else-digits-le16.ensures c.sum_in_word-else-digits-le16-2.ensures
