use Rattle.std.proofs.Common.{◌-◌, ◌*◌, ◌+◌, ◌<◌, ℕ, subst, sym, arith}
use Rattle.reed_solomon.specs.ByteFields.{byte_times}
use Rattle.error_codes.specs.Interleaved.{interleaved_word}
use Rattle.reed_solomon.proofs.ByteFields.{bytes_are_fields}
use Rattle.error_codes.proofs.CleanWords.{clean-settled}
use Rattle.error_codes.proofs.WordColumns.{word-at, word-length}
use Rattle.error_codes.proofs.code.CorrectingCode.settle_word.Goals as goal

pub returns-then-is_clean-clause-settled : goal.returns-then-is_clean-clause-settled
returns-then-is_clean-clause-settled c =
    let code = c.args.self.now in
    let n = code.word_length in
    let words = c.args.words.now in
    clean-settled (byte_times code.field) (bytes_are_fields code.field) code.root code.first_root n (n - code.dimension)
    (interleaved_word n c.args.depth words c.args.c) c.args.erasures.now code.scaled (word-length n c.args.depth words c.args.c)
    (λ i below.
    subst (λ (v : ℕ). v < 256) (sym (word-at n c.args.depth words c.args.c i below)) (let fits = c.type_inv.words (i * c.args.depth + c.args.c) in omega (arith, fits)))
    (c.requires.roots c.if-is_clean.true) (c.requires.few c.if-is_clean.true)
