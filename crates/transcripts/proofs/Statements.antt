-- Statements of openings are told apart by the bytes that are observed.
use Rattle.std.proofs.Common.{◌≡◌, ℕ, List, ◌++◌, length, refl, sym, ◌∙◌}
use Rattle.std.specs.Int.{to_le_bytes, w64}
use Rattle.std.proofs.lemmas.List.{append_assoc}
use Rattle.transcripts.specs.Runs.{statement_bytes, StatementsDiffer}
use Rattle.transcripts.proofs.Binding.{back_same, front_same, words_same}

-- lists whose fronts have one length have the same fronts and the same rests
parts_same : (a b s t : List ℕ) → length a ≡ length b → a ++ s ≡ b ++ t → (a ≡ b) × (s ≡ t)
parts_same a b s t size same = (front_same a b s t size same, back_same s t a b size same)

-- a word has eight bytes
eight : (n m : ℕ) → length (to_le_bytes w64 n) ≡ length (to_le_bytes w64 m)
eight n m = refl

-- a statement in front of more bytes, part by part
apart : (depth bits : ℕ) (root rest : List ℕ)
    → statement_bytes depth bits root ++ rest ≡ to_le_bytes w64 depth ++ (to_le_bytes w64 bits ++ (root ++ rest))
apart depth bits root rest =
    append_assoc (to_le_bytes w64 depth ++ to_le_bytes w64 bits) root rest
    ∙ append_assoc (to_le_bytes w64 depth) (to_le_bytes w64 bits) (root ++ rest)

pub statements_differ : StatementsDiffer
statements_differ depth other_depth bits other_bits root other_root rest other_rest fits other_fits bits_fit other_bits_fit size other_size same =
    let first = parts_same (to_le_bytes w64 depth) (to_le_bytes w64 other_depth) (to_le_bytes w64 bits ++ (root ++ rest))
    (to_le_bytes w64 other_bits ++ (other_root ++ other_rest)) (eight depth other_depth)
    (sym (apart depth bits root rest) ∙ same ∙ apart other_depth other_bits other_root other_rest) in
    let second = parts_same (to_le_bytes w64 bits) (to_le_bytes w64 other_bits) (root ++ rest) (other_root ++ other_rest)
    (eight bits other_bits) first.1 in (
      words_same depth other_depth fits other_fits first.0,
      words_same bits other_bits bits_fit other_bits_fit second.0,
      front_same root other_root rest other_rest (size ∙ sym other_size) second.1,
    )
