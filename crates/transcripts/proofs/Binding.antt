-- Two openings of one root that begin with different inputs have a collision on the way.
use Rattle.std.proofs.Common.{◌≡◌, ◌≢◌, ℕ, suc, ◌/◌, ◌%◌, ◌^◌, ◌<◌, Bool, true, false, List, [], ◌∷◌, ◌++◌, length, take, drop, cond, Decides, refl, sym, ◌∙◌, ap, arith}
use Rattle.std.specs.Prelude.{nat_eq}
use Rattle.std.specs.Int.{from_le_bytes, to_le_bytes, w64}
use Rattle.std.proofs.lemmas.Bool.{false≢true}
use Rattle.std.proofs.lemmas.Nat.{from_le_bytes-to_le_bytes_8}
use Rattle.std.proofs.lemmas.Slice.Eq.{bytes_eq-Decides}
use Rattle.std.proofs.Math.Seq.{drop-append_seam, take-append_seam}
use Rattle.transcripts.specs.MerkleTrees.{CapsBind, ending, HaveCollision, HaveDigestSize, inputs, node_input, pair_input, PathsBind, row_input, RowCapsBind, RowPathsBind}

-- ---- inputs tell what they are made of

-- the rest of a list
abbrev tail : List ℕ → List ℕ
tail bytes = drop 1 bytes

-- lists of one length in front of others
pub front_same : (a b s t : List ℕ) → length a ≡ length b → a ++ s ≡ b ++ t → a ≡ b
front_same a b s t size same =
    sym (take-append_seam a s) ∙ ap (λ (n : ℕ). take n (a ++ s)) size ∙ ap (take (length b)) same ∙ take-append_seam b t

-- and behind
pub back_same : (a b s t : List ℕ) → length s ≡ length t → s ++ a ≡ t ++ b → a ≡ b
back_same a b s t size same =
    sym (drop-append_seam s a) ∙ ap (λ (n : ℕ). drop n (s ++ a)) size ∙ ap (drop (length t)) same ∙ drop-append_seam t b

-- nodes with the same input at the same place have the same child there
pair_same : (size place : ℕ) (a b s t : List ℕ) → length a ≡ size → length b ≡ size → length s ≡ size → length t ≡ size
    → pair_input place a s ≡ pair_input place b t → a ≡ b
pair_same size place a b s t a_size b_size s_size t_size = pick (nat_eq (place % 2) 0)
  where
    pick : (even : Bool) → cond even (node_input a s) (node_input s a) ≡ cond even (node_input b t) (node_input t b) → a ≡ b
    pick true same = front_same a b s t (a_size ∙ sym b_size) (ap tail same)
    pick false same = back_same a b s t (s_size ∙ sym t_size) (ap tail same)

-- words with the same bytes are the same
pub words_same : (word other : ℕ) → word < 2 ^ 64 → other < 2 ^ 64 → to_le_bytes w64 word ≡ to_le_bytes w64 other → word ≡ other
words_same word other word_fits other_fits same =
    sym (from_le_bytes-to_le_bytes_8 word word_fits) ∙ ap (from_le_bytes w64) same ∙ from_le_bytes-to_le_bytes_8 other other_fits

-- ---- the way up

module _ (hash : List ℕ → List ℕ) (size : ℕ) (whole : (bytes : List ℕ) → length (hash bytes) ≡ size) where
  climb : (path other_path : List (List ℕ)) (place : ℕ) (one other : List ℕ) → length path ≡ length other_path
      → HaveDigestSize size path → HaveDigestSize size other_path → one ≢ other
      → ending hash place (hash one) path ≡ ending hash place (hash other) other_path → HaveCollision hash place one other path other_path
  unfolding inputs ending
  climb [] [] place one other count sizes other_sizes differ same = (0, (differ, same))
  climb [] (t ∷ other_path) place one other count sizes other_sizes differ same = absurd (omega arith)
  climb (s ∷ path) [] place one other count sizes other_sizes differ same = absurd (omega arith)
  climb (s ∷ path) (t ∷ other_path) place one other count sizes other_sizes differ same =
      pick _ (bytes_eq-Decides (hash one) (hash other))
      (λ differ_above.
      climb path other_path (place / 2) (pair_input place (hash one) s) (pair_input place (hash other) t) (omega (arith, count))
      (λ k within. sizes (suc k) (omega (arith, within))) (λ k within. other_sizes (suc k) (omega (arith, within))) differ_above same)
    where
      above_differ : (hash one ≡ hash other → ⊥) → pair_input place (hash one) s ≢ pair_input place (hash other) t
      above_differ apart alike =
          apart (pair_same size place (hash one) (hash other) s t (whole one) (whole other) (sizes 0 (omega arith)) (other_sizes 0 (omega arith)) alike)

      pick : (are : Bool) → Decides are (hash one ≡ hash other)
          → (pair_input place (hash one) s ≢ pair_input place (hash other) t
          → HaveCollision hash (place / 2) (pair_input place (hash one) s) (pair_input place (hash other) t) path other_path)
          → HaveCollision hash place one other (s ∷ path) (t ∷ other_path)
      pick true decides further = (0, (differ, decides.0 refl))
      pick false decides further =
          let above = further (above_differ (λ alike. false≢true (decides.1 alike))) in
          (suc above.0, above.1)

-- paths from different rows to one root have a collision
pub row_paths_bind : RowPathsBind
row_paths_bind depth root hash size whole index row other path other_path differ sizes other_sizes leads other_leads =
    climb hash size whole path other_path index (row_input row) (row_input other) (leads.whole ∙ sym other_leads.whole) sizes other_sizes
    (λ same. differ (ap tail same)) (leads.ends ∙ sym other_leads.ends)

-- and so have paths to one cap
pub row_caps_bind : RowCapsBind
row_caps_bind levels cap hash size whole index row other path other_path differ sizes other_sizes leads other_leads =
    climb hash size whole path other_path index (row_input row) (row_input other) (leads.whole ∙ sym other_leads.whole) sizes other_sizes
    (λ same. differ (ap tail same)) (leads.ends ∙ sym other_leads.ends)

-- words are rows of eight bytes
pub paths_bind : PathsBind
paths_bind hash size whole depth root index word other path other_path word_fits other_fits differ =
    row_paths_bind depth root hash size whole index (to_le_bytes w64 word) (to_le_bytes w64 other) path other_path
    (λ same. differ (words_same word other word_fits other_fits same))

pub caps_bind : CapsBind
caps_bind hash size whole levels cap index word other path other_path word_fits other_fits differ =
    row_caps_bind levels cap hash size whole index (to_le_bytes w64 word) (to_le_bytes w64 other) path other_path
    (λ same. differ (words_same word other word_fits other_fits same))
