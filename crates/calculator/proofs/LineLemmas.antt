-- The lines of bytes that are cut at a line feed, and the answers to them.
use Rattle.std.proofs.Common.{◌≡◌, ◌≢◌, ℕ, List, [], ◌∷◌, ◌++◌, refl, sym, ap, ◌∙◌, append_assoc, append-nil, ⊎_elim, ◌<◌, length, arith}
use Rattle.std.specs.Prelude.{All}
use Rattle.std.specs.List.{onto_first}
use Rattle.std.proofs.lemmas.Bool.{eq-eqb, ne_eqb, cond-true, cond-false, cases_eq}
use Rattle.std.proofs.lemmas.List.Elements.{All-nil, All-cons, All-head, All-tail}
use Rattle.std.proofs.lemmas.List.Concat.{flat_map-append}
use Rattle.calculator.specs.Answer.{answer_of}
use Rattle.calculator.specs.Lines.{lines, unlines, IsLine, onto_some, finished, closed, answers_to, answers, AreLinesOf, IsFinished}

-- ---- one byte more in front

-- no bytes have no lines
lines-nil : lines [] ≡ []
unfolding lines
lines-nil = refl

-- a line feed in front is an empty line more
lines-feed : (b : ℕ) (bs : List ℕ) → b ≡ 10 → lines (b ∷ bs) ≡ [] ∷ lines bs
unfolding lines
lines-feed b bs feed = cond-true _ _ _ (eq-eqb b 10 feed)

-- another byte in front belongs to the first line
lines-other : (b : ℕ) (bs : List ℕ) → b ≢ 10 → lines (b ∷ bs) ≡ onto_first b (lines bs)
unfolding lines
lines-other b bs other = cond-false _ _ _ (ne_eqb b 10 other)

-- of no bytes none have ended
finished-nil : finished [] ≡ []
unfolding finished
finished-nil = refl

-- a line feed in front has ended
finished-feed : (b : ℕ) (bs : List ℕ) → b ≡ 10 → finished (b ∷ bs) ≡ b ∷ finished bs
unfolding finished
finished-feed b bs feed = cond-true _ _ _ (eq-eqb b 10 feed)

-- another byte in front has ended if any byte after it has
finished-other : (b : ℕ) (bs : List ℕ) → b ≢ 10 → finished (b ∷ bs) ≡ onto_some b (finished bs)
unfolding finished
finished-other b bs other = cond-false _ _ _ (ne_eqb b 10 other)

-- ---- a line in front

-- a line that ends is the first of the lines
pub lines-line : (line rest : List ℕ) → IsLine line → lines (line ++ 10 ∷ rest) ≡ line ∷ lines rest
lines-line [] rest is_line = lines-feed 10 rest refl
lines-line (b ∷ bs) rest is_line =
    lines-other b (bs ++ 10 ∷ rest) (All-head (λ b. b ≢ 10) b bs is_line)
    ∙ ap (onto_first b) (lines-line bs rest (All-tail (λ b. b ≢ 10) b bs is_line))

-- bytes with no line feed are one line, if there are any
pub lines-last : (b : ℕ) (bs : List ℕ) → IsLine (b ∷ bs) → lines (b ∷ bs) ≡ (b ∷ bs) ∷ []
lines-last b [] is_line =
    lines-other b [] (All-head (λ b. b ≢ 10) b [] is_line) ∙ ap (onto_first b) lines-nil
lines-last b (x ∷ xs) is_line =
    lines-other b (x ∷ xs) (All-head (λ b. b ≢ 10) b (x ∷ xs) is_line)
    ∙ ap (onto_first b) (lines-last x xs (All-tail (λ b. b ≢ 10) b (x ∷ xs) is_line))

-- a byte goes in front of bytes that hold a line feed
onto_some-line : (b : ℕ) (bs cs : List ℕ) → onto_some b (bs ++ 10 ∷ cs) ≡ b ∷ (bs ++ 10 ∷ cs)
onto_some-line b [] cs = refl
onto_some-line b (x ∷ xs) cs = refl

-- a line that ends is finished
pub finished-line : (line rest : List ℕ) → finished (line ++ 10 ∷ rest) ≡ line ++ 10 ∷ finished rest
finished-line [] rest = finished-feed 10 rest refl
finished-line (b ∷ bs) rest =
    ⊎_elim
    (λ feed. finished-feed b (bs ++ 10 ∷ rest) feed ∙ ap (λ (t : List ℕ). b ∷ t) (finished-line bs rest))
    (λ other. finished-other b (bs ++ 10 ∷ rest) other ∙ ap (onto_some b) (finished-line bs rest)
    ∙ onto_some-line b bs (finished rest))
    (cases_eq b 10)

-- ---- some lines in front

-- (line, line feed, us), rest = line, line feed, (us, rest)
feed_regroup : (line us rest : List ℕ) → ((line ++ 10 ∷ []) ++ us) ++ rest ≡ line ++ 10 ∷ (us ++ rest)
feed_regroup line us rest = append_assoc (line ++ 10 ∷ []) us rest ∙ append_assoc line (10 ∷ []) (us ++ rest)

-- the lines of lines that end and of a rest are those lines and the lines of the rest
pub lines-unlines : (ended : List (List ℕ)) (rest : List ℕ) → All IsLine ended
    → lines (unlines ended ++ rest) ≡ ended ++ lines rest
lines-unlines [] rest each = refl
lines-unlines (line ∷ ls) rest each =
    ap lines (feed_regroup line (unlines ls) rest)
    ∙ lines-line line (unlines ls ++ rest) (All-head IsLine line ls each)
    ∙ ap (λ (t : List (List ℕ)). line ∷ t) (lines-unlines ls rest (All-tail IsLine line ls each))

-- the answers to lines that end and to a rest are their answers and those to the rest
pub answers-unlines : (ended : List (List ℕ)) (rest : List ℕ) → All IsLine ended
    → answers (unlines ended ++ rest) ≡ answers_to ended ++ answers rest
answers-unlines ended rest each =
    ap answers_to (lines-unlines ended rest each)
    ∙ flat_map-append (λ line. answer_of line ++ 10 ∷ []) ended (lines rest)

-- lines that end have ended; of a rest, what has ended in it
pub finished-unlines : (ended : List (List ℕ)) (rest : List ℕ)
    → finished (unlines ended ++ rest) ≡ unlines ended ++ finished rest
finished-unlines [] rest = refl
finished-unlines (line ∷ ls) rest =
    ap finished (feed_regroup line (unlines ls) rest)
    ∙ finished-line line (unlines ls ++ rest)
    ∙ ap (λ (t : List ℕ). line ++ 10 ∷ t) (finished-unlines ls rest)
    ∙ sym (feed_regroup line (unlines ls) (finished rest))

-- no bytes have no answers
pub answers-nil : answers [] ≡ []
answers-nil = ap answers_to lines-nil

-- one line with no line feed, of any length
pub answers-last : (line : List ℕ) → IsLine line → 0 < length line → answers line ≡ answer_of line ++ 10 ∷ []
answers-last [] is_line some = absurd (omega arith)
answers-last (b ∷ bs) is_line some = ap answers_to (lines-last b bs is_line) ∙ append-nil (answer_of (b ∷ bs) ++ 10 ∷ [])

-- an empty last line has no answer
pub answers-none : (line : List ℕ) → length line ≡ 0 → answers line ≡ []
answers-none [] none = answers-nil
answers-none (b ∷ bs) none = absurd (omega arith)

-- ---- the law of lines

-- a byte that is no line feed keeps the first line a line
IsLine-onto_first : (b : ℕ) (parts : List (List ℕ)) → b ≢ 10 → All IsLine parts → All IsLine (onto_first b parts)
IsLine-onto_first b [] other each =
    All-cons IsLine (b ∷ []) [] (All-cons (λ b. b ≢ 10) b [] other (All-nil (λ b. b ≢ 10))) (All-nil IsLine)
IsLine-onto_first b (part ∷ parts) other each =
    All-cons IsLine (b ∷ part) parts
    (All-cons (λ b. b ≢ 10) b part other (All-head IsLine part parts each))
    (All-tail IsLine part parts each)

-- no line has a line feed
each_lines : (bytes : List ℕ) → All IsLine (lines bytes)
each_lines [] = rw lines-nil (All-nil IsLine)
each_lines (b ∷ bs) =
    ⊎_elim
    (λ feed. rw (lines-feed b bs feed) (All-cons IsLine [] (lines bs) (All-nil (λ b. b ≢ 10)) (each_lines bs)))
    (λ other. rw (lines-other b bs other) (IsLine-onto_first b (lines bs) other (each_lines bs)))
    (cases_eq b 10)

-- a byte in front of the first line stands in front of the joined lines, where they have a byte
onto_first-some : (b c : ℕ) (bs : List ℕ) (parts : List (List ℕ)) → unlines parts ≡ c ∷ bs
    → unlines (onto_first b parts) ≡ b ∷ unlines parts
onto_first-some b c bs [] some = absurd (cc)
onto_first-some b c bs (part ∷ parts) some = refl

-- a last line feed is not doubled
closed-one_feed : (b : ℕ) → b ≡ 10 → closed (b ∷ []) ≡ b ∷ []
unfolding closed
closed-one_feed b feed = cond-true _ _ _ (eq-eqb b 10 feed)

-- another last byte gets a line feed
closed-one_other : (b : ℕ) → b ≢ 10 → closed (b ∷ []) ≡ b ∷ 10 ∷ []
unfolding closed
closed-one_other b other = cond-false _ _ _ (ne_eqb b 10 other)

-- a byte in front of others changes nothing at the end
closed-more : (b c : ℕ) (bs : List ℕ) → closed (b ∷ c ∷ bs) ≡ b ∷ closed (c ∷ bs)
unfolding closed
closed-more b c bs = refl

-- no bytes get no line feed
closed-nil : closed [] ≡ []
unfolding closed
closed-nil = refl

-- closed bytes begin with the same byte
closed_some : (b : ℕ) (bs : List ℕ) → (cs : List ℕ) × (closed (b ∷ bs) ≡ b ∷ cs)
closed_some b [] =
    ⊎_elim (λ feed. ([], closed-one_feed b feed)) (λ other. (10 ∷ [], closed-one_other b other)) (cases_eq b 10)
closed_some b (c ∷ cs) = (closed (c ∷ cs), closed-more b c cs)

-- the lines, each with its line feed, join to the bytes, with a line feed after them where the last line has none
joined_lines : (bytes : List ℕ) → unlines (lines bytes) ≡ closed bytes
joined_lines [] = ap unlines lines-nil ∙ sym closed-nil
joined_lines (b ∷ []) =
    ⊎_elim
    (λ feed. ap unlines (lines-feed b [] feed ∙ ap (λ (t : List (List ℕ)). [] ∷ t) lines-nil)
    ∙ ap (λ x. x ∷ []) (sym feed) ∙ sym (closed-one_feed b feed))
    (λ other. ap unlines (lines-other b [] other ∙ ap (onto_first b) lines-nil) ∙ sym (closed-one_other b other))
    (cases_eq b 10)
joined_lines (b ∷ c ∷ cs) =
    let later = joined_lines (c ∷ cs) in
    let some = closed_some c cs in
    ⊎_elim
    (λ feed. ap unlines (lines-feed b (c ∷ cs) feed) ∙ ap (λ (t : List ℕ). 10 ∷ t) later
    ∙ ap (λ x. x ∷ closed (c ∷ cs)) (sym feed) ∙ sym (closed-more b c cs))
    (λ other. ap unlines (lines-other b (c ∷ cs) other)
    ∙ onto_first-some b c some.0 (lines (c ∷ cs)) (later ∙ some.1)
    ∙ ap (λ (t : List ℕ). b ∷ t) later ∙ sym (closed-more b c cs))
    (cases_eq b 10)

-- `lines` are the lines of the bytes
pub AreLinesOf-lines : (bytes : List ℕ) → AreLinesOf (lines bytes) bytes
AreLinesOf-lines bytes = record { each = each_lines bytes; joined = joined_lines bytes }

-- ---- the law of what has ended

-- a line feed in front of what ends with a line feed ends with one
closed-feed : (b : ℕ) (front : List ℕ) → b ≡ 10 → closed front ≡ front → closed (b ∷ front) ≡ b ∷ front
closed-feed b [] feed whole = closed-one_feed b feed
closed-feed b (c ∷ cs) feed whole = closed-more b c cs ∙ ap (λ (t : List ℕ). b ∷ t) whole

-- a byte in front that is no line feed belongs to what has ended, or to the rest
IsFinished-other : (b : ℕ) (front bytes : List ℕ) → b ≢ 10 → IsFinished front bytes → IsFinished (onto_some b front) (b ∷ bytes)
IsFinished-other b [] bytes other later = record {
  whole = closed-nil;
  rest = b ∷ later.rest;
  split = ap (λ (t : List ℕ). b ∷ t) later.split;
  is_line = All-cons (λ b. b ≢ 10) b later.rest other later.is_line;
}
IsFinished-other b (c ∷ cs) bytes other later = record {
  whole = closed-more b c cs ∙ ap (λ (t : List ℕ). b ∷ t) later.whole;
  rest = later.rest;
  split = ap (λ (t : List ℕ). b ∷ t) later.split;
  is_line = later.is_line;
}

-- `finished` is what has ended of the bytes
pub IsFinished-finished : (bytes : List ℕ) → IsFinished (finished bytes) bytes
IsFinished-finished [] = rw finished-nil
    (record { whole = closed-nil; rest = []; split = refl; is_line = All-nil (λ b. b ≢ 10) })
IsFinished-finished (b ∷ bs) =
    let later = IsFinished-finished bs in
    ⊎_elim
    (λ feed. rw (finished-feed b bs feed) (record {
      whole = closed-feed b (finished bs) feed later.whole;
      rest = later.rest;
      split = ap (λ (t : List ℕ). b ∷ t) later.split;
      is_line = later.is_line;
    }))
    (λ other. rw (finished-other b bs other) (IsFinished-other b (finished bs) bs other later))
    (cases_eq b 10)
