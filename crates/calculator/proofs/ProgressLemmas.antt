-- How runs that follow one another join.
use Rattle.std.proofs.Common.{◌≡◌, ℕ, ◌+◌, ◌-◌, ◌≤◌, ◌<◌, length, length-append, List, [], ◌∷◌, ◌++◌, Option, refl, sym, ap, ◌∙◌, append_assoc, append-nil, take, drop, take-append-drop, arith, inl, inr}
use Rattle.std.proofs.lemmas.Bool.{false≢true}
use Rattle.std.proofs.lemmas.List.{drop-take, length-drop}
use Rattle.std.specs.Prelude.{Result, Ok, Err, IsErr, OnOk, OnErr, IfErr, IsErrAnd, ⊤}
use Rattle.std.specs.Io.KnownBytes.{Appends, Consumes, IsAtEnd, Keeps}
use Rattle.std.proofs.KnownBytes.{Appends-nil, Appends-trans, Consumes-trans, Consumes-kept}
use Rattle.std.proofs.lemmas.List.Elements.{All-nil, All-cons, All-append}
use Rattle.std.proofs.lemmas.List.Concat.{flat_map-append}
use Rattle.std.proofs.lemmas.Result.{on_ok_weaker, on_err_weaker}
use Rattle.calculator.specs.Answer.{answer_of}
use Rattle.calculator.specs.Lines.{with_feed, unlines, IsLine, finished, answers_to, answers}
use Rattle.calculator.proofs.LineLemmas.{answers-unlines, finished-unlines}
use Rattle.calculator.specs.Progress.{TakesFront, GainsFront, AnswersLines, AnswersAll, AnswersFront, AnswersWhole, LeavesLines, GaveSome}

-- a part of a list, from either end first
pub take-drop : (i j : ℕ) (xs : List ℕ) → i ≤ j → take (j - i) (drop i xs) ≡ drop i (take j xs)
take-drop i j xs le =
    let parts : i + (j - i) ≡ j = omega arith in
    sym (drop-take i (j - i) xs) ∙ ap (λ n. drop i (take n xs)) parts

-- ---- what a writer takes

-- a writer that takes nothing leaves all
pub TakesFront-none : (a : Option (List ℕ)) (all : List ℕ) → TakesFront a a all all
TakesFront-none a all = record { taken = []; appended = Appends-nil a; split = refl }

-- more bytes wait behind what was left, and the writer takes a front of both
pub TakesFront-trans : {a b c : Option (List ℕ)} {all left last : List ℕ} (more : List ℕ)
    → TakesFront a b all left → TakesFront b c (left ++ more) last → TakesFront a c (all ++ more) last
TakesFront-trans {a} {b} {c} {all} {left} {last} more first second = record {
  taken = first.taken ++ second.taken;
  appended = Appends-trans a b c _ _ first.appended second.appended;
  split = ap (λ (t : List ℕ). t ++ more) first.split ∙ append_assoc first.taken left more
      ∙ ap (λ (t : List ℕ). first.taken ++ t) second.split ∙ sym (append_assoc first.taken second.taken last);
}

-- the writer takes the first n bytes of what was left
pub TakesFront-take : {a b c : Option (List ℕ)} {all left : List ℕ} (n : ℕ)
    → TakesFront a b all left → Appends b c (take n left) → TakesFront a c all (drop n left)
TakesFront-take {a} {b} {c} {all} {left} n first more = record {
  taken = first.taken ++ take n left;
  appended = Appends-trans a b c _ _ first.appended more;
  split = first.split ∙ ap (λ (t : List ℕ). first.taken ++ t) (sym (take-append-drop n left))
      ∙ sym (append_assoc first.taken (take n left) (drop n left));
}

-- nothing is left
pub TakesFront-all : (a b : Option (List ℕ)) (all : List ℕ) → TakesFront a b all [] → Appends a b all
TakesFront-all a b all takes = rw (takes.split, append-nil) takes.appended

-- a writer that gains all leaves nothing
pub TakesFront-whole : (a b : Option (List ℕ)) (all : List ℕ) → Appends a b all → TakesFront a b all []
TakesFront-whole a b all appended = record { taken = all; appended = appended; split = sym (append-nil all) }

-- the writer takes a front of all, then a front of what was left
pub TakesFront-front : {a b c : Option (List ℕ)} {all left last : List ℕ}
    → TakesFront a b all left → TakesFront b c left last → TakesFront a c all last
TakesFront-front {a} {b} {c} {all} {left} {last} first second =
    rw append-nil at (TakesFront-trans {c = c} {last = last} [] first (rw append-nil second))

-- the writer takes what was left, and what comes behind it
pub TakesFront-rest : {a b : Option (List ℕ)} {all left : List ℕ} (c : Option (List ℕ)) (more : List ℕ)
    → TakesFront a b all left → Appends b c (left ++ more) → Appends a c (all ++ more)
TakesFront-rest {a} {b} {all} {left} c more first rest =
    TakesFront-all a c (all ++ more) (TakesFront-trans more first (TakesFront-whole b c (left ++ more) rest))

-- the writer takes a front of all, then what was left
pub TakesFront-left : {a b : Option (List ℕ)} {all left : List ℕ} (c : Option (List ℕ))
    → TakesFront a b all left → Appends b c left → Appends a c all
TakesFront-left {a} {b} {all} {left} c first rest =
    TakesFront-all a c all (TakesFront-front first (TakesFront-whole b c left rest))

-- the writer takes a front of all, then a front of what was left and of more behind it
pub GainsFront-rest : {a b c : Option (List ℕ)} {all left : List ℕ} (more : List ℕ)
    → TakesFront a b all left → GainsFront b c (left ++ more) → GainsFront a c (all ++ more)
GainsFront-rest more first rest = (rest.0, TakesFront-trans more first rest.1)

-- the writer takes a front of all, then a front of what was left
pub GainsFront-left : {a b c : Option (List ℕ)} {all left : List ℕ}
    → TakesFront a b all left → GainsFront b c left → GainsFront a c all
GainsFront-left first rest = (rest.0, TakesFront-front first rest.1)

-- more bytes behind those of which the writer gained the front
pub GainsFront-more : {a b : Option (List ℕ)} {all : List ℕ} (more : List ℕ)
    → GainsFront a b all → GainsFront a b (all ++ more)
GainsFront-more {a} {b} {all} more front = (
  front.0 ++ more,
  record {
    taken = front.1.taken;
    appended = front.1.appended;
    split = ap (λ (t : List ℕ). t ++ more) front.1.split ∙ append_assoc front.1.taken front.0 more;
  },
)

-- ---- the lines that were answered

-- where nothing was done, no line was answered
pub AnswersLines-none : (a : Option (List ℕ)) (waiting bytes : List ℕ) → AnswersLines a a waiting waiting bytes bytes
AnswersLines-none a waiting bytes = record {
  ended = [];
  each = All-nil IsLine;
  cut = refl;
  takes = rw append-nil (TakesFront-none a waiting);
}

-- lines that were answered, and then the next lines of what was left
pub AnswersLines-trans : {a b c : Option (List ℕ)} {waiting left last bytes middle rest : List ℕ}
    → AnswersLines a b waiting left bytes middle → AnswersLines b c left last middle rest → AnswersLines a c waiting last bytes rest
AnswersLines-trans {a} {b} {c} {waiting} {left} {last} {bytes} {middle} {rest} first second = record {
  ended = first.ended ++ second.ended;
  each = All-append IsLine first.ended second.ended first.each second.each;
  cut = first.cut ∙ ap (λ (t : List ℕ). unlines first.ended ++ t) second.cut
      ∙ sym (append_assoc (unlines first.ended) (unlines second.ended) rest)
      ∙ ap (λ (t : List ℕ). t ++ rest) (sym (flat_map-append with_feed first.ended second.ended));
  takes = rw (flat_map-append (λ line. answer_of line ++ 10 ∷ []) first.ended second.ended, ← append_assoc waiting (answers_to first.ended) (answers_to second.ended))
      (TakesFront-trans (answers_to second.ended) first.takes second.takes);
}

-- the writer takes a front of what was left, and no more lines are answered
pub AnswersLines-front_left : {a b c : Option (List ℕ)} {waiting left last bytes rest : List ℕ}
    → AnswersLines a b waiting left bytes rest → TakesFront b c left last → AnswersLines a c waiting last bytes rest
AnswersLines-front_left {a} {b} {c} {waiting} {left} {last} {bytes} {rest} fed more =
    record { ended = fed.ended; each = fed.each; cut = fed.cut; takes = TakesFront-front fed.takes more }

-- more bytes behind what was left
pub AnswersLines-more : {a b : Option (List ℕ)} {waiting left bytes rest : List ℕ} (more : List ℕ)
    → AnswersLines a b waiting left bytes rest → AnswersLines a b waiting left (bytes ++ more) (rest ++ more)
AnswersLines-more {a} {b} {waiting} {left} {bytes} {rest} more fed = record {
  ended = fed.ended;
  each = fed.each;
  cut = ap (λ (t : List ℕ). t ++ more) fed.cut ∙ append_assoc (unlines fed.ended) rest more;
  takes = fed.takes;
}

-- lines that were answered, and then those that end in the next chunk
pub AnswersLines-next : {a b c : Option (List ℕ)} {waiting left last bytes line rest : List ℕ} (chunk : List ℕ)
    → AnswersLines a b waiting left bytes line → AnswersLines b c left last (line ++ chunk) rest
    → AnswersLines a c waiting last (bytes ++ chunk) rest
AnswersLines-next chunk fed next = AnswersLines-trans (AnswersLines-more chunk fed) next

-- the writer takes what was left as well
pub LeavesLines-told : {a b : Option (List ℕ)} {waiting left bytes : List ℕ} {most : ℕ} (c : Option (List ℕ))
    → LeavesLines a b waiting left bytes most → Appends b c left → LeavesLines a c waiting [] bytes most
LeavesLines-told {a} {b} {waiting} {left} c leaves appended = record {
  line = leaves.line;
  is_line = leaves.is_line;
  tail = leaves.tail;
  few = leaves.few;
  answered = AnswersLines-front_left leaves.answered (TakesFront-whole b c left appended);
}

-- the lines that end before a place were answered, and no more are: what was left is written
pub LeavesLines-refused : {a b : Option (List ℕ)} {waiting left bytes : List ℕ} (c : Option (List ℕ)) (line chunk : List ℕ) (start : ℕ) → IsLine line
    → AnswersLines a b waiting left bytes (line ++ drop start chunk) → Appends b c left → LeavesLines a c waiting [] bytes (length chunk)
LeavesLines-refused c line chunk start is_line answered appended =
    LeavesLines-told c
    (record { line = line; is_line = is_line; tail = drop start chunk; few = omega (arith, length-drop start chunk); answered = answered })
    appended

-- one line that ends
pub AnswersLines-line : {a b : Option (List ℕ)} {waiting left : List ℕ} (line rest : List ℕ) → IsLine line
    → TakesFront a b (waiting ++ (answer_of line ++ 10 ∷ [])) left → AnswersLines a b waiting left (line ++ 10 ∷ rest) rest
AnswersLines-line {a} {b} {waiting} {left} line rest is_line takes = record {
  ended = line ∷ [];
  each = All-cons IsLine line [] is_line (All-nil IsLine);
  cut = sym (append_assoc line (10 ∷ []) rest) ∙ ap (λ (t : List ℕ). t ++ rest) (sym (append-nil (line ++ 10 ∷ [])));
  takes = rw append-nil takes;
}

-- ---- from the lines that were answered to the answers to all bytes

-- the writer gained the front of the answers to the lines that ended
pub AnswersLines-front : {a b : Option (List ℕ)} {left bytes rest : List ℕ}
    → AnswersLines a b [] left bytes rest → GainsFront a b (answers (finished bytes))
AnswersLines-front {a} {b} {left} {bytes} {rest} fed =
    rw (fed.cut, finished-unlines fed.ended rest, answers-unlines fed.ended (finished rest) fed.each)
    (GainsFront-more (answers (finished rest)) (left, fed.takes))

-- the answers to the bytes are those to the lines that ended and those to the rest
answers-cut : {a b : Option (List ℕ)} {left bytes rest : List ℕ} (fed : AnswersLines a b [] left bytes rest)
    → answers bytes ≡ answers_to fed.ended ++ answers rest
answers-cut {a} {b} {left} {bytes} {rest} fed = ap answers fed.cut ∙ answers-unlines fed.ended rest fed.each

-- the writer took what was left and the answer to the last line
pub AnswersLines-all : {a b : Option (List ℕ)} {left bytes line : List ℕ} (c : Option (List ℕ))
    → AnswersLines a b [] left bytes line → Appends b c (left ++ answers line) → Appends a c (answers bytes)
AnswersLines-all {a} {b} {left} {bytes} {line} c fed rest =
    rw (answers-cut fed) (TakesFront-rest c (answers line) fed.takes rest)

-- or a front of that
pub AnswersLines-last : {a b c : Option (List ℕ)} {left bytes line : List ℕ}
    → AnswersLines a b [] left bytes line → GainsFront b c (left ++ answers line) → GainsFront a c (answers bytes)
AnswersLines-last {a} {b} {c} {left} {bytes} {line} fed rest =
    rw (answers-cut fed) (GainsFront-rest (answers line) fed.takes rest)

-- ---- one more read, after the lines of what was read were answered

module _ (r0 r1 : Option (List ℕ)) {w0 w1 : Option (List ℕ)} (read line left : List ℕ)
    (consumed : Consumes r0 r1 read) (answered : AnswersLines w0 w1 [] left read line) where
  -- a read of nothing leaves what was read as it is
  consumed_all : (r2 : Option (List ℕ)) → Consumes r1 r2 [] → Consumes r0 r2 read
  consumed_all r2 none = rw append-nil at (Consumes-trans r0 r1 r2 read [] consumed none)

  -- the reader has ended, and the writer took what was left and the answer to the last line
  AnswersAll-end : (r2 w2 : Option (List ℕ)) → Consumes r1 r2 [] → IsAtEnd r2
      → Appends w1 w2 (left ++ answers line) → AnswersAll r0 r2 w0 w2
  AnswersAll-end r2 w2 none at_end appended = record {
    read = read;
    consumed = consumed_all r2 none;
    at_end = at_end;
    appended = AnswersLines-all w2 answered appended;
  }

  -- the reader has ended, and the writer gained a front of that
  AnswersFront-end : (r2 w2 : Option (List ℕ)) → Consumes r1 r2 [] → IsAtEnd r2
      → GainsFront w1 w2 (left ++ answers line) → AnswersFront r0 r2 w0 w2
  AnswersFront-end r2 w2 none at_end front = record {
    read = read;
    consumed = consumed_all r2 none;
    front = inr (at_end, AnswersLines-last answered front);
  }

  -- a read of no byte, with room for some, finds the end, and the last line is answered there
  pub Answers-last : (r2 w2 : Option (List ℕ)) {E : Type 0} (result : Result ⊤ E) (count : ℕ) (given last : List ℕ)
      → count ≡ 0 → Consumes r1 r2 (take count given) × (count ≡ 0 → 0 < length given → IsAtEnd r2) → 0 < length given → last ≡ line
      → OnOk result (Appends w1 w2 (left ++ answers last)) → OnErr result (GainsFront w1 w2 (left ++ answers last))
      → OnOk result (AnswersAll r0 r2 w0 w2) × OnErr result (AnswersFront r0 r2 w0 w2)
  Answers-last r2 w2 result count given last zero bytes room same ok err =
      let none : Consumes r1 r2 [] = rw zero at bytes.0 in
      let at_end = bytes.1 zero room in (
        on_ok_weaker result (λ appended. AnswersAll-end r2 w2 none at_end (rw same at appended)) ok,
        on_err_weaker result (λ front. AnswersFront-end r2 w2 none at_end (rw same at front)) err,
      )

  -- of the next chunk the writer gained a front of the answers to the lines that end
  pub AnswersFront-next : (r2 : Option (List ℕ)) {w2 : Option (List ℕ)} {last rest : List ℕ} (chunk : List ℕ) → Consumes r1 r2 chunk
      → AnswersLines w1 w2 left last (line ++ chunk) rest → AnswersFront r0 r2 w0 w2
  AnswersFront-next r2 chunk more fed = record {
    read = read ++ chunk;
    consumed = Consumes-trans r0 r1 r2 read chunk consumed more;
    front = inl (AnswersLines-front (AnswersLines-next chunk answered fed));
  }

  -- of the next chunk only a line's beginning and at most so many bytes are not answered
  pub AnswersWhole-next : (r2 : Option (List ℕ)) {w2 : Option (List ℕ)} (chunk : List ℕ) (most : ℕ) → Consumes r1 r2 chunk → length chunk ≤ most
      → LeavesLines w1 w2 left [] (line ++ chunk) (length chunk) → AnswersWhole r0 r2 w0 w2 most
  AnswersWhole-next r2 chunk most more few leaves = record {
    read = read ++ chunk;
    consumed = Consumes-trans r0 r1 r2 read chunk consumed more;
    leaves = record {
      line = leaves.line;
      is_line = leaves.is_line;
      tail = leaves.tail;
      few = omega (arith, leaves.few, few);
      answered = AnswersLines-next chunk answered leaves.answered;
    };
  }

  -- a chunk with a byte makes what was read have one
  pub GaveSome-next : (r2 : Option (List ℕ)) (chunk : List ℕ) → Consumes r1 r2 chunk → 0 < length chunk → GaveSome r0 r2
  GaveSome-next r2 chunk more some =
      (read ++ chunk, Consumes-trans r0 r1 r2 read chunk consumed more, omega (arith, length-append read chunk))

  -- a read that failed changes nothing: the lines that ended were answered
  pub AnswersFront-kept : (r2 : Option (List ℕ)) → Keeps r1 r2 → AnswersFront r0 r2 w0 w1
  AnswersFront-kept r2 kept = record {
    read = read;
    consumed = Consumes-kept r0 r1 r2 read consumed kept;
    front = inl (AnswersLines-front answered);
  }

-- ---- what a call answers

-- a fact holds also where it is asked of an error alone
pub OnErr-from : {T E : Type 0} (P : Type 0) (r : Result T E) → P → OnErr r P
OnErr-from P (Ok _) p = tt
OnErr-from P (Err _) p = p

-- or of a value, where there is an error
pub OnOk-never : {T E : Type 0} (P : Type 0) (r : Result T E) → IsErr r → OnOk r P
OnOk-never P (Ok _) is = absurd (false≢true is)
OnOk-never P (Err _) is = tt

-- or of some errors
pub IfErr-from : {T E : Type 0} (Is : E → Type 0) (P : Type 0) (r : Result T E) → P → IfErr r (λ e. Is e → P)
IfErr-from Is P (Ok _) p = tt
IfErr-from Is P (Err e) p = λ is. p

-- or of one error, which is the one that another call gave
pub IfErr-given : {T E : Type 0} {P : Type 0} (asked given : E) (r : Result T E) → IsErrAnd r (λ e. e ≡ given)
    → (given ≡ asked → P) → IfErr r (λ e. e ≡ asked → P)
IfErr-given asked given (Ok _) same fact = absurd same
IfErr-given asked given (Err e) same fact = λ is. fact (sym same ∙ is)
