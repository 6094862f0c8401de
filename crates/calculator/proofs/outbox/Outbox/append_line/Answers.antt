-- A text and a line feed behind the first bytes of an array.
use Rattle.std.proofs.Common.{◌≡◌, refl, ℕ, ◌+◌, ◌<◌, List, [], ◌∷◌, ◌++◌, length, take, set, ap, ◌∙◌, append_assoc, arith, length-append, length-take, length-drop}
use Rattle.std.proofs.lemmas.Grind.{take-set_at}
use Rattle.std.proofs.lemmas.Slice.{take-put_mid}
use borrow.Rule.Slice.PartMut.{put_mid}
use Rattle.calculator.proofs.outbox.Outbox.append_line.Goals as goal

-- a text put behind the first n bytes, and a line feed behind it
pushed : (bytes text : List ℕ) (n k e : ℕ) → e ≡ n + length text → k ≡ length text → e < length bytes
    → take (e + 1) (set (put_mid n k bytes text) e 10) ≡ take n bytes ++ (text ++ 10 ∷ [])
pushed bytes text n k e end len fits =
    let inside : e < length (put_mid n k bytes text) =
    simp (length-append, length-take, length-drop) (omega arith) in
    take-set_at (put_mid n k bytes text) e (e + 1) 10 (omega arith) inside
    ∙ ap (λ (t : List ℕ). t ++ 10 ∷ []) (take-put_mid n k bytes text e end (omega arith))
    ∙ append_assoc (take n bytes) text (10 ∷ [])

pub returns : goal.returns
returns c =
    let text = c.copy_from_slice.ensures.after in
    let bytes = c.args.self.now.bytes in
    let inside = length-take c.args.self.now.len bytes in
    rw text (pushed bytes c.args.line.now c.args.self.now.len _ _ refl (omega arith) (omega arith))
