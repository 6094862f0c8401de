-- The line feed that a search finds, and the line before it.
use Rattle.std.proofs.Common.{◌≡◌, ◌≢◌, ℕ, ◌+◌, ◌<◌, ◌≤◌, List, ◌∷◌, ◌++◌, length, take, drop, get_or, Some, None, refl, sym, ap, ◌∙◌, take-append-drop, drop-cons, add-one, arith, append_assoc, length-take, length-drop, get_or-take}
use Rattle.std.proofs.lemmas.List.{drop-drop}
use Rattle.std.proofs.lemmas.Bool.{eqb-true, eq-eqb}
use Rattle.std.proofs.lemmas.List.Elements.{All-from_get_or, All-append}
use Rattle.memchr.specs.Find.{IsFirstByte, is_byte}
use Rattle.calculator.specs.Lines.{IsLine}

-- where none is found, there is none
pub IsLine-none : (bytes : List ℕ) → IsFirstByte (is_byte 10) bytes None → IsLine bytes
IsLine-none bytes nowhere =
    All-from_get_or (λ b. b ≢ 10) bytes 0 (λ i inside feed. nowhere i (omega arith) inside (eq-eqb _ 10 feed))

module _ (bytes : List ℕ) (k : ℕ) (found : IsFirstByte (is_byte 10) bytes (Some k)) where
  -- the bytes before it are a line
  pub IsLine-found : IsLine (take k bytes)
  IsLine-found =
      All-from_get_or (λ b. b ≢ 10) (take k bytes) 0
      (λ i inside feed. found.0.before i (omega arith) (omega (arith, length-take k bytes))
      (eq-eqb _ 10 (sym (get_or-take k bytes i 0 (omega (arith, length-take k bytes))) ∙ feed)))

  -- it stands behind them
  pub cut_found : bytes ≡ take k bytes ++ 10 ∷ drop (k + 1) bytes
  cut_found =
      let inside : k < length bytes = found.0.high in
      let here : get_or bytes k 0 ≡ 10 = eqb-true _ 10 found.1 in
      sym (take-append-drop k bytes) ∙ ap (λ (t : List ℕ). take k bytes ++ t) (rw (add-one, ← here) (drop-cons bytes k 0 inside))

-- a line feed that is found in the bytes from `start` on ends the line of what came before
module _ (chunk line rest part : List ℕ) (start len n : ℕ) (same : rest ≡ drop start chunk) (here : part ≡ take n (drop start chunk)) (count : n ≡ len)
    (found : IsFirstByte (is_byte 10) rest (Some len)) (is_line : IsLine line) where
  -- the part is the bytes before the line feed
  is_part : part ≡ take len rest
  is_part = here ∙ ap (λ k. take k (drop start chunk)) count ∙ ap (take len) (sym same)

  -- what came before and the bytes before the line feed are a line
  pub IsLine-ended : IsLine (line ++ part)
  IsLine-ended = All-append (λ b. b ≢ 10) line part is_line (rw is_part (IsLine-found rest len found))

  -- all bytes are that line, its line feed and what follows
  pub cut_ended : line ++ drop start chunk ≡ (line ++ part) ++ 10 ∷ drop (start + (len + 1)) chunk
  cut_ended =
      ap (λ (t : List ℕ). line ++ t) (sym same ∙ cut_found rest len found)
      ∙ sym (append_assoc line (take len rest) (10 ∷ drop (len + 1) rest))
      ∙ (rw (is_part, ← drop-drop (len + 1) start chunk, ← same) refl)

  -- the line feed stands within the chunk
  pub ended_within : start + (len + 1) ≤ length chunk
  ended_within =
      let inside : len < length rest = found.0.high in
      omega (arith, ap length same, length-drop start chunk)
