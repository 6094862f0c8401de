-- A slice that is written over in blocks or place by place: what lies before a place is done, and what lies from it on is as it was.
use Rattle.std.proofs.Common.{◌≡◌, ℕ, zero, suc, ◌+◌, ◌*◌, ◌<◌, ◌≤◌, List, [], ◌∷◌, ◌++◌, length, map, take, drop, refl, sym, ◌∙◌, ap, ap₂, arith}
use Rattle.std.proofs.Math.Nat.{mul-suc}
use Rattle.std.proofs.Math.Numerals.{add-one}
use Rattle.std.specs.Prelude.{slice_index, slice_index_or, slice_set}
use Rattle.std.proofs.lemmas.List.{length-drop, length-map, take_all}
use Rattle.std.proofs.lemmas.List.Edits.{map_over_more}
use Rattle.std.proofs.lemmas.Simd.{put_chunk_whole}
use lib.Lanes.{chunk, put_chunk}

-- what f makes of the first n elements, and the others as they were
abbrev pub done_before : (ℕ → ℕ) → ℕ → List ℕ → List ℕ
done_before f n xs = map f (take n xs) ++ drop n xs

-- ---- by blocks

-- nothing is written where nothing is to be written
nothing_put : (xs : List ℕ) → put_chunk 0 xs [] ≡ xs
nothing_put [] = refl
nothing_put (x ∷ xs) = refl

-- a block at the front
put_at_front : (f : ℕ → ℕ) (n : ℕ) (old : List ℕ) → n ≤ length old → put_chunk 0 old (map f (take n old)) ≡ done_before f n old
put_at_front f zero old room = nothing_put old
put_at_front f (suc n) [] room = absurd (omega arith)
put_at_front f (suc n) (x ∷ old) room = ap (λ (xs : List ℕ). f x ∷ xs) (put_at_front f n old (omega arith))

-- a block at place i, where those before it are done
put_next : (f : ℕ → ℕ) (n i : ℕ) (old : List ℕ) → i + n ≤ length old
    → put_chunk i (done_before f i old) (map f (chunk i n (done_before f i old))) ≡ done_before f (i + n) old
put_next f n zero old room = let e : 0 + n ≡ n = omega arith in rw e (put_at_front f n old (omega arith))
put_next f n (suc i) [] room = absurd (omega arith)
put_next f n (suc i) (x ∷ old) room =
    let e : suc i + n ≡ suc (i + n) = omega arith in
    rw e (ap (λ (xs : List ℕ). f x ∷ xs) (put_next f n i old (omega arith)))

-- block k of n elements is done, and those before it are
pub block_done : (f : ℕ → ℕ) (n k : ℕ) (old now out : List ℕ) → n * k + n ≤ length old
    → now ≡ done_before f (n * k) old → out ≡ map f (chunk (n * k) n now) → put_chunk (n * k) now out ≡ done_before f (n * (k + 1)) old
block_done f n k old now out room before made =
    ap₂ (put_chunk (n * k)) before (made ∙ ap (λ (xs : List ℕ). map f (chunk (n * k) n xs)) before)
    ∙ put_next f n (n * k) old room ∙ ap (λ (i : ℕ). done_before f i old) (sym (ap (λ (i : ℕ). n * i) (add-one k) ∙ mul-suc n k))

-- to do the first elements changes no length
same_length : (f : ℕ → ℕ) (n : ℕ) (xs : List ℕ) → length (done_before f n xs) ≡ length (map f xs)
same_length f zero xs = sym (length-map xs f)
same_length f (suc n) [] = refl
same_length f (suc n) (x ∷ xs) = ap suc (same_length f n xs)

-- where all but the last elements are done, and what f makes of these is written, all are
pub end_put : (f : ℕ → ℕ) (i n : ℕ) (old : List ℕ) → i ≤ n → i ≤ length old
    → put_chunk i (done_before f n old) (map f (drop i old)) ≡ map f old
end_put f zero n old reach room = put_chunk_whole (done_before f n old) (map f old) (same_length f n old)
end_put f (suc i) zero old reach room = absurd (omega arith)
end_put f (suc i) (suc n) [] reach room = absurd (omega arith)
end_put f (suc i) (suc n) (x ∷ old) reach room = ap (λ (xs : List ℕ). f x ∷ xs) (end_put f i n old (omega arith) (omega arith))

-- the block of the last n elements
pub end_done : (f : ℕ → ℕ) (i n m : ℕ) (old bytes out : List ℕ) → i + n ≡ length old → i ≤ m
    → bytes ≡ done_before f m old → out ≡ map f (chunk i n old) → put_chunk i bytes out ≡ map f old
end_done f i n m old bytes out whole reach before made =
    ap₂ (put_chunk i) before (made ∙ ap (map f) (take_all n (drop i old) (omega (arith, length-drop i old))))
    ∙ end_put f i m old reach (omega arith)

-- ---- by one place

-- an entry of a list does not depend on what stands for those past its end
same_entry : (xs : List ℕ) (i d e : ℕ) → i < length xs → slice_index_or xs i d ≡ slice_index_or xs i e
same_entry [] i d e within = absurd (omega (arith, within))
same_entry (x ∷ xs) zero d e within = refl
same_entry (x ∷ xs) (suc i) d e within = same_entry xs i d e (omega (arith, within))

-- one place more is done
pub place_done : (f : ℕ → ℕ) (xs ys : List ℕ) (i v : ℕ) → i < length xs → i < length ys
    → ys ≡ done_before f i xs → v ≡ f (slice_index ys i)
    → slice_set ys i v ≡ done_before f (i + 1) xs
place_done f xs ys i v within also so_far is =
    ap (slice_set ys i) is
    ∙ map_over_more f xs ys i (slice_index ys i) within so_far (same_entry ys i 0 (slice_index ys i) also)
