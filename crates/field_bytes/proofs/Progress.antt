-- Iterators that give several items for each one that they take.
use Rattle.std.proofs.Common.{◌≡◌, ℕ, ◌+◌, ◌*◌, ◌<◌, ◌∷◌, length, Option, None, Some, ◌∙◌, ap, arith, sym, subst}
use Rattle.std.specs.Iterator.{Count, IsFinite, MakesProgress, count_map, size as items}
use Rattle.field_bytes.specs.Streams.{IsWithin, bytes_pending}
use Rattle.field_bytes.proofs.Streaming.{fewer_left}

-- A call of a stream T that took an element of the iterator below and gave the first of its bytes: less is left than before.
pub element_begun : {I A T B E : Type 0} {can : I → Type 0} {left : I → Count} {may : T → Type 0} {t : I} {x : A} {r : B}
    (size : ℕ) (repr : E → ℕ) (elements : T → I) (pending : T → Option E) (given : T → ℕ) (u v : T) (y : E) (b : ℕ)
    → MakesProgress can left (elements u) (Some x) t → elements v ≡ t → (can (elements v) → may v)
    → IsWithin size (pending u) (given u) → pending u ≡ None
    → bytes_pending size repr (Some y) (given u) ≡ b ∷ bytes_pending size repr (pending v) (given v)
    → MakesProgress may (λ s. count_map (λ n. n * size + length (bytes_pending size repr (pending s) (given s))) (left (elements s))) u (Some r) v
element_begun {can = can} {left = left} size repr elements pending given u v y b step same goes_on within none first =
    let again = goes_on (subst can (sym same) step.keeps) in
    record {
      on = λ finite.
          let below = step.on finite in
          let fewer = subst (λ i. items (left i) < items (left (elements u))) (sym same) below.2 in (
            again,
            subst (λ i. IsFinite (left i)) (sym same) below.1,
            fewer_left size repr _ _ (given u) (given v) (pending u) (pending v) y b fewer within none first,
          );
      keeps = again;
      rests = λ finite. tt;
    }

-- A call that gave one of the bytes that were pending: one fewer is left.
pub element_continued : {I T B E : Type 0} {may : T → Type 0} {r : B} (left : I → Count)
    (size : ℕ) (repr : E → ℕ) (elements : T → I) (pending : T → Option E) (given : T → ℕ) (u v : T) (x : E) (b : ℕ)
    → may v → elements v ≡ elements u → pending u ≡ Some x
    → bytes_pending size repr (Some x) (given u) ≡ b ∷ bytes_pending size repr (pending v) (given v)
    → MakesProgress may (λ s. count_map (λ n. n * size + length (bytes_pending size repr (pending s) (given s))) (left (elements s))) u (Some r) v
element_continued left size repr elements pending given u v x b again same is first =
    let long = ap length (ap (λ p. bytes_pending size repr p (given u)) is ∙ first) in
    record {
      on = λ finite. (
        again,
        subst (λ i. IsFinite (left i)) (sym same) finite,
        subst
            (λ i. items (left i) * size + length (bytes_pending size repr (pending v) (given v))
            < items (left (elements u)) * size + length (bytes_pending size repr (pending u) (given u))) (sym same) (omega (arith, long)),
      );
      keeps = again;
      rests = λ finite. tt;
    }
