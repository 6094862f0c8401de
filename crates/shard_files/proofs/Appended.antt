-- Files to which bytes are added one after the other.
use Rattle.std.proofs.Common.{◌≡◌, inl, inr, ℕ, ◌+◌, ◌<◌, ◌≤◌, List, ◌++◌, refl, sym, ◌∙◌, ap, subst, append_assoc, arith}
use Rattle.std.proofs.lemmas.Bool.{cases_lt}
use Rattle.shard_files.specs.Files.{AppendsToEach, IsAppended}

pub appends_none : (bytes before : ℕ → List ℕ) → AppendsToEach 0 bytes before before
appends_none bytes before = record { grown = λ index below. absurd (omega (arith, below)); others = λ index above. refl }

pub appends_more : (count : ℕ) (bytes before now next : ℕ → List ℕ) → AppendsToEach count bytes before now
    → IsAppended count (bytes count) now next → AppendsToEach (count + 1) bytes before next
appends_more count bytes before now next so_far one =
    record { grown = grown; others = others }
  where
    grown : (index : ℕ) → index < count + 1 → next index ≡ before index ++ bytes index
    grown index below =
        elim (cases_lt index count) [
          | inl less ↦ one.others index (omega (arith, less)) ∙ so_far.grown index less
          | inr more ↦
              let same : count ≡ index = omega (arith, more, below) in
              subst (λ (n : ℕ). next n ≡ before n ++ bytes n) same
              (one.grown ∙ ap (λ (l : List ℕ). l ++ bytes count) (so_far.others count (omega arith)))
        ]

    others : (index : ℕ) → count + 1 ≤ index → next index ≡ before index
    others index above = one.others index (omega (arith, above)) ∙ so_far.others index (omega (arith, above))

-- to the file of each of all
pub appends_all : (count total : ℕ) (bytes before now : ℕ → List ℕ) → count ≡ total → AppendsToEach count bytes before now
    → AppendsToEach total bytes before now
appends_all count total bytes before now is added = subst (λ (n : ℕ). AppendsToEach n bytes before now) is added

-- `AppendsToEach`, with the bytes replaced by equal ones
pub appends_same : (count : ℕ) (bytes other before now : ℕ → List ℕ) → ((index : ℕ) → index < count → other index ≡ bytes index)
    → AppendsToEach count bytes before now → AppendsToEach count other before now
appends_same count bytes other before now same added =
    record {
      grown = λ index below. added.grown index below ∙ ap (λ (l : List ℕ). before index ++ l) (sym (same index below));
      others = added.others;
    }

-- two calls, one after the other, append the bytes of both
pub appends_twice : (count : ℕ) (one two both before now next : ℕ → List ℕ)
    → ((index : ℕ) → index < count → both index ≡ one index ++ two index)
    → AppendsToEach count one before now → AppendsToEach count two now next → AppendsToEach count both before next
appends_twice count one two both before now next same first second =
    record {
      grown = λ index below.
          second.grown index below ∙ ap (λ (l : List ℕ). l ++ two index) (first.grown index below)
          ∙ append_assoc (before index) (one index) (two index) ∙ ap (λ (l : List ℕ). before index ++ l) (sym (same index below));
      others = λ index above. second.others index above ∙ first.others index above;
    }

-- bytes that are added in two parts to one file
pub appended_twice : (index : ℕ) (one two : List ℕ) (before now next : ℕ → List ℕ) → IsAppended index one before now
    → IsAppended index two now next → IsAppended index (one ++ two) before next
appended_twice index one two before now next first second =
    record {
      grown = second.grown ∙ ap (λ (l : List ℕ). l ++ two) first.grown ∙ append_assoc (before index) one two;
      others = λ other apart. second.others other apart ∙ first.others other apart;
    }
