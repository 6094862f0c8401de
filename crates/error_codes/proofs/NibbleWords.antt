-- Words of elements and their images: a word of images stands for a code word there exactly where the word does here, and a code
-- word of bytes whose data are images has images alone.
use Rattle.std.proofs.Common.{◌≡◌, ◌⊎◌, inl, inr, ℕ, zero, suc, ◌+◌, ◌-◌, ◌<◌, ◌≤◌, Bool, true, false, cond, List, length, map}
use Rattle.std.proofs.Common.{refl, sym, ◌∙◌, ap, ap₂, subst, arith, lit<}
use Rattle.std.specs.Prelude.{bit_xor, nat_eq, not, slice_index, ◌&&◌}
use Rattle.std.proofs.lemmas.Bool.{cases_lt}
use Rattle.std.proofs.lemmas.Bool.Decides.{eqb_tells}
use Rattle.std.proofs.lemmas.List.{ext_get_or, get_or-map, length-map}
use Rattle.field_base.specs.Basis.{sum_below}
use Rattle.field_base.specs.Powers.{power}
use Rattle.field_base.proofs.PowerLemmas.{repeated_square-lt, repeated_square_times, repeated_square_xor}
use Rattle.field_slices.specs.Marks.{marked_below, total}
use Rattle.error_codes.specs.Checks.{AreScaled, IsChecked}
use Rattle.error_codes.specs.Correcting.{HasRoots, IsMeant, code_value, is_listed}
use Rattle.error_codes.specs.Filling.{falling_point, falling_scale}
use Rattle.error_codes.specs.Generators.{power_point, power_scale}
use Rattle.error_codes.specs.Nibbles.{AreNibbles, IsMeantNibbles, lowered, nibble_times, raised}
use Rattle.error_codes.specs.Words.{is_wrong}
use Rattle.error_codes.proofs.Checks.{words_differ}
use Rattle.error_codes.proofs.CodeValues.{falling-scaled, syndrome-value}
use Rattle.error_codes.proofs.Meanings.{marks-same}
use Rattle.error_codes.proofs.Moments.{sum-same}
use Rattle.error_codes.proofs.NibbleFields.{bytes, bytes_field, frobenius, lowered-raised, lowered-roots, marks-raised, raised-fits}
use Rattle.error_codes.proofs.NibbleFields.{raised-kept, raised-lowered, raised-roots}

-- a list that was mapped place by place
pub all-mapped : (f : ℕ → ℕ) (old now : List ℕ) → length now ≡ length old
    → ((k : ℕ) → k < length old → slice_index now k ≡ f (slice_index old k)) → now ≡ map f old
all-mapped f old now long each =
    let mapped = length-map old f in
    ext_get_or 0 now (map f old) (long ∙ sym mapped)
    (λ k below. each k (omega (arith, below, long)) ∙ sym (get_or-map f old k 0 0 (omega (arith, below, long))))

-- what is raised comes back
pub lowered-word : (word : List ℕ) → AreNibbles (length word) word → map lowered (map raised word) ≡ word
lowered-word word elements =
    sym (all-mapped lowered (map raised word) word (sym raised_long)
    (λ k below.
    let inside : k < length word = omega (arith, below, raised_long) in
    sym (ap lowered (get_or-map raised word k 0 0 inside) ∙ lowered-raised (slice_index word k) (elements k inside))))
  where
    raised_long : length (map raised word) ≡ length word
    raised_long = length-map word raised

-- what is lowered to elements goes back
pub raised-word : (bytes : List ℕ) → ((i : ℕ) → i < length bytes → slice_index bytes i < 256)
    → AreNibbles (length bytes) (map lowered bytes) → map raised (map lowered bytes) ≡ bytes
raised-word bytes fits elements =
    sym (all-mapped raised (map lowered bytes) bytes (sym lowered_long)
    (λ k below.
    let inside : k < length bytes = omega (arith, below, lowered_long) in
    let is = get_or-map lowered bytes k 0 0 inside in
    sym (ap raised is
    ∙ raised-lowered (slice_index bytes k) (fits k inside) (subst (λ (v : ℕ). v < 16) is (elements k inside)))))
  where
    lowered_long : length (map lowered bytes) ≡ length bytes
    lowered_long = length-map bytes lowered

-- ---- words that are meant

module _ (root first n checks : ℕ) (fits : root < 16) (received erasures word : List ℕ)
    (long : length received ≡ n) (count : length word ≡ n) (elements : AreNibbles n word) where
  wrong-raised : marked_below (is_wrong (λ i. i) (slice_index (map raised received)) (is_listed erasures) (slice_index (map raised word))) n
      ≡ marked_below (is_wrong (λ i. i) (slice_index received) (is_listed erasures) (slice_index word)) n
  wrong-raised =
      marks-same
      (is_wrong (λ i. i) (slice_index (map raised received)) (is_listed erasures) (slice_index (map raised word)))
      (is_wrong (λ i. i) (slice_index received) (is_listed erasures) (slice_index word)) n
      (λ i below.
      ap (λ (b : Bool). not (is_listed erasures i) && not b)
      (ap₂ (λ (a s : ℕ). nat_eq a s) (get_or-map raised received i 0 0 (omega (arith, below, long)))
      (get_or-map raised word i 0 0 (omega (arith, below, count)))
      ∙ marks-raised (slice_index received i) (slice_index word i) (elements i below)))

  whole : AreNibbles (length word) word
  whole i below = elements i (omega (arith, below, count))

  pub raised-meant : IsMeant nibble_times root first n checks received erasures word
      → IsMeant bytes (raised root) first n checks (map raised received) erasures (map raised word)
  raised-meant meant = record {
    count = length-map word raised ∙ count;
    symbols = λ i below.
        subst (λ (v : ℕ). v < 256) (sym (get_or-map raised word i 0 0 (omega (arith, below, count))))
        (raised-fits (slice_index word i) (elements i below));
    roots = raised-roots root first checks word fits whole meant.roots;
    near = let near = meant.near in omega (arith, near, wrong-raised);
  }

  pub lowered-meant : IsMeant bytes (raised root) first n checks (map raised received) erasures (map raised word)
      → IsMeantNibbles root first n checks received erasures word
  lowered-meant meant = (
    elements,
    record {
      count = count;
      symbols = λ i below. let small = elements i below in omega (arith, small);
      roots = lowered-roots root first checks word fits whole meant.roots;
      near = let near = meant.near in omega (arith, near, wrong-raised);
    },
  )

-- the marks of changed symbols
pub changes-raised : (old new : List ℕ) (i : ℕ) → i < length old → i < length new → slice_index new i < 16
    → not (nat_eq (slice_index (map raised old) i) (slice_index (map raised new) i)) ≡ not (nat_eq (slice_index old i) (slice_index new i))
changes-raised old new i inside within small =
    ap (λ (b : Bool). not b)
    (ap₂ (λ (a s : ℕ). nat_eq a s) (get_or-map raised old i 0 0 inside) (get_or-map raised new i 0 0 within)
    ∙ marks-raised (slice_index old i) (slice_index new i) small)

-- ---- the sixteenth powers of a code word are a code word

frobenius-zero : frobenius 0 ≡ 0
frobenius-zero = raised-kept 0 (lit< tt)

frobenius-sum : (f : ℕ → ℕ) (n : ℕ) → frobenius (sum_below f n) ≡ sum_below (λ i. frobenius (f i)) n
unfolding sum_below
frobenius-sum f zero = frobenius-zero
frobenius-sum f (suc n) =
    repeated_square_xor 8 1 bytes bytes_field.ring 4 (sum_below f n) (f n)
    ∙ ap (λ (v : ℕ). bit_xor v (frobenius (f n))) (frobenius-sum f n)

frobenius-power : (x k : ℕ) → frobenius x ≡ x → frobenius (power 1 bytes x k) ≡ power 1 bytes x k
unfolding power
frobenius-power x zero kept = raised-kept 1 (lit< tt)
frobenius-power x (suc k) kept =
    repeated_square_times 8 1 bytes bytes_field.ring 4 (power 1 bytes x k) x
    ∙ ap₂ bytes (frobenius-power x k kept) kept

frobenius-value : (n : ℕ) (word : ℕ → ℕ) (x : ℕ) → frobenius x ≡ x
    → code_value bytes n (λ i. frobenius (word i)) x ≡ frobenius (code_value bytes n word x)
frobenius-value n word x kept =
    sym (frobenius-sum (λ i. bytes (word i) (power 1 bytes x (n - 1 - i))) n
    ∙ sum-same (λ i. frobenius (bytes (word i) (power 1 bytes x (n - 1 - i))))
    (λ i. bytes (frobenius (word i)) (power 1 bytes x (n - 1 - i))) n
    (λ i below.
    repeated_square_times 8 1 bytes bytes_field.ring 4 (word i) (power 1 bytes x (n - 1 - i))
    ∙ ap (bytes (frobenius (word i))) (frobenius-power x (n - 1 - i) kept)))

-- of n places of which the first k are not marked at most n - k are
few-behind : (marked : ℕ → Bool) (k n : ℕ) → ((i : ℕ) → i < k → i < n → marked i ≡ false) → marked_below marked n ≤ n - k
unfolding total
few-behind marked k zero free = omega arith
few-behind marked k (suc n) free =
    pick (marked n) refl (cases_lt n k) (few-behind marked k n (λ i below inside. free i below (omega (arith, inside))))
  where
    pick : (b : Bool) → marked n ≡ b → (n < k) ⊎ (k ≤ n) → marked_below marked n ≤ n - k
        → marked_below marked n + cond (marked n) 1 0 ≤ suc n - k
    pick true is (inl early) before = let none : false ≡ true = sym (free n early (omega arith)) ∙ is in absurd (cc)
    pick true is (inr late) before =
        let last : cond (marked n) (suc zero) zero ≡ suc zero = ap (λ (b : Bool). cond b (suc zero) zero) is in
        omega (arith, last, before, late)
    pick false is side before =
        let last : cond (marked n) (suc zero) zero ≡ zero = ap (λ (b : Bool). cond b (suc zero) zero) is in
        omega (arith, last, before)

equal-unmarked : (a b : ℕ) → a ≡ b → not (nat_eq a b) ≡ false
equal-unmarked a b is =
    elim (eqb_tells a b) [
      | inl same ↦ ap (λ (t : Bool). not t) same.0
      | inr other ↦ absurd (other.1 is)
    ]

-- so that it has no other bytes where its data have none
pub code-kept : (root first n checks k : ℕ) (word : List ℕ) → root < 16 → k + checks ≡ n → length word ≡ n
    → AreScaled 8 n (power_point bytes (raised root)) (power_scale bytes (raised root) first)
    → ((i : ℕ) → i < n → slice_index word i < 256) → HasRoots bytes (raised root) first checks word
    → ((i : ℕ) → i < k → frobenius (slice_index word i) ≡ slice_index word i)
    → (i : ℕ) → i < n → frobenius (slice_index word i) ≡ slice_index word i
code-kept root first n checks k word root_fits split long scaled fits roots kept i below =
    elim (eqb_tells (slice_index word i) (frobenius (slice_index word i))) [
      | inl same ↦ sym same.1
      | inr other ↦
          let many = words_differ 8 bytes (lit< tt) bytes_field checks n (falling_point bytes (raised root) n)
          (falling_scale bytes (raised root) first n) (falling-scaled 8 bytes (lit< tt) bytes_field n (raised root) first scaled)
          (slice_index word) (λ j. frobenius (slice_index word j)) checked powers_checked i below other.1 in
          let few = few-behind (λ j. not (nat_eq (slice_index word j) (frobenius (slice_index word j)))) k n
          (λ j data_place inside. equal-unmarked (slice_index word j) (frobenius (slice_index word j)) (sym (kept j data_place))) in
          absurd (omega (arith, many, few, split))
    ]
  where
    at_root : (m : ℕ) → m < checks → code_value bytes n (slice_index word) (power 1 bytes (raised root) (first + m)) ≡ 0
    at_root m inside =
        ap (λ (l : ℕ). code_value bytes l (slice_index word) (power 1 bytes (raised root) (first + m))) (sym long) ∙ roots m inside

    checked : IsChecked 8 bytes checks n (falling_point bytes (raised root) n) (falling_scale bytes (raised root) first n)
        (slice_index word)
    checked = record {
      symbols = fits;
      sums = λ m inside.
          syndrome-value 8 bytes (lit< tt) bytes_field n (raised root) first m (slice_index word) ∙ at_root m inside;
    }

    powers_checked : IsChecked 8 bytes checks n (falling_point bytes (raised root) n) (falling_scale bytes (raised root) first n)
        (λ j. frobenius (slice_index word j))
    powers_checked = record {
      symbols = λ j inside. repeated_square-lt 8 1 bytes bytes_field.ring 4 (slice_index word j);
      sums = λ m inside.
          syndrome-value 8 bytes (lit< tt) bytes_field n (raised root) first m (λ j. frobenius (slice_index word j))
          ∙ frobenius-value n (slice_index word) (power 1 bytes (raised root) (first + m))
          (frobenius-power (raised root) (first + m) (raised-kept root root_fits))
          ∙ ap frobenius (at_root m inside) ∙ frobenius-zero;
    }
