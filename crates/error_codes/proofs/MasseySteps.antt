-- What the algorithm of Berlekamp and Massey keeps between two entries, as its code has it.
use Rattle.std.proofs.Common.{◌≡◌, ◌≢◌, ◌⊎◌, inl, inr, ℕ, suc, ◌+◌, ◌-◌, ◌*◌, ◌^◌, ◌<◌, ◌≤◌, refl, sym, ◌∙◌, ap, subst}
use Rattle.std.proofs.Common.{List, arith}
use Rattle.std.specs.Prelude.{bit_xor, slice_index}
use Rattle.std.proofs.lemmas.Bool.{cases_lt}
use lib.Bits.{xor_zero_l, xor_zero_r}
use Rattle.field_base.specs.Basis.{sum_below}
use Rattle.field_base.specs.Field.{IsField}
use Rattle.field_base.proofs.RingLemmas.{times-zero}
use Rattle.field_base.proofs.PowerLemmas.{times-one}
use Rattle.error_codes.specs.Registers.{IsRegister, IsShortest, register_sum}
use Rattle.error_codes.proofs.Massey.{registers_lead_on, registers_start, registers_stay}

-- a shortest register of l entries, and an older one that failed at entry g
pub record IsBetweenEntries (times : ℕ → ℕ → ℕ) (entry : ℕ → ℕ) (l L : ℕ) (c : ℕ → ℕ) (g : ℕ) (b : ℕ → ℕ) (failure : ℕ)
    : Type 0 where
  pub shortest : IsShortest times entry L l c
  pub size : L ≤ l
  pub earlier : g < l
  pub enough : L ≤ suc g
  pub older : IsRegister times entry (suc g - L) g b
  pub failed : register_sum times entry (suc g - L) b g ≡ failure
  pub nonzero : failure ≢ 0

module _ (width : ℕ) (times : ℕ → ℕ → ℕ) (wide : 0 < width) (field : IsField width times) (entry : ℕ → ℕ) where
  -- one coefficient
  register-one : (c : ℕ → ℕ) (p : ℕ) → register_sum times entry 0 c p ≡ times (c 0) (entry p)
  unfolding sum_below
  register-one c p = xor_zero_l (times (c 0) (entry (p - 0))) ∙ ap (λ (k : ℕ). times (c 0) (entry k)) whole
    where
      whole : p - 0 ≡ p
      whole = omega arith

  -- of zeros the register of no length is a shortest
  pub zeros-shortest : (l : ℕ) (c : ℕ → ℕ) → c 0 ≡ 1 → ((i : ℕ) → 0 < i → c i ≡ 0) → ((n : ℕ) → n < l → entry n ≡ 0)
      → IsShortest times entry 0 l c
  zeros-shortest l c first others zeros = record {
    register = record {
      first = first;
      short = others;
      sums = λ p most below.
          register-one c p ∙ ap (times (c 0)) (zeros p below) ∙ times-zero width 1 times field.ring (c 0);
    };
    least = λ M d other. omega arith;
  }

  -- behind the first entry that is not 0
  pub massey-starts : (l : ℕ) (c : ℕ → ℕ) → c 0 ≡ 1 → ((i : ℕ) → 0 < i → c i ≡ 0) → ((n : ℕ) → n < l → entry n ≡ 0)
      → entry l < 2 ^ width → entry l ≢ 0 → IsBetweenEntries times entry (l + 1) (l + 1) c l c (entry l)
  massey-starts l c first others zeros fits some =
      let none = zeros-shortest l c first others zeros in
      let fails : register_sum times entry 0 c l ≡ entry l =
      register-one c l ∙ ap (λ (z : ℕ). times z (entry l)) first ∙ field.ring.comm 1 (entry l)
      ∙ times-one width 1 times field.ring (entry l) fits in
      let more : suc l ≡ l + 1 = omega arith in
      let nothing : 0 ≡ suc l - (l + 1) = omega arith in
      record {
        shortest =
            subst (λ (n : ℕ). IsShortest times entry n n c) more
            (registers_start width times wide field entry l c c none (λ is. some (sym fails ∙ is)) first
            (λ i above. others i (omega (arith, above))));
        size = omega arith;
        earlier = omega arith;
        enough = omega arith;
        older = subst (λ (n : ℕ). IsRegister times entry n l c) nothing none.register;
        failed = ap (λ (n : ℕ). register_sum times entry n c l) (sym nothing) ∙ fails;
        nonzero = some;
      }

  module _ (l L : ℕ) (c : ℕ → ℕ) (g : ℕ) (b : ℕ → ℕ) (failure : ℕ) (between : IsBetweenEntries times entry l L c g b failure)
    where
      -- the register gives the next entry too
      pub massey-stays : register_sum times entry L c l ≡ 0 → IsBetweenEntries times entry (l + 1) L c g b failure
      massey-stays none =
          let size = between.size in let earlier = between.earlier in
          let more : suc l ≡ l + 1 = omega arith in
          record {
            shortest = subst (λ (n : ℕ). IsShortest times entry L n c) more (registers_stay times entry L l c between.shortest none);
            size = omega (arith, size);
            earlier = omega (arith, earlier);
            enough = between.enough;
            older = between.older;
            failed = between.failed;
            nonzero = between.nonzero;
          }

      module _ (a sum room : ℕ) (d : ℕ → ℕ) (sum_is : sum ≡ register_sum times entry L c l) (some : sum ≢ 0)
          (cancels : times a failure ≡ sum) (below : (i : ℕ) → i < l - g → d i ≡ c i)
          (behind : (i : ℕ) → l - g + i < room → d (l - g + i) ≡ bit_xor (c (l - g + i)) (times a (b i)))
          (fits : suc l < room) (c_room : (i : ℕ) → room ≤ i → c i ≡ 0) (d_room : (i : ℕ) → room ≤ i → d i ≡ 0) where
        everywhere : (i : ℕ) → d (l - g + i) ≡ bit_xor (c (l - g + i)) (times a (b i))
        everywhere i = pick (cases_lt (l - g + i) room)
          where
            far : room ≤ l - g + i → suc g - L < i
            far past =
                let size = between.size in let earlier = between.earlier in let enough = between.enough in
                omega (arith, past, fits, size, earlier, enough)

            pick : (l - g + i < room) ⊎ (room ≤ l - g + i) → d (l - g + i) ≡ bit_xor (c (l - g + i)) (times a (b i))
            pick (inl inside) = behind i inside
            pick (inr past) =
                d_room (l - g + i) past
                ∙ sym (ap (bit_xor (c (l - g + i))) (ap (times a) (between.older.short i (far past))
                ∙ times-zero width 1 times field.ring a)
                ∙ xor_zero_r (c (l - g + i)) ∙ c_room (l - g + i) past)

        leads : (N : ℕ) → L ≤ N → suc l ≤ N + L → (N ≡ L) ⊎ (N + L ≡ suc l) → IsShortest times entry N (suc l) d
        leads N least enough either =
            registers_lead_on width times wide field entry L l (suc g - L) g (l - g) N a b c d between.shortest
            (λ none. some (sum_is ∙ none)) between.older
            (let most = between.enough in omega (arith, most)) (let earlier = between.earlier in omega (arith, earlier))
            (let earlier = between.earlier in omega (arith, earlier))
            (ap (times a) between.failed ∙ cancels ∙ sum_is) least enough either below everywhere

        -- the length stays
        pub massey-keeps : suc l ≤ 2 * L → IsBetweenEntries times entry (l + 1) L d g b failure
        massey-keeps long =
            let size = between.size in let earlier = between.earlier in
            let more : suc l ≡ l + 1 = omega arith in
            record {
              shortest =
                  subst (λ (n : ℕ). IsShortest times entry L n d) more
                  (leads L (omega arith) (omega (arith, long)) (inl refl));
              size = omega (arith, size);
              earlier = omega (arith, earlier);
              enough = between.enough;
              older = between.older;
              failed = between.failed;
              nonzero = between.nonzero;
            }

        -- or becomes the other, and the register that failed the older one
        pub massey-grows : 2 * L < suc l → IsBetweenEntries times entry (l + 1) (l + 1 - L) d l c sum
        massey-grows short =
            let size = between.size in
            let more : suc l ≡ l + 1 = omega arith in
            let back : L ≡ suc l - (l + 1 - L) = omega (arith, size) in
            record {
              shortest =
                  subst (λ (n : ℕ). IsShortest times entry (l + 1 - L) n d) more
                  (leads (l + 1 - L) (omega (arith, short)) (omega (arith, size)) (inr (omega (arith, size))));
              size = omega arith;
              earlier = omega arith;
              enough = omega arith;
              older = subst (λ (n : ℕ). IsRegister times entry n l c) back between.shortest.register;
              failed = ap (λ (n : ℕ). register_sum times entry n c l) (sym back) ∙ sym sum_is;
              nonzero = some;
            }

-- the same by other names
pub between-as : (times : ℕ → ℕ → ℕ) (entry : ℕ → ℕ) (l L M g h failure other : ℕ) (c d b e : List ℕ) → M ≡ L → d ≡ c → h ≡ g
    → e ≡ b → other ≡ failure → IsBetweenEntries times entry l L (slice_index c) g (slice_index b) failure
    → IsBetweenEntries times entry l M (slice_index d) h (slice_index e) other
between-as times entry l L M g h failure other c d b e size coefficients failed older last between =
    subst (λ (n : ℕ). IsBetweenEntries times entry l n (slice_index d) h (slice_index e) other) (sym size)
    (subst (λ (xs : List ℕ). IsBetweenEntries times entry l L (slice_index xs) h (slice_index e) other) (sym coefficients)
    (subst (λ (n : ℕ). IsBetweenEntries times entry l L (slice_index c) n (slice_index e) other) (sym failed)
    (subst (λ (xs : List ℕ). IsBetweenEntries times entry l L (slice_index c) g (slice_index xs) other) (sym older)
    (subst (λ (n : ℕ). IsBetweenEntries times entry l L (slice_index c) g (slice_index b) n) (sym last) between))))
