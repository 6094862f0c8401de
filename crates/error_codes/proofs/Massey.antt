-- The step of Berlekamp's and Massey's algorithm.
use Rattle.std.proofs.Common.{◌≡◌, ◌⊎◌, ℕ, zero, suc, ◌+◌, ◌-◌, ◌^◌, ◌<◌, ◌≤◌, inl, inr, refl, sym, ◌∙◌, ap, ap₂, arith}
use Rattle.std.specs.Prelude.{bit_xor}
use Rattle.std.proofs.lemmas.Bool.{cases_lt}
use Rattle.std.proofs.lemmas.Nat.{pow_pos, xor_lt}
use lib.Bits.{xor_assoc, xor_self, xor_zero_r}
use Rattle.field_base.specs.Basis.{sum_below}
use Rattle.field_base.proofs.PowerLemmas.{one-times}
use Rattle.field_base.proofs.RingLemmas.{sum_times, times_left_comm, times-zero, zero-times}
use Rattle.error_codes.specs.Registers.{IsRegister, RegistersAreLong, RegistersLeadOn, RegistersStart, RegistersStay}
use Rattle.error_codes.specs.Registers.{register_sum}
use Rattle.error_codes.proofs.Moments.{sum-add, sum-none, sum-one, sum-same, sum-times}

sum-exchange : (f : ℕ → ℕ → ℕ) (a b : ℕ)
    → sum_below (λ i. sum_below (f i) b) a ≡ sum_below (λ j. sum_below (λ i. f i j) a) b
unfolding sum_below
sum-exchange f zero b = sym (sum-none (λ j. 0) b (λ j below. refl))
sum-exchange f (suc a) b =
    ap (λ (z : ℕ). bit_xor z (sum_below (f a) b)) (sum-exchange f a b)
    ∙ sym (sum-add (λ j. sum_below (λ i. f i j) a) (f a) b)

sum-split : (f : ℕ → ℕ) (a b n : ℕ) → a + b ≡ n → sum_below f n ≡ bit_xor (sum_below f a) (sum_below (λ i. f (a + i)) b)
unfolding sum_below
sum-split f a zero n sum = ap (sum_below f) (whole a n sum) ∙ sym (xor_zero_r (sum_below f a))
  where
    whole : (a n : ℕ) → a + zero ≡ n → n ≡ a
    whole a n sum = omega (arith, sum)
sum-split f a (suc b) zero sum = absurd (omega (arith, sum))
sum-split f a (suc b) (suc n) sum =
    ap₂ bit_xor (sum-split f a b n (omega (arith, sum))) (ap f (last a b n sum))
    ∙ xor_assoc (sum_below f a) (sum_below (λ i. f (a + i)) b) (f (a + b))
  where
    last : (a b n : ℕ) → a + suc b ≡ suc n → n ≡ a + b
    last a b n sum = omega (arith, sum)

-- more terms that are 0
sum-more : (f : ℕ → ℕ) (a n : ℕ) → a ≤ n → ((i : ℕ) → a ≤ i → f i ≡ 0) → sum_below f n ≡ sum_below f a
sum-more f a n most none =
    sum-split f a (n - a) n (omega (arith, most))
    ∙ ap (bit_xor (sum_below f a)) (sum-none (λ i. f (a + i)) (n - a) (λ i below. none (a + i) (omega arith)))
    ∙ xor_zero_r (sum_below f a)

sum-lt : (width : ℕ) (f : ℕ → ℕ) (n : ℕ) → ((i : ℕ) → f i < 2 ^ width) → sum_below f n < 2 ^ width
unfolding sum_below
sum-lt width f zero each = pow_pos width
sum-lt width f (suc n) each = xor_lt width (sum_below f n) (f n) (sum-lt width f n each) (each n)

pub registers_are_long : RegistersAreLong
registers_are_long width times wide field entry L M l c d c_register fails d_register = pick (cases_lt l (L + M))
  where
    both : (i j : ℕ) → l - i - j ≡ l - j - i
    both i j = omega arith

    -- the same sum in two orders: by c it is what fails, by d it is 0
    same : L + M ≤ l → register_sum times entry L c l ≡ 0
    same far =
        sym (one-times width 1 times field.ring (register_sum times entry L c l)
        (sum-lt width (λ i. times (c i) (entry (l - i))) (suc L) (λ i. field.ring.below (c i) (entry (l - i)))))
        ∙ ap (λ (z : ℕ). times z (register_sum times entry L c l)) (sym d_register.first)
        ∙ ap (λ (p : ℕ). times (d 0) (register_sum times entry L c p)) (whole l)
        ∙ sym (sum-one (λ j. times (d j) (register_sum times entry L c (l - j))) (suc M) 0 (omega arith)
        (λ j below other.
        ap (times (d j)) (c_register.sums (l - j) (omega (arith, far, below))
        (smaller j other (omega (arith, below, far)))) ∙ times-zero width 1 times field.ring (d j)))
        ∙ sum-same (λ j. times (d j) (register_sum times entry L c (l - j)))
        (λ j. sum_below (λ i. times (c i) (times (d j) (entry (l - i - j)))) (suc L)) (suc M)
        (λ j below.
        sym (sum-times width times wide field (d j) (λ i. times (c i) (entry (l - j - i))) (suc L))
        ∙ sum-same (λ i. times (d j) (times (c i) (entry (l - j - i))))
        (λ i. times (c i) (times (d j) (entry (l - i - j)))) (suc L)
        (λ i inside.
        times_left_comm width 1 times field.ring (d j) (c i) (entry (l - j - i))
        ∙ ap (λ (p : ℕ). times (c i) (times (d j) (entry p))) (sym (both i j))))
        ∙ sym (sum-exchange (λ i j. times (c i) (times (d j) (entry (l - i - j)))) (suc L) (suc M))
        ∙ sum-none (λ i. sum_below (λ j. times (c i) (times (d j) (entry (l - i - j)))) (suc M)) (suc L)
        (λ i below.
        sum-times width times wide field (c i) (λ j. times (d j) (entry (l - i - j))) (suc M)
        ∙ ap (times (c i)) (d_register.sums (l - i) (omega (arith, far, below)) (omega arith))
        ∙ times-zero width 1 times field.ring (c i))
      where
        whole : (a : ℕ) → a ≡ a - 0
        whole a = omega arith

        smaller : (j : ℕ) → (j ≡ 0 → ⊥) → j ≤ l → l - j < l
        smaller j other most = omega (arith, other, most)

    pick : (l < L + M) ⊎ (L + M ≤ l) → l < L + M
    pick (inl more) = more
    pick (inr far) = absurd (fails (same far))

earlier-register : (times : ℕ → ℕ → ℕ) (entry : ℕ → ℕ) (L l : ℕ) (c : ℕ → ℕ) → IsRegister times entry L (suc l) c
    → IsRegister times entry L l c
earlier-register times entry L l c register = record {
  first = register.first;
  short = register.short;
  sums = λ p most below. register.sums p most (omega (arith, below));
}

pub registers_stay : RegistersStay
registers_stay times entry L l c shortest gives = record {
  register = record {
    first = shortest.register.first;
    short = shortest.register.short;
    sums = λ p most below. pick p most below (cases_lt p l);
  };
  least = λ M d register. shortest.least M d (earlier-register times entry M l d register);
}
  where
    last : (p : ℕ) → p < suc l → l ≤ p → p ≡ l
    last p below least = omega (arith, below, least)

    pick : (p : ℕ) → L ≤ p → p < suc l → (p < l) ⊎ (l ≤ p) → register_sum times entry L c p ≡ 0
    pick p most below (inl less) = shortest.register.sums p most less
    pick p most below (inr least) = ap (register_sum times entry L c) (last p below least) ∙ gives

pub registers_start : RegistersStart
registers_start width times wide field entry l c d shortest fails first short = record {
  register = record { first = first; short = short; sums = λ p most below. absurd (omega (arith, most, below)) };
  least = λ M e register.
      let long = registers_are_long width times wide field entry 0 M l c e shortest.register fails register in
      omega (arith, long);
}

pub registers_lead_on : RegistersLeadOn
registers_lead_on width times wide field entry L l K g shift N a b c d shortest fails older lengths places some meets
    most enough length low high = record {
      register = record { first = low 0 some ∙ shortest.register.first; short = short; sums = sums };
      least = λ M e register.
          let long = registers_are_long width times wide field entry L M l c e shortest.register fails register in
          let least = shortest.least M e (earlier-register times entry M l e register) in
          pick M long least length;
    }
  where
    pick : (M : ℕ) → l < L + M → L ≤ M → (N ≡ L) ⊎ (N + L ≡ suc l) → N ≤ M
    pick M long least (inl same) = omega (arith, least, same)
    pick M long least (inr sum) = omega (arith, long, sum)

    -- the older register has so many places of the new one
    covers : shift + (suc N - shift) ≡ suc N
    covers = omega (arith, enough, lengths, places)

    room : suc K ≤ (suc N - shift)
    room = let all = covers in omega (arith, all, enough, lengths, places)

    short : (i : ℕ) → N < i → d i ≡ 0
    short i above =
        ap d (back i above)
        ∙ high (i - shift)
        ∙ ap₂ bit_xor (shortest.register.short (shift + (i - shift)) (let all = covers in let space = room in
        omega (arith, above, most)))
        (ap (times a) (older.short (i - shift) (let all = covers in let space = room in
        omega (arith, above, all, space))) ∙ times-zero width 1 times field.ring a)
      where
        back : (i : ℕ) → N < i → i ≡ shift + (i - shift)
        back i above = let all = covers in let space = room in omega (arith, above, all, space)

    split : (p : ℕ) → register_sum times entry N d p
        ≡ bit_xor (register_sum times entry N c p) (times a (sum_below (λ i. times (b i) (entry (p - (shift + i))))
        (suc N - shift)))
    split p =
        sum-split (λ i. times (d i) (entry (p - i))) shift (suc N - shift) (suc N) covers
        ∙ ap₂ bit_xor
        (sum-same (λ i. times (d i) (entry (p - i))) (λ i. times (c i) (entry (p - i))) shift
        (λ i below. ap (λ (z : ℕ). times z (entry (p - i))) (low i below)))
        (sum-same (λ i. times (d (shift + i)) (entry (p - (shift + i))))
        (λ i. bit_xor (times (c (shift + i)) (entry (p - (shift + i))))
        (times a (times (b i) (entry (p - (shift + i)))))) (suc N - shift)
        (λ i below.
        ap (λ (z : ℕ). times z (entry (p - (shift + i)))) (high i)
        ∙ sum_times width 1 times field.ring (c (shift + i)) (times a (b i)) (entry (p - (shift + i)))
        ∙ ap (bit_xor (times (c (shift + i)) (entry (p - (shift + i)))))
        (field.ring.assoc a (b i) (entry (p - (shift + i)))))
        ∙ sum-add (λ i. times (c (shift + i)) (entry (p - (shift + i))))
        (λ i. times a (times (b i) (entry (p - (shift + i))))) (suc N - shift)
        ∙ ap (bit_xor (sum_below (λ i. times (c (shift + i)) (entry (p - (shift + i)))) (suc N - shift)))
        (sum-times width times wide field a (λ i. times (b i) (entry (p - (shift + i)))) (suc N - shift)))
        ∙ sym (xor_assoc (sum_below (λ i. times (c i) (entry (p - i))) shift)
        (sum_below (λ i. times (c (shift + i)) (entry (p - (shift + i)))) (suc N - shift))
        (times a (sum_below (λ i. times (b i) (entry (p - (shift + i)))) (suc N - shift))))
        ∙ ap (λ (z : ℕ). bit_xor z (times a (sum_below (λ i. times (b i) (entry (p - (shift + i)))) (suc N - shift))))
        (sym (sum-split (λ i. times (c i) (entry (p - i))) shift (suc N - shift) (suc N) covers))

    -- both sums are those of the registers by themselves
    now-sum : (p : ℕ) → register_sum times entry N c p ≡ register_sum times entry L c p
    now-sum p =
        sum-more (λ i. times (c i) (entry (p - i))) (suc L) (suc N) (omega (arith, most))
        (λ i above. ap (λ (z : ℕ). times z (entry (p - i))) (shortest.register.short i above)
        ∙ zero-times width 1 times field.ring (entry (p - i)))

    older-sum : (p r : ℕ) → shift + r ≡ p
        → sum_below (λ i. times (b i) (entry (p - (shift + i)))) (suc N - shift) ≡ register_sum times entry K b r
    older-sum p r sum =
        sum-same (λ i. times (b i) (entry (p - (shift + i)))) (λ i. times (b i) (entry (r - i))) (suc N - shift)
        (λ i below. ap (λ (z : ℕ). times (b i) (entry z)) (moved i))
        ∙ sum-more (λ i. times (b i) (entry (r - i))) (suc K) (suc N - shift) room
        (λ i above. ap (λ (z : ℕ). times z (entry (r - i))) (older.short i above)
        ∙ zero-times width 1 times field.ring (entry (r - i)))
      where
        moved : (i : ℕ) → p - (shift + i) ≡ r - i
        moved i = omega (arith, sum)

    sums : (p : ℕ) → N ≤ p → p < suc l → register_sum times entry N d p ≡ 0
    sums p least below =
        split p
        ∙ ap₂ bit_xor (now-sum p) (ap (times a) (older-sum p (p - shift)
        (omega (arith, least, enough, lengths, places))))
        ∙ choose (cases_lt p l)
      where
        last : l ≤ p → p ≡ l
        last at_least = omega (arith, below, at_least)

        there : l ≤ p → p - shift ≡ g
        there at_least = omega (arith, below, at_least, places)

        choose : (p < l) ⊎ (l ≤ p)
            → bit_xor (register_sum times entry L c p) (times a (register_sum times entry K b (p - shift))) ≡ 0
        choose (inl less) =
            ap₂ bit_xor (shortest.register.sums p (omega (arith, least, most)) less)
            (ap (times a) (older.sums (p - shift) (omega (arith, least, enough, lengths, places))
            (omega (arith, less, places)))
            ∙ times-zero width 1 times field.ring a)
        choose (inr at_least) =
            ap₂ bit_xor (ap (register_sum times entry L c) (last at_least))
            (ap (λ (r : ℕ). times a (register_sum times entry K b r)) (there at_least) ∙ meets)
            ∙ xor_self (register_sum times entry L c l)
