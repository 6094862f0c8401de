-- What the calls over bytes do of a word of images, as the calls over the field of 16 elements have it.
use Rattle.std.proofs.Common.{◌≡◌, ℕ, ◌+◌, ◌<◌, Bool, true, List, length, map, sym, ◌∙◌, ap, subst, arith}
use Rattle.std.specs.Prelude.{◌↔◌, nat_eq, not, slice_index}
use Rattle.std.proofs.lemmas.List.{get_or-map, length-map}
use Rattle.reed_solomon.specs.ByteFields.{byte_times}
use Rattle.error_codes.specs.Checks.{AreScaled}
use Rattle.error_codes.specs.Correcting.{HasOrder, HasRoots, IsMeant}
use Rattle.error_codes.specs.Generators.{power_point, power_scale}
use Rattle.error_codes.specs.Nibbles.{AreNibbles, IsMeantNibbles, lowered, nibble_root, nibble_times, raised}
use Rattle.reed_solomon.specs.declared.byte_field.ByteField.{ByteField}
use Rattle.reed_solomon.specs.declared.byte_field.ByteField.TheVariants.{Qr}
use Rattle.error_codes.proofs.NibbleFields.{bytes, frobenius, kept-lowered, lowered-order, lowered-raised, lowered-roots, nibble-power-lt, raised-kept}
use Rattle.error_codes.proofs.NibbleFields.{raised-order, raised-roots}
use Rattle.error_codes.proofs.NibbleWords.{changes-raised, code-kept, lowered-meant, lowered-word, raised-meant, raised-word}

-- the root of a code is an element
root_fits : (step : ℕ) → nibble_root step < 16
root_fits step = nibble-power-lt 2 step

module _ (field : ByteField) (root step : ℕ) (of_bytes : field ≡ Qr) (root_is : root ≡ raised (nibble_root step)) where
  -- what holds over the field and the root of a code of bytes holds over those that they are
  to_bytes : (holds : (ℕ → ℕ → ℕ) → ℕ → Type 0) → holds (byte_times field) root → holds bytes (raised (nibble_root step))
  to_bytes holds fact =
      subst (λ (f : ByteField). holds (byte_times f) (raised (nibble_root step))) of_bytes
      (subst (λ (r : ℕ). holds (byte_times field) r) root_is fact)

  from_bytes : (holds : (ℕ → ℕ → ℕ) → ℕ → Type 0) → holds bytes (raised (nibble_root step)) → holds (byte_times field) root
  from_bytes holds fact =
      subst (λ (r : ℕ). holds (byte_times field) r) (sym root_is)
      (subst (λ (f : ByteField). holds (byte_times f) (raised (nibble_root step))) (sym of_bytes) fact)

  pub order-lowered : (n : ℕ) → HasOrder (byte_times field) root n → HasOrder nibble_times (nibble_root step) n
  order-lowered n order =
      lowered-order (nibble_root step) n (root_fits step) (to_bytes (λ times r. HasOrder times r n) order)

  pub order-raised : (n : ℕ) → HasOrder nibble_times (nibble_root step) n → HasOrder (byte_times field) root n
  order-raised n order =
      from_bytes (λ times r. HasOrder times r n) (raised-order (nibble_root step) n (root_fits step) order)

  -- ---- code words

  pub word-told : (said : Bool) (first n checks : ℕ) (word own : List ℕ) → length word ≡ n → own ≡ map raised word
      → AreNibbles (length word) word
      → ((said ≡ true) ↔ ((length own ≡ n) × HasRoots (byte_times field) root first checks own))
      → ((said ≡ true) ↔ ((length word ≡ n) × AreNibbles (length word) word
      × HasRoots nibble_times (nibble_root step) first checks word))
  word-told said first n checks word own long own_is elements told = (
    λ yes. (
      long,
      elements,
      lowered-roots (nibble_root step) first checks word (root_fits step) elements
          (subst (λ (w : List ℕ). HasRoots bytes (raised (nibble_root step)) first checks w) own_is
          (to_bytes (λ times r. HasRoots times r first checks own) (told.0 yes).1)),
    ),
    λ holds.
        told.1 (
          ap (λ (w : List ℕ). length w) own_is ∙ length-map word raised ∙ long,
          from_bytes (λ times r. HasRoots times r first checks own)
              (subst (λ (w : List ℕ). HasRoots bytes (raised (nibble_root step)) first checks w) (sym own_is)
              (raised-roots (nibble_root step) first checks word (root_fits step) elements holds.2)),
        ),
  )

  -- ---- words that are meant

  module _ (first n checks : ℕ) (word own erasures : List ℕ) (long : length word ≡ n) (own_is : own ≡ map raised word) where
    pub meant-bytes : (sent : List ℕ) → IsMeantNibbles (nibble_root step) first n checks word erasures sent
        → IsMeant (byte_times field) root first n checks own erasures (map raised sent)
    meant-bytes sent meant =
        let plain = meant.1 in
        from_bytes (λ times r. IsMeant times r first n checks own erasures (map raised sent))
        (subst (λ (w : List ℕ). IsMeant bytes (raised (nibble_root step)) first n checks w erasures (map raised sent)) (sym own_is)
        (raised-meant (nibble_root step) first n checks (root_fits step) word erasures sent long plain.count meant.0 plain))

    -- the symbols that come of the bytes of such a word
    pub sent-lowered : (sent fixed symbols : List ℕ) → IsMeantNibbles (nibble_root step) first n checks word erasures sent
        → fixed ≡ map raised sent → symbols ≡ map lowered fixed → symbols ≡ sent
    sent-lowered sent fixed symbols meant fixed_is symbols_is =
        let plain = meant.1 in
        let count = plain.count in
        symbols_is ∙ ap (λ (w : List ℕ). map lowered w) fixed_is
        ∙ lowered-word sent (λ i below. meant.0 i (omega (arith, below, count)))

    module _ (fixed symbols : List ℕ) (symbols_are : symbols ≡ map lowered fixed) (elements : AreNibbles (length symbols) symbols)
        (meant : IsMeant (byte_times field) root first n checks own erasures fixed) where
      symbols-long : length symbols ≡ n
      symbols-long = let count = meant.count in ap (λ (w : List ℕ). length w) symbols_are ∙ length-map fixed lowered ∙ count

      raised-back : map raised symbols ≡ fixed
      raised-back =
          let count = meant.count in
          ap (λ (w : List ℕ). map raised w) symbols_are
          ∙ raised-word fixed (λ i below. meant.symbols i (omega (arith, below, count)))
          (subst (λ (w : List ℕ). AreNibbles (length fixed) w) symbols_are
          (λ i below. elements i (omega (arith, below, count, symbols-long))))

      pub symbols-meant : IsMeantNibbles (nibble_root step) first n checks word erasures symbols
      symbols-meant =
          lowered-meant (nibble_root step) first n checks (root_fits step) word erasures symbols long symbols-long
          (λ i below. elements i (omega (arith, below, symbols-long)))
          (subst (λ (w : List ℕ). IsMeant bytes (raised (nibble_root step)) first n checks (map raised word) erasures w)
          (sym raised-back)
          (subst (λ (w : List ℕ). IsMeant bytes (raised (nibble_root step)) first n checks w erasures fixed) own_is
          (to_bytes (λ times r. IsMeant times r first n checks own erasures fixed) meant)))

      pub changes-told : (i : ℕ) → i < n
          → not (nat_eq (slice_index own i) (slice_index fixed i)) ≡ not (nat_eq (slice_index word i) (slice_index symbols i))
      changes-told i below =
          ap (λ (w : List ℕ). not (nat_eq (slice_index w i) (slice_index fixed i))) own_is
          ∙ ap (λ (w : List ℕ). not (nat_eq (slice_index (map raised word) i) (slice_index w i))) (sym raised-back)
          ∙ changes-raised word symbols i (omega (arith, below, long)) (omega (arith, below, symbols-long))
          (elements i (omega (arith, below, symbols-long)))

  -- ---- words that are encoded

  module _ (first n checks k : ℕ) (word own coded symbols : List ℕ) (split : k + checks ≡ n) (long : length word ≡ n)
      (own_is : own ≡ map raised word) (elements : AreNibbles k word) (as_long : length coded ≡ length own)
      (kept : (i : ℕ) → i < k → slice_index coded i ≡ slice_index own i)
      (fits : (i : ℕ) → slice_index coded i < 256) (roots : HasRoots (byte_times field) root first checks coded)
      (scaled : AreScaled 8 n (power_point (byte_times field) root) (power_scale (byte_times field) root first))
      (symbols_are : symbols ≡ map lowered coded) where
    coded-long : length coded ≡ n
    coded-long = as_long ∙ ap (λ (w : List ℕ). length w) own_is ∙ length-map word raised ∙ long

    -- a byte of the data is that of its symbol
    front-is : (i : ℕ) → i < k → slice_index coded i ≡ raised (slice_index word i)
    front-is i below =
        kept i below ∙ ap (λ (w : List ℕ). slice_index w i) own_is
        ∙ get_or-map raised word i 0 0 (omega (arith, below, long, split))

    symbol-is : (i : ℕ) → i < n → slice_index symbols i ≡ lowered (slice_index coded i)
    symbol-is i below =
        ap (λ (w : List ℕ). slice_index w i) symbols_are ∙ get_or-map lowered coded i 0 0 (omega (arith, below, coded-long))

    pub encoded-elements : AreNibbles n symbols
    encoded-elements i below =
        subst (λ (v : ℕ). v < 16) (sym (symbol-is i below))
        (kept-lowered (slice_index coded i) (fits i)
        (code-kept (nibble_root step) first n checks k coded (root_fits step) split coded-long
        (to_bytes (λ times r. AreScaled 8 n (power_point times r) (power_scale times r first)) scaled) (λ j inside. fits j)
        (to_bytes (λ times r. HasRoots times r first checks coded) roots)
        (λ j front.
        ap (λ (v : ℕ). frobenius v) (front-is j front) ∙ raised-kept (slice_index word j) (elements j front)
        ∙ sym (front-is j front))
        i below))

    pub encoded-kept : (i : ℕ) → i < k → slice_index symbols i ≡ slice_index word i
    encoded-kept i below =
        symbol-is i (omega (arith, below, split)) ∙ ap lowered (front-is i below)
        ∙ lowered-raised (slice_index word i) (elements i below)

    pub encoded-roots : HasRoots nibble_times (nibble_root step) first checks symbols
    encoded-roots =
        lowered-roots (nibble_root step) first checks symbols (root_fits step) whole
        (subst (λ (w : List ℕ). HasRoots bytes (raised (nibble_root step)) first checks w) (sym back)
        (to_bytes (λ times r. HasRoots times r first checks coded) roots))
      where
        symbols-long : length symbols ≡ n
        symbols-long = ap (λ (w : List ℕ). length w) symbols_are ∙ length-map coded lowered ∙ coded-long

        whole : AreNibbles (length symbols) symbols
        whole i below = encoded-elements i (omega (arith, below, symbols-long))

        back : map raised symbols ≡ coded
        back =
            ap (λ (w : List ℕ). map raised w) symbols_are
            ∙ raised-word coded (λ i below. fits i)
            (subst (λ (w : List ℕ). AreNibbles (length coded) w) symbols_are
            (λ i below. encoded-elements i (omega (arith, below, coded-long))))
