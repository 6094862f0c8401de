-- The changes of basis at 8, 64 and 128 bits are isomorphisms, and the tables compute them and their inverses.
use Rattle.std.proofs.Common.{◌≡◌, ℕ, ◌*◌, ◌^◌, ◌<◌, List, length, refl, sym, ◌∙◌, ap, subst, lit<}
use Rattle.std.specs.Prelude.{slice_index}
use Rattle.field_base.specs.Basis.{basis_image, AreRoots, IsHomomorphism, IsChangeOfBasis, aes_images, poly64_images, ghash_images}
use Rattle.field_base.specs.Field.{IsField}
use Rattle.field_base.specs.Remainder.{HasDegree, mul_mod, aes_modulus, poly64_modulus, ghash_modulus}
use Rattle.std.proofs.lemmas.Bool.{eqb-true}
use native.Mathlib.Nat.{zero-add}
use Rattle.field_base.proofs.AdditiveMaps.{agree_on_powers-true}
use Rattle.field_base.proofs.BasisColumns.{sum_of_columns, length-level_columns}
use Rattle.field_base.proofs.BasisIsomorphism.{basis_image-columns, homomorphism, basis_image-injective, basis_image-undoes, isomorphism, isomorphic-field}
use Rattle.field_base.proofs.TableChecks.{passes_at}
use Rattle.field_base.specs.ByteTables.{sum_of_entries}
use Rattle.word_tables.specs.declared.literals.to_polynomial.TheConstants.{TO_POLYNOMIAL_8, TO_POLYNOMIAL_64, TO_POLYNOMIAL_128}
use Rattle.word_tables.specs.declared.literals.to_tower.TheConstants.{TO_TOWER_8, TO_TOWER_64, TO_TOWER_128}
use Rattle.word_tables.proofs.TabledMaps.{columns_in, length-columns_in, tabled}
use Rattle.word_tables.proofs.TableFacts.{image_columns, undoes, is_root, ChangePasses, changes_pass}

-- a change of basis with two byte tables: the images are of roots, it is an isomorphism, and the tables compute it and its inverse
pub record IsChange (k width modulus : ℕ) (images : List ℕ) (rows : ℕ) (to_polynomial to_tower : List ℕ) : Type 0 where
  -- the images meet the equations of the roots that the tower adjoins
  pub roots : AreRoots width modulus images
  -- the change of basis is an isomorphism
  pub isomorphic : IsChangeOfBasis k width modulus images
  -- the polynomials are a field
  pub field : IsField width (mul_mod width modulus)
  -- the sums of the table's entries are images
  pub image : (x : ℕ) → sum_of_entries rows to_polynomial x ≡ basis_image width modulus images x
  -- the sum of the other table's entries is an element whose image is x
  pub element : (x r : ℕ) → x < 2 ^ width → r ≡ sum_of_entries rows to_tower x → basis_image width modulus images r ≡ x
  -- there is but one element with an image
  pub only : (x r : ℕ) → x < 2 ^ width → r < 2 ^ width → r ≡ sum_of_entries rows to_tower x → (a : ℕ) → a < 2 ^ width
      → basis_image width modulus images a ≡ x → a ≡ r

-- ---- any width

module _ (width modulus : ℕ) (wide : 0 < width) (degree : HasDegree width modulus) (images : List ℕ)
    (rows : ℕ) (to_polynomial to_tower : List ℕ) (pass : ChangePasses width modulus images rows to_polynomial to_tower) where
  -- the images meet the equations of the roots, since the check of each passes
  roots : AreRoots width modulus images
  unfolding is_root
  roots m below =
      eqb-true _ 0
      (ap (λ (k : ℕ). is_root width modulus images k (slice_index images m)) (sym (zero-add m))
      ∙ passes_at (is_root width modulus images) 0 images m pass.0 below)

  -- so the change of basis is a homomorphism
  keeps : IsHomomorphism (length images) width modulus images
  keeps = homomorphism width modulus wide degree images roots

  -- at every power of two the image of the inverse's column is that power
  at_powers : (i : ℕ) → i < width → basis_image width modulus images (sum_of_columns (columns_in rows to_tower) (2 ^ i)) ≡ 2 ^ i
  unfolding undoes
  at_powers i below =
      basis_image-columns width modulus wide degree images (sum_of_columns (columns_in rows to_tower) (2 ^ i))
      ∙ agree_on_powers-true
      (λ b. sum_of_columns (image_columns width modulus images) (sum_of_columns (columns_in rows to_tower) b)) (λ b. b)
      width pass.3 i below

  -- so the change of basis is an isomorphism
  whole : IsChangeOfBasis (length images) width modulus images
  whole = isomorphism width modulus wide degree images keeps (columns_in rows to_tower) at_powers

  -- the image of what the inverse's table gives at x is x
  image_of : (x r : ℕ) → x < 2 ^ width → r ≡ sum_of_entries rows to_tower x
      → basis_image width modulus images r ≡ x
  image_of x r fits of_r =
      ap (basis_image width modulus images)
      (of_r ∙ tabled rows (columns_in rows to_tower) to_tower x pass.2 (length-columns_in rows to_tower))
      ∙ basis_image-undoes width modulus wide degree images keeps (columns_in rows to_tower) at_powers x fits

  -- tables that pass the checks make a change of basis
  pub change : 2 ^ length images ≡ width → width ≡ 8 * rows
      → IsChange (length images) width modulus images rows to_polynomial to_tower
  change bits bytes = record {
    roots = roots;
    isomorphic = whole;
    field = isomorphic-field width modulus wide degree images whole bits;
    image = λ x. tabled rows (image_columns width modulus images) to_polynomial x pass.1
        (length-level_columns (mul_mod width modulus) (slice_index images) (length images) ∙ bits ∙ bytes)
        ∙ sym (basis_image-columns width modulus wide degree images x);
    element = image_of;
    only = λ x r fits r_fits of_r a a_fits of_a. basis_image-injective width modulus wide degree images keeps a r
        (subst (λ (n : ℕ). a < 2 ^ n) (sym bits) a_fits) (subst (λ (n : ℕ). r < 2 ^ n) (sym bits) r_fits)
        (of_a ∙ sym (image_of x r fits of_r));
  }

-- ---- 8, 64 and 128 bits

-- the change of basis at 8 bits
pub change_8 : IsChange 3 8 aes_modulus aes_images 1 TO_POLYNOMIAL_8 TO_TOWER_8
change_8 = change 8 aes_modulus (lit< tt) refl aes_images 1 TO_POLYNOMIAL_8 TO_TOWER_8 changes_pass.0 refl refl

-- the change of basis at 64 bits
pub change_64 : IsChange 6 64 poly64_modulus poly64_images 8 TO_POLYNOMIAL_64 TO_TOWER_64
change_64 =
    change 64 poly64_modulus (lit< tt) refl poly64_images 8 TO_POLYNOMIAL_64 TO_TOWER_64 changes_pass.1 refl refl

-- the change of basis at 128 bits
pub change_128 : IsChange 7 128 ghash_modulus ghash_images 16 TO_POLYNOMIAL_128 TO_TOWER_128
change_128 =
    change 128 ghash_modulus (lit< tt) refl ghash_images 16 TO_POLYNOMIAL_128 TO_TOWER_128 changes_pass.2 refl refl

-- level 3 of the tower is isomorphic to the polynomials modulo x^8 + x^4 + x^3 + x + 1
pub isomorphic_8 : IsChangeOfBasis 3 8 aes_modulus aes_images
isomorphic_8 = change_8.isomorphic

-- level 6 of the tower is isomorphic to the polynomials modulo x^64 + x^4 + x^3 + x + 1
pub isomorphic_64 : IsChangeOfBasis 6 64 poly64_modulus poly64_images
isomorphic_64 = change_64.isomorphic

-- level 7 of the tower is isomorphic to the polynomials modulo x^128 + x^7 + x^2 + x + 1
pub isomorphic_128 : IsChangeOfBasis 7 128 ghash_modulus ghash_images
isomorphic_128 = change_128.isomorphic

-- the polynomials modulo x^8 + x^4 + x^3 + x + 1 are a field
pub field_8 : IsField 8 (mul_mod 8 aes_modulus)
field_8 = change_8.field

-- the polynomials modulo x^64 + x^4 + x^3 + x + 1 are a field
pub field_64 : IsField 64 (mul_mod 64 poly64_modulus)
field_64 = change_64.field

-- the polynomials modulo x^128 + x^7 + x^2 + x + 1 are a field
pub field_128 : IsField 128 (mul_mod 128 ghash_modulus)
field_128 = change_128.field
