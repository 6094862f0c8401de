use Rattle.std.proofs.Common.{◌≡◌, ◌^◌, ℕ, List, [], ◌∷◌, slice_index, sym}
use Rattle.field_base.proofs.EightCases.{eight_cases}
use Rattle.field_base.proofs.LinearMapLemmas.{the_linear_map}
use Rattle.field_base.proofs.RingLemmas.{sum_times}
use Rattle.reed_solomon.specs.ByteFields.{byte_times}
use Rattle.reed_solomon.proofs.ByteFields.{bytes_are_fields}
use Rattle.reed_solomon.proofs.byte_field.images_of.Goals as goal

pub returns : goal.returns
returns c = λ x fits.
    sym ((the_linear_map images).only product (λ y z. sum_times 8 1 (byte_times c.args.field) (bytes_are_fields c.args.field).ring y z c.args.factor)
    (eight_cases (λ j. product (2 ^ j) ≡ slice_index images j) (sym c.multiply.ensures) (sym c.multiply-2.ensures) (sym c.multiply-3.ensures)
    (sym c.multiply-4.ensures) (sym c.multiply-5.ensures) (sym c.multiply-6.ensures) (sym c.multiply-7.ensures) (sym c.multiply-8.ensures)) x fits)
  where
    product : ℕ → ℕ
    product x = byte_times c.args.field x c.args.factor

    images : List ℕ
    images = c.multiply.result ∷ c.multiply-2.result ∷ c.multiply-3.result ∷ c.multiply-4.result ∷ c.multiply-5.result ∷ c.multiply-6.result
        ∷ c.multiply-7.result ∷ c.multiply-8.result ∷ []
