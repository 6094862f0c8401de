use Rattle.std.proofs.Common.{◌∷◌, []}
use Rattle.field_base.specs.Chunks.{chunks}
use Rattle.field_element.proofs.triple_bytes.bytes_of.Goals as goal

-- byte by byte
pub returns : goal.returns
unfolding chunks
returns c =
    λ i. c.byte_of.ensures i ∷ c.byte_of-2.ensures i ∷ c.byte_of-3.ensures i ∷ c.byte_of-4.ensures i ∷ c.byte_of-5.ensures i ∷ c.byte_of-6.ensures i
    ∷ c.byte_of-7.ensures i ∷ c.byte_of-8.ensures i ∷ c.byte_of-9.ensures i ∷ c.byte_of-10.ensures i ∷ c.byte_of-11.ensures i ∷ c.byte_of-12.ensures i
    ∷ c.byte_of-13.ensures i ∷ c.byte_of-14.ensures i ∷ c.byte_of-15.ensures i ∷ c.byte_of-16.ensures i ∷ c.byte_of-17.ensures i ∷ c.byte_of-18.ensures i
    ∷ c.byte_of-19.ensures i ∷ c.byte_of-20.ensures i ∷ c.byte_of-21.ensures i ∷ c.byte_of-22.ensures i ∷ c.byte_of-23.ensures i ∷ c.byte_of-24.ensures i
    ∷ []
