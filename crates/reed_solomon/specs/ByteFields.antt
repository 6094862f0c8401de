-- The fields of bytes that codes and shares use. A byte is a binary polynomial, of which bit i is the coefficient of x^i.
use Rattle.std.specs.Prelude.{ℕ}
use Rattle.field_base.specs.Remainder.{aes_modulus, mul_mod}
use Rattle.reed_solomon.specs.declared.byte_field.ByteField.{ByteField}
use Rattle.reed_solomon.specs.declared.byte_field.ByteField.TheVariants.{Qr, Ccsds, Rijndael}

-- x^8 + x^4 + x^3 + x^2 + 1 (ISO/IEC 18004, ETSI EN 300 421; RAID 6: H. P. Anvin, The mathematics of RAID-6, 2004; libgfshare),
-- x^8 + x^7 + x^2 + x + 1 (CCSDS 131.0-B), and x^8 + x^4 + x^3 + x + 1 (FIPS 197, section 4.2; SLIP-0039)
abbrev pub byte_modulus : ByteField → ℕ
byte_modulus Qr = 0x11d
byte_modulus Ccsds = 0x187
byte_modulus Rijndael = aes_modulus

-- the generator of the elements other than 0 that the standards take: x, x, and x + 1
abbrev pub byte_generator : ByteField → ℕ
byte_generator Qr = 2
byte_generator Ccsds = 2
byte_generator Rijndael = 3

-- the product of two bytes
abbrev pub byte_times : ByteField → ℕ → ℕ → ℕ
byte_times field = mul_mod 8 (byte_modulus field)
