use Rattle.std.proofs.Common.{◌<◌, ◌^◌, ℕ, List, slice_index, sym, subst}
use Rattle.reed_solomon.specs.ByteFields.{byte_times}
use Rattle.error_codes.specs.Registers.{IsShortest}
use Rattle.error_codes.proofs.shift_registers.shortest_register.Goals as goal

pub write_register-size-requires-clause-elements : goal.write_register-size-requires-clause-elements
write_register-size-requires-clause-elements c = λ i below.
    subst (λ (l : List ℕ). slice_index l i < 2 ^ 8) (sym c.widen.ensures) (c.fits-entries i)

pub narrow-requires-clause-bytes : goal.narrow-requires-clause-bytes
narrow-requires-clause-bytes c = λ i below. c.write_register-size.ensures.fits i

pub returns : goal.returns
returns c =
    let shortest = λ (entries row : List ℕ).
    IsShortest (byte_times c.args.field) (slice_index entries) c.write_register-size.result c.args.count (slice_index row) in
    subst (shortest c.args.entries.now) (sym c.narrow.ensures)
    (subst (λ (entries : List ℕ). shortest entries c.write_register-size.new.coefficients) c.widen.ensures
    c.write_register-size.ensures.shortest)
