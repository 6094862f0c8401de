use Rattle.std.proofs.Common.{◌≡◌, ◌-◌, ◌<◌, drop, length}
use Rattle.field_base.specs.Powers.{value_of}
use Rattle.reed_solomon.specs.ByteFields.{byte_times}
use Rattle.error_codes.specs.Sharing.{bytes_at}
use Rattle.error_codes.proofs.splitting.share_byte.Given as goal

-- the value of the drawn coefficients that came so far
abbrev pub invariant-loop-back : goal.invariant-loop-back
invariant-loop-back l = record {
  fits : l.value < 256;
  so_far : l.value
      ≡ value_of 1 (byte_times l.fn.field) (λ c. c) (drop (l.others - l.back) (bytes_at (length l.secret) l.others l.draws l.place)) l.index;
}
