use Rattle.std.proofs.Common.{◌≡◌, ◌⊎◌, ◌↔◌, ℕ, ◌+◌, ◌<◌, true, subst, ◌∙◌, ap}
use Rattle.field_base.specs.Powers.{power}
use Rattle.error_codes.specs.BinaryBch.{IsSquaring}
use Rattle.reed_solomon.specs.ByteFields.{byte_times}
use Rattle.error_codes.specs.Filling.{is_marked}
use Rattle.error_codes.proofs.BinaryCodes.{conjugates-more, conjugates-none}
use Rattle.reed_solomon.proofs.ByteFields.{bytes_are_fields}
use Rattle.error_codes.proofs.binary_bch.marked_conjugates.Goals as goal

pub loop-m-init : goal.loop-m-init
loop-m-init c =
    let code = c.args.code.now in
    conjugates-none (byte_times code.field) (bytes_are_fields code.field) code.root

pub loop-m-preserved : goal.loop-m-preserved
loop-m-preserved c =
    let code = c.args.code.now in
    let times = byte_times code.field in
    let m = c.loop-m.m in
    let root_is = code.roots_are m c.loop-m-test.true ∙ ap (λ (first : ℕ). power 1 times code.root (first + m)) c.requires in
    conjugates-more times (bytes_are_fields code.field) code.root m c.loop-m.marks c.mark_squarings.new.marks c.loop-m.invariant
    (subst (λ (r : ℕ). (b : ℕ) → b < 256 → (is_marked c.mark_squarings.new.marks b ≡ true)
    ↔ ((is_marked c.loop-m.marks b ≡ true) ⊎ IsSquaring times r 8 b)) root_is c.mark_squarings.ensures)
