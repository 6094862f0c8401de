use Rattle.std.proofs.Common.{◌-◌, ◌∙◌, arith}
use Rattle.std.specs.Prelude.{slice_index}
use Rattle.reed_solomon.specs.ByteFields.{byte_times}
use Rattle.error_codes.specs.Filling.{is_marked}
use Rattle.error_codes.proofs.BinaryCodes.{generator-bits, generator-zeros, marks-agree}
use Rattle.reed_solomon.proofs.ByteFields.{bytes_are_fields}
use Rattle.error_codes.proofs.binary_bch.BinaryBch.of_code.Goals as goal

pub invariant_of-result : goal.invariant_of-result
invariant_of-result c =
    let code = c.args.code.now in
    let times = byte_times code.field in
    let field = bytes_are_fields code.field in
    let roots = code.word_length - code.dimension in
    let marks = c.marked_conjugates.result in
    let count = c.list_bytes-checks.result in
    let g = slice_index c.generator_polynomial-generator.result in
    record {
      narrow = c.requires;
      some_data = omega arith;
      counted = λ marked them.
          c.list_bytes-checks.ensures.count
          ∙ marks-agree times field code.root roots (is_marked marks) marked c.marked_conjugates.ensures them;
      monic = c.generator_polynomial-generator.ensures.monic;
      bits =
          generator-bits times field code.root roots (is_marked marks) c.marked_conjugates.ensures count c.list_bytes-checks.ensures.count
          c.list_bytes-checks.new.bytes c.list_bytes-checks.ensures.listed g c.generator_polynomial-generator.ensures.monic
          c.bytes_fit.ensures c.generator_polynomial-generator.ensures.zeros;
      zeros =
          generator-zeros times field code.root roots (is_marked marks) c.marked_conjugates.ensures count c.list_bytes-checks.ensures.count
          c.list_bytes-checks.new.bytes c.list_bytes-checks.ensures.listed g c.generator_polynomial-generator.ensures.monic
          c.bytes_fit.ensures c.generator_polynomial-generator.ensures.zeros;
    }
