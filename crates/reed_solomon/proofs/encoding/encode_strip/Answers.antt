use Rattle.std.proofs.Common.{map}
use Rattle.additive_transforms.specs.Columns.{column_of}
use Rattle.additive_transforms.specs.Words.{level_element}
use Rattle.reed_solomon.proofs.encoding.encode_strip.Goals as goal

pub returns-clause-encoded : goal.returns-clause-encoded
returns-clause-encoded g c =
    let element = level_element g.R.Stored.number g.L.Level.LEVEL in
    λ k inside.
    record {
      coefficients = column_of c.args.strip.width k (map element c.interpolate.new.coefficients);
      of_data = c.interpolate.ensures.of_data k inside;
      of_parity = λ t below. c.write_parity.ensures.written k inside t below below;
    }
