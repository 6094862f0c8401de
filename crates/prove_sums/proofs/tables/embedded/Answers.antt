use Rattle.std.proofs.Common.{ℕ, ◌%◌, ◌^◌, List, length, map, ◌∙◌, ap, arith}
use Rattle.field_bytes.specs.Bytes.{number_of_bytes}
use Rattle.field_element.specs.Element.{repr_of}
use Rattle.field_slices.proofs.PowerLists.{pushed}
use Rattle.transcripts.specs.Commitments.{row_at}
use Rattle.protocols.proofs.ProofBytes.{part-fits, part-size}
use Rattle.additive_transforms.specs.Images.{tower_image}
use Rattle.prove_sums.proofs.TableWords.{words-embedded}
use Rattle.prove_sums.proofs.tables.embedded.Goals as goal

pub row_of-requires : goal.row_of-requires
row_of-requires c = part-fits (length c.args.bytes.now) c.words.index c.args.size (omega arith)

pub of_low_first-requires : goal.of_low_first-requires
of_low_first-requires c =
    let long = ap length c.row_of.ensures ∙ part-size c.args.bytes.now c.words.index c.args.size (omega arith) in
    omega (arith, long, c.requires.few)

pub words-preserved : goal.words-preserved
words-preserved c =
    ap (map repr_of) c.in_ok-push.ensures.items
    ∙ pushed repr_of (λ p. number_of_bytes (row_at c.args.size c.args.bytes.now p) % 2 ^ 128) c.words.words.items c.words.index
    c.of_low_first.result c.words.invariant
    (c.of_low_first.ensures ∙ ap (λ (bs : List ℕ). number_of_bytes bs % 2 ^ 128) c.row_of.ensures)

pub returns-clause-images : goal.returns-clause-images
returns-clause-images c =
    words-embedded repr_of repr_of c.args.size c.args.bytes.now c.words.index c.words.words.items c.in_ok-elements.elements.items
    c.words.invariant
    (c.in_ok-elements.ensures ∙ ap (λ (l : List _). map (λ x. tower_image (repr_of x)) l) c.as_slice.ensures.value)
    (omega arith) (omega arith)
