use Rattle.std.proofs.Common.{rules, arith, ◌≡◌, ℕ, length, ◌+◌, ◌*◌, ◌/◌, sym, ◌∙◌, ap, ap₂}
use Rattle.std.specs.Simd.{first_chunks}
use Rattle.std.proofs.lemmas.List.{take_rest}
use Rattle.prove_sums.specs.Shapes.{element_count}
use Rattle.prove_sums.proofs.Files.{file_length, file_queries, file_rounds, left_of, nodes_of, queries_of, reads, right_of, rounds_of, sixteen}
use Rattle.prove_sums.proofs.proof_file.cut.Goals as goal

pub returns-then-bytes-lt-FRONT-clause-refused : goal.returns-then-bytes-lt-FRONT-clause-refused
returns-then-bytes-lt-FRONT-clause-refused c = λ field queries rounds left right body nodes is same.
    let size = file_length c.args.bytes.now field queries rounds left right body nodes is same in omega (arith, size, c.if-bytes-lt-FRONT.true)

pub returns-then-bytes-size-ne0-clause-refused : goal.returns-then-bytes-size-ne0-clause-refused
returns-then-bytes-size-ne0-clause-refused c = λ field queries rounds left right body nodes is same.
    let bytes = c.args.bytes.now in
    let opened = file_queries bytes field queries rounds left right body nodes is same in
    let number = file_rounds bytes field queries rounds left right body nodes is same in
    let fits : 16 * c.element_count-size.result ≡ length body =
    sixteen c.element_count-size.result (element_count (queries_of bytes) (rounds_of bytes))
    (c.element_count-size.ensures.count ∙ ap₂ element_count c.new-shape.ensures.queries c.new-shape.ensures.rounds)
    ∙ ap₂ (λ (m n : ℕ). element_count m n * 16) opened number ∙ sym is.body_size in
    let all = file_length bytes field queries rounds left right body nodes is same in
    omega (arith, fits, all, is.even, c.if-bytes-size-ne0.true)

pub returns-clause-file : goal.returns-clause-file
returns-clause-file c =
    let bytes = c.args.bytes.now in
    let size = 16 * c.element_count-size.result in
    let left : c.copy_from_slice.new.self ≡ left_of bytes = search rules in
    let right : c.copy_from_slice-2.new.self ≡ right_of bytes = search rules in
    let nodes : c.as_chunks.result.0.now ≡ nodes_of bytes size =
    c.as_chunks.ensures.front ∙ ap (λ l. first_chunks 32 (length l / 32) l) (take_rest bytes (74 + size)) in
    reads bytes c.in-Ok.field c.new-shape.result.queries c.new-shape.result.rounds c.copy_from_slice.new.self c.copy_from_slice-2.new.self c.part.result.now c.as_chunks.result.0.now size
    c.new-shape.ensures.queries c.new-shape.ensures.rounds left right c.part.ensures.values nodes
    (sixteen c.element_count-size.result (element_count c.new-shape.result.queries c.new-shape.result.rounds) c.element_count-size.ensures.count)
    c.new-shape.result.some_queries c.new-shape.result.few_queries c.new-shape.result.few
    (omega (arith, c.if-bytes-size.false)) (omega (arith, c.if-bytes-size-ne0.false)) c.in-Ok.ensures.named
