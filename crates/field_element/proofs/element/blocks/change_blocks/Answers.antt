use Rattle.std.proofs.Common.{◌≡◌, ◌+◌, ◌-◌, ◌≤◌, length, arith}
use Rattle.field_element.specs.Element.{repr_of}
use Rattle.field_element.proofs.ChangedPlaces.{changed-all, changed-none, changed-block}
use Rattle.field_element.proofs.element.blocks.change_blocks.Goals as goal

pub loop-start-init : goal.loop-start-init
loop-start-init g c = (omega arith, changed-none repr_of _ c.args.elements.now)

pub loop-start-preserved : goal.loop-start-preserved
loop-start-preserved g c =
    let start = c.loop-start.start in
    let size = c.min-size.result in
    let next : start + size ≡ start + (start + size - start) = omega arith in
    let room : start + (start + size - start) ≤ length c.args.elements.now = omega arith in (
      omega arith,
      changed-block repr_of _ c.args.elements.now c.loop-start.elements c.change_block.new.elements start (start + size - start) (start + size)
          next room c.change_block.ensures.long c.change_block.ensures.results c.loop-start.invariant.1,
    )

pub returns : goal.returns
returns g c = changed-all repr_of _ _ _ c.loop-start.start c.loop-start.invariant.1 (omega arith)
