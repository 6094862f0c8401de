use Rattle.std.proofs.Common.{◌*◌, ◌%◌, ◌^◌, ◌≤◌, length, arith}
use Rattle.transcripts.proofs.CapPaths.{cap-room}
use Rattle.transcripts.proofs.merkle_tree.MerkleTree.cap.Goals as goal

pub overflow_mul-first : goal.overflow_mul-first
overflow_mul-first g c =
    let room = cap-room c.args.height c.args.self.now.depth c.requires c.args.self.now.few in
    omega (arith, room.0, room.1, room.2)

pub offset_bounds-as_slice-first : goal.offset_bounds-as_slice-first
offset_bounds-as_slice-first g c =
    let room = cap-room c.args.height c.args.self.now.depth c.requires c.args.self.now.few in
    omega (arith, room.0, room.1, room.2)

pub slice_bounds-from_slice-end : goal.slice_bounds-from_slice-end
slice_bounds-from_slice-end g c =
    let self = c.args.self.now in
    let room = cap-room c.args.height self.depth c.requires self.few in
    let all = self.all in
    let counted = self.nodes.ok.0 in
    let within : 2 * (1 * 2 ^ c.args.height % 18446744073709551616) ≤ length self.nodes.items = omega (arith, room.0, room.1, all, counted) in
    omega (arith, within)
