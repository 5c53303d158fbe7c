use Rattle.std.proofs.Common.{◌≡◌, ◌+◌, length, arith}
use Rattle.dtal_machine.proofs.Frames.{filled}
use Rattle.dtal_machine.proofs.calls.put_places.Goals as goal

pub returns-clause-places : goal.returns-clause-places
returns-clause-places c =
    let end : c.len.result + 256 ≡ length c.args.places.now.items + 256 = omega arith in
    filled c.args.places.now.items c.args.words.now c.extend_from_slice.new.self.items c.resize.new.self.items (c.len.result + 256) _ c.in-Ok.ensures.items c.requires.few end
    (omega arith) c.in-Ok-resize.ensures.items
