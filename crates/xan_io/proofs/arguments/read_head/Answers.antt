use Rattle.xan_io.proofs.arguments.read_head.Goals as goal

pub returns : goal.returns
returns c = rw (← c.as_slice.ensures, ← c.as_slice-2.ensures, ← c.as_slice-3.ensures, ← c.as_slice-4.ensures) c.word.ensures
