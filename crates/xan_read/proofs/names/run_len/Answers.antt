use Rattle.std.proofs.Common.{sym, arith}
use Rattle.xan_read.proofs.NameLaws.{run_more}
use Rattle.xan_read.proofs.names.run_len.Goals as goal

pub run-preserved : goal.run-preserved
run-preserved c =
    let more = run_more c.run.rest.now c.in-Some.others.now (sym c.in-Some.ensures) in
    record { so_far = omega (arith, c.run.invariant.so_far, more.longer); within = omega (arith, c.run.invariant.within, more.shorter) }

pub run-smaller : goal.run-smaller
run-smaller c =
    let more = run_more c.run.rest.now c.in-Some.others.now (sym c.in-Some.ensures) in
    omega (arith, more.shorter)
