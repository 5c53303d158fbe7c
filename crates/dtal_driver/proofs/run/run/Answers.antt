use Rattle.std.proofs.Common.{rules, ◌≡◌, ◌-◌, ◌+◌, suc, FitsSigned, w64, arith}
use Rattle.std.proofs.lemmas.Int.{to_z-of_z}
use Rattle.dtal_driver.proofs.MachineRuns.{runs-begin, runs-going, runs-print, runs-cut, runs-returned, runs-no_store, runs-overflow, runs-spent}
use Rattle.dtal_driver.proofs.run.run.Goals as goal
use Rattle.dtal_driver.proofs.run.run.Goals.{in-Going, in-Print+in_ok-put_number-in-Print}

pub loop-step-init : goal.loop-step-init
loop-step-init g c = runs-begin c.args.machine c.args.steps _ (g.O.Sink.written c.args.out.now) (g.O.Sink.faults c.args.out.now) (omega arith) c.requires

pub loop-step-preserved : goal.loop-step-preserved
loop-step-preserved g c =
    let one : c.args.steps - c.loop-step.step ≡ suc (c.args.steps - (c.loop-step.step + 1)) = omega arith in
    elim c.match-step.branch [
      | in-Going w ↦
          let on = runs-going _ _ _ _ _ _ _ c.loop-step.invariant _ one c.step.new.self w.in-Going.ensures.state w.in-Going.ensures.told in
          rw w.out-is on
      | in-Print+in_ok-put_number-in-Print w ↦
          let fits : FitsSigned w64 w.in-Print.number = search rules in
          let on =
          runs-print _ _ _ _ _ _ _ c.loop-step.invariant _ one c.step.new.self w.in-Print.number _ _ _ w.in-Print.ensures.state w.in-Print.ensures.told
          (to_z-of_z w64 w.in-Print.number fits) w.in_ok-put_number-in-Print.ensures.appended w.in_ok-put_number-in-Print.ensures.counted in
          rw w.out-is on
    ]

pub returns-in_err-put_number-in-Print-clause-prefix : goal.returns-in_err-put_number-in-Print-clause-prefix
returns-in_err-put_number-in-Print-clause-prefix g c =
    let one : c.args.steps - c.loop-step.step ≡ suc (c.args.steps - (c.loop-step.step + 1)) = omega arith in
    let fits : FitsSigned w64 c.in-Print.number = search rules in
    let part =
    runs-cut _ _ _ _ _ _ _ c.loop-step.invariant _ one c.in-Print.number _ _ c.in-Print.ensures.told (to_z-of_z w64 c.in-Print.number fits)
    c.in_err-put_number-in-Print.ensures.prefix in
    search (rules, part)

pub returns-in-Returned-clause-ended : goal.returns-in-Returned-clause-ended
returns-in-Returned-clause-ended g c =
    let one : c.args.steps - c.loop-step.step ≡ suc (c.args.steps - (c.loop-step.step + 1)) = omega arith in
    let end = (runs-returned _ _ _ _ _ _ _ c.loop-step.invariant _ one c.in-Returned.word c.in-Returned.ensures.told).1 in
    search (rules, end)

pub returns-in-Returned-clause-appended : goal.returns-in-Returned-clause-appended
returns-in-Returned-clause-appended g c =
    let one : c.args.steps - c.loop-step.step ≡ suc (c.args.steps - (c.loop-step.step + 1)) = omega arith in
    (runs-returned _ _ _ _ _ _ _ c.loop-step.invariant _ one c.in-Returned.word c.in-Returned.ensures.told).0

pub returns-in-Overflow-clause-ended : goal.returns-in-Overflow-clause-ended
returns-in-Overflow-clause-ended g c =
    let one : c.args.steps - c.loop-step.step ≡ suc (c.args.steps - (c.loop-step.step + 1)) = omega arith in
    (runs-overflow _ _ _ _ _ _ _ c.loop-step.invariant _ one c.in-Overflow.ensures.told).1

pub returns-in-Overflow-clause-appended : goal.returns-in-Overflow-clause-appended
returns-in-Overflow-clause-appended g c =
    let one : c.args.steps - c.loop-step.step ≡ suc (c.args.steps - (c.loop-step.step + 1)) = omega arith in
    (runs-overflow _ _ _ _ _ _ _ c.loop-step.invariant _ one c.in-Overflow.ensures.told).0

pub returns-in-NoStore-clause-ended : goal.returns-in-NoStore-clause-ended
returns-in-NoStore-clause-ended g c =
    let one : c.args.steps - c.loop-step.step ≡ suc (c.args.steps - (c.loop-step.step + 1)) = omega arith in
    (runs-no_store _ _ _ _ _ _ _ c.loop-step.invariant _ one c.in-NoStore.ensures.told).1

pub returns-in-NoStore-clause-appended : goal.returns-in-NoStore-clause-appended
returns-in-NoStore-clause-appended g c =
    let one : c.args.steps - c.loop-step.step ≡ suc (c.args.steps - (c.loop-step.step + 1)) = omega arith in
    (runs-no_store _ _ _ _ _ _ _ c.loop-step.invariant _ one c.in-NoStore.ensures.told).0

pub returns-clause-ended : goal.returns-clause-ended
returns-clause-ended g c =
    let none : c.args.steps - c.loop-step.step ≡ 0 = omega arith in
    (runs-spent _ _ _ _ _ _ _ c.loop-step.invariant none).1

pub returns-clause-appended : goal.returns-clause-appended
returns-clause-appended g c =
    let none : c.args.steps - c.loop-step.step ≡ 0 = omega arith in
    (runs-spent _ _ _ _ _ _ _ c.loop-step.invariant none).0
