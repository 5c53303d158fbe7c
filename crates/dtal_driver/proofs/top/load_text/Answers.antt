use Rattle.std.proofs.Common.{rules, subst}
use Rattle.dtal_code.specs.declared.program.DtalProgram.{DtalProgram}
use Rattle.dtal_driver.specs.Words.{Run}
use Rattle.dtal_driver.specs.Causes.{IsLoaded, IsNotLoaded}
use Rattle.dtal_driver.proofs.Commands.{denied-cause, not_loaded-cause, loaded-from, if_ok-from, if_err-from}
use Rattle.dtal_driver.proofs.top.load_text.Goals as goal

pub returns-in_err-verified-clause-caused : goal.returns-in_err-verified-clause-caused
returns-in_err-verified-clause-caused g c =
    let cause =
    denied-cause (g.F.Files.content c.args.files.now) (Run c.args.text.now c.args.limits c.args.args.now) (g.F.Files.read_faults c.args.files.now)
    (g.F.Files.read_faults c.verified_program.new.files) _ c.in_err-verified.ensures.denied in
    search (rules, cause)

pub returns-clause-loaded : goal.returns-clause-loaded
returns-clause-loaded g c =
    if_ok-from (IsLoaded c.program.result.now c.args.limits c.args.args.now) _
    (λ machine loads.
    loaded-from (g.F.Files.content c.args.files.now) c.args.text.now c.args.limits c.args.args.now c.in_ok-verified.verified.program c.in_ok-verified.ensures.verified machine
    (subst (λ (p : DtalProgram). IsLoaded p c.args.limits c.args.args.now machine) c.program.ensures loads)) c.load.result c.load.ensures.loaded

pub returns-clause-caused : goal.returns-clause-caused
returns-clause-caused g c =
    if_err-from (IsNotLoaded c.program.result.now c.args.limits c.args.args.now) _
    (λ said not_loaded.
    not_loaded-cause (g.F.Files.content c.args.files.now) c.args.text.now c.args.limits c.args.args.now c.in_ok-verified.verified.program c.in_ok-verified.ensures.verified
    (g.F.Files.read_faults c.args.files.now) (g.F.Files.read_faults c.verified_program.new.files) said
    (subst (λ (p : DtalProgram). IsNotLoaded p c.args.limits c.args.args.now said) c.program.ensures not_loaded)) c.load.result c.load.ensures.not_loaded
