use Rattle.std.proofs.Common.{◌≢◌, ◌%◌, ◌*◌, arith}
use Rattle.std.specs.List.{slice_index_or}
use Rattle.dtal_machine.proofs.AdvancedRuns.{call_ready, call_done, return_ready, return_done, other_ready, other_done}
use Rattle.dtal_machine.proofs.advance.advance.Goals as goal

pub call-requires-clause-few : goal.call-requires-clause-few
call-requires-clause-few c = (call_ready c.args.words.now c.args.starts.now c.args.run.now c.requires.shape c.requires.stands c.requires.goes c.in-14.is).few

pub call-requires-clause-there : goal.call-requires-clause-there
call-requires-clause-there c = (call_ready c.args.words.now c.args.starts.now c.args.run.now c.requires.shape c.requires.stands c.requires.goes c.in-14.is).there

pub give-requires-clause-caller : goal.give-requires-clause-caller
give-requires-clause-caller c = return_ready c.args.words.now c.args.starts.now c.args.run.now c.requires.shape c.requires.stands c.requires.goes c.in-15.is

pub go-requires-clause-goes : goal.go-requires-clause-goes
go-requires-clause-goes c =
    let first = slice_index_or c.args.words.now (2 * c.args.run.now.at) 0 in
    let not_call : first % 256 ≢ 14 = λ e. absurd (omega (arith, e)) in
    let not_return : first % 256 ≢ 15 = λ e. absurd (omega (arith, e)) in
    other_ready c.args.words.now c.args.starts.now c.args.run.now c.requires.shape c.requires.stands c.requires.goes not_call not_return

pub returns-in-14-clause-exact : goal.returns-in-14-clause-exact
returns-in-14-clause-exact c = call_done c.args.words.now c.args.starts.now c.args.run.now c.requires.shape c.requires.stands c.in-14.is _ c.call.ensures.exact

pub returns-in-15-clause-exact : goal.returns-in-15-clause-exact
returns-in-15-clause-exact c = return_done c.args.words.now c.args.starts.now c.args.run.now c.requires.shape c.requires.stands c.in-15.is _ c.give.ensures.exact

pub returns-in_default-clause-exact : goal.returns-in_default-clause-exact
returns-in_default-clause-exact c = other_done c.args.words.now c.args.starts.now c.args.run.now c.requires.shape c.requires.stands c.requires.goes _ c.go.ensures.exact
