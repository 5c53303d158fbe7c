use Rattle.std.proofs.Common.{◌≡◌, ◌∙◌, ap, subst, List, length, arith}
use Rattle.std.specs.List.{slice_index_or}
use Rattle.dtal_code.specs.declared.program.Function.{Function}
use Rattle.dtal_machine.specs.Loading.{IsProgramOf}
use Rattle.dtal_machine.proofs.MainEntry.{main_is, is_within, program_of}
use Rattle.dtal_machine.proofs.signature.main_signature.Goals as goal

pub bounds-as_slice-object : goal.bounds-as_slice-object
bounds-as_slice-object c =
    let program = c.args.program.now in
    let object = c.args.object.now in
    let less = is_within program object.main (main_is program object c.requires.object) in
    omega (arith, less, ap length c.as_slice.ensures)

pub returns : goal.returns
returns c =
    let program = c.args.program.now in
    let object = c.args.object.now in
    let fun = c.index-as_slice-object.result in
    let read = c.index-as_slice-object.is ∙ ap (λ (fs : List Function). slice_index_or fs object.main fun) c.as_slice.ensures in
    subst (λ (f : Function). IsProgramOf object f.sig program) c.index-as_slice-object.is (program_of program object fun c.requires.accepted c.requires.object read)
