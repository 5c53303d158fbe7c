use Rattle.std.proofs.Common.{◌≡◌, drop}
use Rattle.xan_io.specs.Words.{texts}
use Rattle.run_options.specs.Requests.{args_of}
use Rattle.run_options.proofs.ArgumentWords.{behind}
use Rattle.run_options.proofs.request.read_args.Given as goal

abbrev pub invariant-loop-word : goal.invariant-loop-word
invariant-loop-word l = behind l.args.items (args_of (texts (drop l.word-index l.words))) ≡ args_of (texts l.words)
