use Rattle.std.proofs.Common.{◌≡◌, map, take, string_bytes}
use Rattle.xan_io.proofs.words.text_of_each.Given as goal

abbrev pub invariant-loop-word : goal.invariant-loop-word
invariant-loop-word l = map (λ text. text.now) l.texts.items ≡ map string_bytes (take l.word-index l.words)
