use Rattle.std.proofs.Common.{◌≡◌, ◌+◌, ◌*◌, ◌≤◌, ◌++◌, length, drop}
use Rattle.xan_lin.specs.Text.{terms_text}
use Rattle.xan_lin.proofs.text.put_terms.Given as goal

abbrev pub invariant-loop-term : goal.invariant-loop-term
invariant-loop-term l =
    (l.text.items ++ terms_text (drop l.term-index l.terms) ≡ l.fn.text.items ++ terms_text l.terms)
    × (length l.text.items ≤ length l.fn.text.items + 82 * l.term-index)
