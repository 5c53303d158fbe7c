use Rattle.std.proofs.Common.{◌≡◌, length, map, ◌++◌, ◌+◌, ◌≤◌, false}
use Rattle.typed_core.specs.Forms.{term_of}
use Rattle.xan_lin.specs.Linear.{all_within}
use Rattle.arrayvec.specs.ArrayVec.{array_vec_len}
use Rattle.header_elaborator.proofs.forms.narrowed_terms.Given as goal

abbrev pub invariant-loop-terms : goal.invariant-loop-terms
invariant-loop-terms l = (l.narrow.items ++ map term_of l.terms ≡ map term_of l.fn.terms) × (array_vec_len l.narrow + length l.terms ≤ 16)
    × (all_within (map term_of l.terms) ≡ false → all_within (map term_of l.fn.terms) ≡ false)

abbrev pub decreases-loop-terms : goal.decreases-loop-terms
decreases-loop-terms l = length l.terms
