-- What the blocks behind which a state is joined change, and marks of it.
use Rattle.std.specs.Prelude.{ℕ, suc, ◌||◌, Bool as Truth, false, List, [], ◌∷◌, replicate}
use Rattle.std.specs.List.{slice_index_or}
use Rattle.typed_core.specs.Joins.{changes_any}
use Rattle.xanadu_tree.specs.PlainOf.{plain_block}
use Rattle.join_elaborator.specs.declared.changes.Blocks.{Blocks}
use Rattle.join_elaborator.specs.declared.changes.Blocks.TheVariants.{Body, Branches}

abbrev pub changed_by : Blocks → ℕ → Truth
changed_by (Body body) = changes_any (plain_block body.now)
changed_by (Branches one two) = λ x. changes_any (plain_block one.now) x || changes_any (plain_block two.now) x

-- ---- marks, one a variable

-- these, which begin with that of the variable, and those of the changed ones
unfoldable pub marked : (changed : ℕ → Truth) → (variable : ℕ) → List Truth → List Truth
marked changed x [] = []
marked changed x (m ∷ ms) = (m || changed x) ∷ marked changed (suc x) ms

-- none of the variables that have places
abbrev pub no_marks : List Truth
no_marks = replicate 240 false

abbrev pub is_marked : List Truth → ℕ → Truth
is_marked marks x = slice_index_or marks x false
