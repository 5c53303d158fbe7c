-- The table of a function's labels: the number of the first instruction of each of its blocks.
use Rattle.std.specs.Prelude.{ℕ, ◌+◌, ◌&&◌, List, [], ◌∷◌, length, nat_lt, slice_index_or, if◌then◌else◌}
use Rattle.std.specs.List.{All}
use Rattle.dtal_code.specs.Grammar.{IsInstr}
use Rattle.dtal_code.specs.declared.program.Block.{Block}

unfoldable pub label_starts : (start : ℕ) → List Block → List ℕ
label_starts start [] = []
label_starts start (block ∷ blocks) = start ∷ label_starts (start + length block.code) blocks

-- where a label leads by such a table
abbrev pub table_target : (past : ℕ) → (starts : List ℕ) → (label : ℕ) → ℕ
table_target past starts label = if nat_lt 0 label && nat_lt label (length starts) then slice_index_or starts label past else past

-- its instructions are in the grammar
abbrev pub IsCoded : Block → Type 0
IsCoded block = All IsInstr block.code
