-- Turns of the loops over the statements of a block, of their parts.
use Rattle.std.proofs.Common.{◌≡◌, ℕ, ◌+◌, ◌-◌, ◌<◌, Bool, true, List, [], ◌∷◌, drop, length, get_or, cond, ◌==◌, refl, sym, ap, ◌∙◌, length-drop, arith}
use Rattle.std.proofs.lemmas.Bool.Decides.{nat_tests}
use Rattle.std.proofs.lemmas.List.{at_drop_more}
use Rattle.xanadu_tree.specs.declared.stmt.CoreStmt.{CoreStmt}
use Rattle.xanadu_tree.specs.BodyRules.{completes, completes_all}
use Rattle.xanadu_tree.specs.Plain as core
use Rattle.xanadu_tree.specs.PlainOf.{plain_stmt, plain_block}
use Rattle.lowering.specs.Emitted.{completes_behind, result_of_last}

last_is : (s : CoreStmt) (xs : List CoreStmt) (many : ℕ) (found : Bool) → many ≡ length xs
    → completes_behind (result_of_last many found (completes (plain_stmt s))) (plain_block xs) ≡ completes_all (core.AStmt (plain_stmt s) (plain_block xs))
last_is s [] many found e = ap (λ b. cond b (completes (plain_stmt s)) found) (none many e)
  where
    none : (many : ℕ) → many ≡ 0 → (many == 0) ≡ true
    none many e = grind (arith, nat_tests)
last_is s (x ∷ xs) many found e = refl

pub completes_step : (block : List CoreStmt) (i : ℕ) (s : CoreStmt) (many : ℕ) (found next whole : Bool) → i < length block → s ≡ get_or block i s
    → many ≡ length block - i → next ≡ result_of_last (many - 1) found (completes (plain_stmt s))
    → completes_behind found (plain_block (drop i block)) ≡ whole → completes_behind next (plain_block (drop (i + 1) block)) ≡ whole
completes_step block i s many found next whole lt k count n inv =
    ap (λ b. completes_behind b (plain_block (drop (i + 1) block))) n
    ∙ last_is s (drop (i + 1) block) (many - 1) found (omega (arith, count, length-drop (i + 1) block))
    ∙ ap (λ x. completes_all (core.AStmt (plain_stmt x) (plain_block (drop (i + 1) block)))) k
    ∙ sym (at_drop_more (λ xs. completes_behind found (plain_block xs)) block i s lt) ∙ inv
