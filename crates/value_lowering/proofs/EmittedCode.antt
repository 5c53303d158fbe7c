-- How code is put together that is emitted piece by piece.
use Rattle.std.proofs.Common.{◌≡◌, ℕ, zero, suc, ◌+◌, ◌-◌, ◌<◌, List, [], ◌∷◌, ◌++◌, map, drop, length, get_or, cond, ◌==◌, true, false, refl, sym, ap, ◌∙◌, subst, append_assoc, append-nil, length-drop, arith}
use Rattle.std.proofs.lemmas.Bool.Decides.{nat_tests}
use Rattle.std.proofs.lemmas.List.{at_drop_more}
use Rattle.xanadu_tree.specs.declared.expr.CoreExpr.{CoreExpr}
use Rattle.xanadu_tree.specs.declared.expr.Op.{Op}
use Rattle.xanadu_tree.specs.PlainOf.{plain_expr, to_links}
use Rattle.three_address.specs.declared.instruction.LowInstr.{LowInstr}
use Rattle.three_address.specs.declared.instruction.Op22.{Op22}
use Rattle.value_lowering.specs.ChainParts.{link_of, result_of}
use Rattle.value_lowering.specs.Frames.{temporary, operand_place}
use Rattle.value_lowering.specs.OneInstruction.{binary, op_of}
use Rattle.value_lowering.specs.ValueCode.{result_place, links_code, operand_at}

pub ruleset emitted = (append_assoc, append-nil)

abbrev Link : Type 0
Link = Op × CoreExpr × ℕ

result_is : (xs : List Link) (many between to : ℕ) → many ≡ length xs → result_place (to_links (map link_of xs)) between to ≡ result_of many between to
result_is [] many between to e = ap (λ b. cond b to between) (none many e)
  where
    none : (many : ℕ) → many ≡ 0 → true ≡ (many == 0)
    none many e = grind (arith, nat_tests)
result_is (x ∷ xs) many between to e = ap (λ b. cond b to between) (some many (length xs) e)
  where
    some : (many n : ℕ) → many ≡ suc n → false ≡ (many == 0)
    some many n e = grind (arith, nat_tests)

-- one operator of a chain, and those behind it
pub links_turn : (vars : ℕ) (rest : List Link) (i : ℕ) (d : Link) (at left depth to many : ℕ) → i < length rest → many ≡ length (drop (i + 1) rest)
    → links_code vars (to_links (map link_of (drop i rest))) at left depth to
    ≡ operand_at vars (plain_expr (get_or rest i d).1) at
    ++ (binary (op_of (get_or rest i d).0) (result_of many (temporary vars depth) to) left (operand_place vars (plain_expr (get_or rest i d).1) at)
    ∷ links_code vars (to_links (map link_of (drop (i + 1) rest))) (suc depth) (temporary vars depth) depth to)
unfolding links_code
links_turn vars rest i d at left depth to many lt e =
    at_drop_more (λ xs. links_code vars (to_links (map link_of xs)) at left depth to) rest i d lt
    ∙ ap (λ place. operand_at vars (plain_expr (get_or rest i d).1) at
    ++ (binary (op_of (get_or rest i d).0) place left (operand_place vars (plain_expr (get_or rest i d).1) at)
    ∷ links_code vars (to_links (map link_of (drop (i + 1) rest))) (suc depth) (temporary vars depth) depth to))
    (result_is (drop (i + 1) rest) many (temporary vars depth) to e)

-- a turn of the loop over the operators of a chain, of its parts
pub links_step : (vars : ℕ) (rest : List Link) (i : ℕ) (l : Link) (at from depth to many between deeper right res : ℕ) (o : Op22) (before one two whole : List LowInstr)
    → i < length rest → l ≡ get_or rest i l → many ≡ length rest - i → between ≡ temporary vars depth → deeper ≡ suc depth
    → before ++ links_code vars (to_links (map link_of (drop i rest))) at from depth to ≡ whole
    → one ≡ before ++ operand_at vars (plain_expr l.1) at → right ≡ operand_place vars (plain_expr l.1) at
    → res ≡ result_of (many - 1) between to → o ≡ op_of l.0 → two ≡ one ++ binary o res from right ∷ []
    → two ++ links_code vars (to_links (map link_of (drop (i + 1) rest))) deeper between depth to ≡ whole
links_step vars rest i l at from depth to many between deeper right res o before one two whole lt k count is_between is_deeper inv e place r q b =
    let turn = links_turn vars rest i l at from depth to (many - 1) lt (omega (arith, count, length-drop (i + 1) rest)) in
    let own = subst (λ (x : Link). links_code vars (to_links (map link_of (drop i rest))) at from depth to
    ≡ operand_at vars (plain_expr x.1) at
    ++ (binary (op_of x.0) (result_of (many - 1) (temporary vars depth) to) from (operand_place vars (plain_expr x.1) at)
    ∷ links_code vars (to_links (map link_of (drop (i + 1) rest))) (suc depth) (temporary vars depth) depth to)) (sym k) turn in
    let same : binary o res from right ∷ links_code vars (to_links (map link_of (drop (i + 1) rest))) deeper between depth to
    ≡ binary (op_of l.0) (result_of (many - 1) (temporary vars depth) to) from (operand_place vars (plain_expr l.1) at)
    ∷ links_code vars (to_links (map link_of (drop (i + 1) rest))) (suc depth) (temporary vars depth) depth to =
    ap (λ x. binary x res from right ∷ links_code vars (to_links (map link_of (drop (i + 1) rest))) deeper between depth to) q
    ∙ ap (λ x. binary (op_of l.0) x from right ∷ links_code vars (to_links (map link_of (drop (i + 1) rest))) deeper between depth to) r
    ∙ ap (λ x. binary (op_of l.0) (result_of (many - 1) between to) from x ∷ links_code vars (to_links (map link_of (drop (i + 1) rest))) deeper between depth to) place
    ∙ ap (λ x. binary (op_of l.0) (result_of (many - 1) x to) from (operand_place vars (plain_expr l.1) at) ∷ links_code vars (to_links (map link_of (drop (i + 1) rest))) deeper x depth to) is_between
    ∙ ap (λ x. binary (op_of l.0) (result_of (many - 1) (temporary vars depth) to) from (operand_place vars (plain_expr l.1) at)
    ∷ links_code vars (to_links (map link_of (drop (i + 1) rest))) x (temporary vars depth) depth to) is_deeper in
    ap (λ c. c ++ links_code vars (to_links (map link_of (drop (i + 1) rest))) deeper between depth to) b
    ∙ append_assoc one (binary o res from right ∷ []) (links_code vars (to_links (map link_of (drop (i + 1) rest))) deeper between depth to)
    ∙ ap (λ c. c ++ (binary o res from right ∷ links_code vars (to_links (map link_of (drop (i + 1) rest))) deeper between depth to)) e
    ∙ append_assoc before (operand_at vars (plain_expr l.1) at) (binary o res from right ∷ links_code vars (to_links (map link_of (drop (i + 1) rest))) deeper between depth to)
    ∙ ap (λ c. before ++ (operand_at vars (plain_expr l.1) at ++ c)) same
    ∙ ap (λ c. before ++ c) (sym own) ∙ inv
