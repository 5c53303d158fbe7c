-- What lines prove, or is known, holds under each assignment under which the rows of the context hold.
use Rattle.std.proofs.Common.{◌≡◌, cond, List, [], ◌∷◌, Bool as Test, true, false, ℤ, Result, Ok, Err, refl}
use Rattle.std.specs.List.{All}
use Rattle.std.proofs.lemmas.Bool.{and_parts}
use Rattle.std.proofs.lemmas.List.Elements.{All-nil, All-cons, All-head, All-tail}
use Rattle.index_sorts.specs.Context.{IndexContext}
use Rattle.index_sorts.specs.Entails.{Entails, AllHold}
use Rattle.index_sorts.specs.Known.{knows}
use Rattle.index_sorts.proofs.KnownRows.{Decides-knows, known-entailed}
use Rattle.xan_lin.specs.Linear.{Linear}
use Rattle.xan_lin.specs.Value.{Holds}
use Rattle.proof_lines.specs.Check.{checked}
use Rattle.proof_lines.specs.declared.bad_line.BadLine.{BadLine}
use Rattle.proof_lines.specs.declared.line.Line.{Line}
use Rattle.proof_lines.proofs.Exact.{Decides-checked}
use Rattle.proof_lines.proofs.LineSoundness.{proved-entailed}
use Rattle.dtal_code.specs.Passing.{unknown, is_proof, are_proved, asks_lines}
use Rattle.dtal_code.specs.declared.refusal.Rule.TheVariants as rule
use Rattle.dtal_code.proofs.NamedDeclarations.{asked}

proof_is : (answer : Result (Unit {0}) BadLine) → is_proof answer ≡ true → answer ≡ Ok tt
proof_is (Ok tt) e = refl
proof_is (Err bad) e = absurd (let bad : ⊥ = cc in bad)

line_entails : (ctx : IndexContext) (row : Linear) (lines : List Line) → is_proof (checked ctx.rows row lines) ≡ true → Entails ctx.rows row
line_entails ctx row lines e = proved-entailed ctx.rows row lines ((Decides-checked ctx.rows row lines).0 (proof_is (checked ctx.rows row lines) e))

Each : IndexContext → List Linear → Type 0
Each ctx rows = (by : List (List Line)) → are_proved ctx (unknown ctx rows) by ≡ true → All (Entails ctx.rows) rows

one_more : (ctx : IndexContext) (row : Linear) (rows : List Linear) (known : Test) (by : List (List Line)) → knows ctx row ≡ known
    → are_proved ctx (cond known (unknown ctx rows) (row ∷ unknown ctx rows)) by ≡ true → Each ctx rows → All (Entails ctx.rows) (row ∷ rows)
unfolding are_proved Each
one_more ctx row rows true by is e each =
    All-cons (Entails ctx.rows) row rows (known-entailed ctx row ((Decides-knows ctx row).0 is)) (each by e)
one_more ctx row rows false [] is e each = absurd (let bad : ⊥ = cc in bad)
one_more ctx row rows false (lines ∷ by) is e each =
    let both = and_parts (is_proof (checked ctx.rows row lines)) (are_proved ctx (unknown ctx rows) by) e in
    All-cons (Entails ctx.rows) row rows (line_entails ctx row lines both.0) (each by both.1)

each_entailed : (ctx : IndexContext) (rows : List Linear) → Each ctx rows
unfolding unknown Each
each_entailed ctx [] by e = All-nil (Entails ctx.rows)
each_entailed ctx (row ∷ rows) by e = one_more ctx row rows (knows ctx row) by refl e (each_entailed ctx rows)

pub all_entailed : (ctx : IndexContext) (rows : List Linear) (by : List (List Line)) → asks_lines ctx rows by ≡ Ok tt → All (Entails ctx.rows) rows
unfolding Each
all_entailed ctx rows by e = each_entailed ctx rows by (asked (are_proved ctx (unknown ctx rows) by) rule.Lines tt e)

entailed_hold : (values : List ℤ) (context rows : List Linear) → All (Entails context) rows → AllHold values context → AllHold values rows
entailed_hold values context [] all hold = All-nil (Holds values)
entailed_hold values context (row ∷ rows) all hold =
    All-cons (Holds values) row rows ((All-head (Entails context) row rows all).follows values hold) (entailed_hold values context rows (All-tail (Entails context) row rows all) hold)

pub demands_hold : (ctx : IndexContext) (rows : List Linear) (by : List (List Line)) (values : List ℤ) → asks_lines ctx rows by ≡ Ok tt → AllHold values ctx.rows
    → AllHold values rows
demands_hold ctx rows by values e hold = entailed_hold values ctx.rows rows (all_entailed ctx rows by e) hold
