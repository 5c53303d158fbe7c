-- An `if` is carried by its test, its first branch with the label behind it, and its second branch.
use Rattle.std.proofs.Common.{◌≡◌, ◌∙◌, ℕ, Bool, false, List, Option, Result, Ok, Err, IfOk, sym, ap}
use Rattle.std.specs.Prelude.{Vec}
use Rattle.std.specs.declared.alloc.Global.{Global}
use Rattle.xanadu_tree.specs.BodyRules.{completes_all}
use Rattle.xanadu_tree.specs.PlainOf.{plain_block, plain_stmt, plain_test}
use Rattle.xanadu_tree.specs.declared.stmt.Clause.{Clause}
use Rattle.xanadu_tree.specs.declared.stmt.CoreStmt.{CoreStmt}
use Rattle.xanadu_tree.specs.declared.stmt.CoreStmt.TheVariants as stmt
use Rattle.xanadu_tree.specs.declared.stmt.Test.{Test}
use Rattle.xanadu_tree.specs.Plain as core
use Rattle.xanadu_tree.proofs.Equations.{plain_stmt-If}
use Rattle.type_carrier.specs.CarriedStatements.{second_branch, second_begins, statement, block}
use Rattle.type_carrier.specs.CarriedTests.{Labelled, Sources, labelled, test}

same_if : {A E : Type 0} (result : Result A E) (y : A → Labelled) (z w : Labelled) → z ≡ w → IfOk result (λ r. y r ≡ z) → IfOk result (λ r. y r ≡ w)
same_if (Ok x) y z w e is = is ∙ e
same_if (Err why) y z w e is = tt

if_is : (from : Sources) (asked : core.Test) (on_true on_false : core.Stmts) (join : Option Clause) (at : ℕ) (b : Bool) (x begun other : Labelled)
    → begun ≡ test from false asked x → other ≡ labelled from (block from on_true begun) → b ≡ completes_all on_true
    → second_branch from b on_false join other.now.edges (block from on_false (second_begins other)) ≡ statement from (core.If asked on_true on_false join at) x
unfolding statement
if_is from asked on_true on_false join at b x begun other first second completes =
    ap (λ c. second_branch from c on_false join other.now.edges (block from on_false (second_begins other))) completes
    ∙ ap (λ (o : Labelled). second_branch from (completes_all on_true) on_false join o.now.edges (block from on_false (second_begins o)))
    (second ∙ ap (λ z. labelled from (block from on_true z)) first)

pub if_carried : {A E : Type 0} (from : Sources) (s : CoreStmt) (asked : Test) (on_true on_false : Vec CoreStmt Global) (join : Option Clause) (at : ℕ)
    (trues counted falses : List CoreStmt) (b : Bool) (x begun other : Labelled) (result : Result A E) (y : A → Labelled)
    → s ≡ stmt.If asked on_true on_false join at → trues ≡ on_true.items → counted ≡ on_true.items → falses ≡ on_false.items
    → begun ≡ test from false (plain_test asked) x → other ≡ labelled from (block from (plain_block trues) begun) → b ≡ completes_all (plain_block counted)
    → IfOk result (λ r. y r ≡ second_branch from b (plain_block falses) join other.now.edges (block from (plain_block falses) (second_begins other)))
    → IfOk result (λ r. y r ≡ statement from (plain_stmt s) x)
if_carried from s asked on_true on_false join at trues counted falses b x begun other result y is t c f first second completes whole =
    let read : plain_stmt s ≡ core.If (plain_test asked) (plain_block on_true.items) (plain_block on_false.items) join at =
    ap (λ z. plain_stmt z) is ∙ plain_stmt-If asked on_true on_false join at in
    same_if result y _ _
    (ap (λ xs. second_branch from b (plain_block xs) join other.now.edges (block from (plain_block xs) (second_begins other))) f
    ∙ if_is from (plain_test asked) (plain_block on_true.items) (plain_block on_false.items) join at b x begun other first
    (second ∙ ap (λ xs. labelled from (block from (plain_block xs) begun)) t) (completes ∙ ap (λ xs. completes_all (plain_block xs)) c)
    ∙ sym (ap (λ z. statement from z x) read))
    whole
