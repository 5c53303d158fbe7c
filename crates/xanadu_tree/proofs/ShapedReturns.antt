-- Which bodies give a value: those of the functions that have one.
use Rattle.std.proofs.Common.{◌≡◌, Bool, true, false, Some, None, refl}
use Rattle.std.specs.Prelude.{◌||◌}
use Rattle.xanadu_tree.specs.declared.types.Kind.{Kind}
use Rattle.xanadu_tree.specs.declared.types.Kind.TheVariants as kind
use Rattle.xanadu_tree.specs.BodyRules.{Point, behind_block, IsStatement, AreStatements, completes, completes_all}
use Rattle.xanadu_tree.specs.KindRules.{Setting, IsValue, statement_gives, gives_value}
use Rattle.xanadu_tree.specs.Plain as plain

neither : (a b : Bool) → a ≡ false → b ≡ false → (a || b) ≡ false
neither true b first second = absurd (cc)
neither false b first second = second

pub neither_of : (a b : Bool) → (a || b) ≡ false → (a ≡ false) × (b ≡ false)
neither_of true b h = absurd (cc)
neither_of false b h = (refl, h)

either : (a b : Bool) → b ≡ true → (a || b) ≡ true
either true b h = refl
either false b h = h

first_of_two : (a b : Bool) → a ≡ true → (a || b) ≡ true
first_of_two true b h = refl
first_of_two false b h = absurd (cc)

no_value : (k : Kind) → k ≡ kind.Unit → IsValue k → ⊥
no_value kind.Unit unit value = value
no_value _ unit value = absurd (cc)

-- ---- a unit function's

mutual
  unfolding AreStatements

  pub none_gives : (set : Setting) (before : Point) (s : plain.Stmt) (after : Point) → set.result ≡ kind.Unit → IsStatement set before s after
      → statement_gives s ≡ false
  none_gives set before (plain.If test on_true on_false join at) after unit is =
      neither _ _ (none_give set before on_true is.0 unit is.3) (none_give set (behind_block before is.0) on_false is.1 unit is.4)
  none_gives set before (plain.While test head body at) after unit is = none_give set is.0 body is.1 unit is.4
  none_gives set before (plain.Return None at) after unit is = refl
  none_gives set before (plain.Return (Some e) at) after unit is = absurd (no_value set.result unit is.0.0)
  none_gives set before _ after unit is = refl

  pub none_give : (set : Setting) (before : Point) (ss : plain.Stmts) (after : Point) → set.result ≡ kind.Unit → AreStatements set before ss after
      → gives_value ss ≡ false
  none_give set before plain.NoStmt after unit are = refl
  none_give set before (plain.AStmt s ss) after unit are =
      neither _ _ (none_gives set before s are.0 unit are.1) (none_give set are.0 ss after unit are.3)

-- ---- that of a function with a value, where it does not complete

mutual
  unfolding AreStatements

  pub one_gives : (set : Setting) (before : Point) (s : plain.Stmt) (after : Point) → IsValue set.result → IsStatement set before s after
      → completes s ≡ false → statement_gives s ≡ true
  one_gives set before (plain.If test on_true on_false join at) after value is ends =
      let both = neither_of (completes_all on_true) (completes_all on_false) ends in
      first_of_two _ _ (one_give set before on_true is.0 value is.3 both.0)
  one_gives set before (plain.Return None at) after value is ends = absurd (no_value set.result is.0 value)
  one_gives set before (plain.Return (Some e) at) after value is ends = refl
  one_gives set before _ after value is ends = absurd (cc)

  pub one_give : (set : Setting) (before : Point) (ss : plain.Stmts) (after : Point) → IsValue set.result → AreStatements set before ss after
      → completes_all ss ≡ false → gives_value ss ≡ true
  one_give set before plain.NoStmt after value are ends = absurd (cc)
  one_give set before (plain.AStmt s plain.NoStmt) after value are ends = first_of_two _ _ (one_gives set before s are.0 value are.1 ends)
  one_give set before (plain.AStmt s (plain.AStmt t ts)) after value are ends =
      either _ _ (one_give set are.0 (plain.AStmt t ts) after value are.3 ends)
