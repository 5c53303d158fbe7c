-- Tests of several parts.
use Rattle.std.proofs.Common.{◌≡◌, ◌∙◌, ℕ, true, List, [], ◌∷◌, Ok, ap}
use Rattle.xanadu_tree.specs.Plain as core
use Rattle.xanadu_tree.specs.PlainOf.{to_tests}
use Rattle.xanadu_tree.specs.PlainTree as plain
use Rattle.expression_shapes.specs.Expressions.{has_conjunction, has_negation, any_test, all_test, expression_test, any_tests, conjunction_test, all_tests, negation_test}
use Rattle.type_shapes.specs.Faults.{Check, ◌>>=◌}
use Rattle.expression_shapes.specs.Sites.{Globals, Locals}

abbrev pub any_of : List core.Test → Check core.Test
any_of parts = Ok (core.Any (to_tests parts))

abbrev pub all_of : List core.Test → Check core.Test
all_of parts = Ok (core.All (to_tests parts))

module _ (globals : Globals) (locals : Locals) where
  pub test-any : (first : plain.Conjunction) (rest : plain.Conjunctions) (at : ℕ) (t : core.Test) → conjunction_test globals locals first ≡ Ok t →
      has_conjunction rest ≡ true → expression_test globals locals (plain.ExpressionOf first rest at) ≡ (any_tests globals locals rest (t ∷ []) >>= any_of)
  unfolding expression_test
  test-any first rest at t is some =
      ap (λ (c : Check core.Test). c >>= λ u. any_test (has_conjunction rest) u (any_tests globals locals rest (u ∷ []))) is
      ∙ ap (λ b. any_test b t (any_tests globals locals rest (t ∷ []))) some

  pub conjunction-all : (first : plain.Negation) (rest : plain.Negations) (at : ℕ) (t : core.Test) → negation_test globals locals first ≡ Ok t →
      has_negation rest ≡ true → conjunction_test globals locals (plain.ConjunctionOf first rest at) ≡ (all_tests globals locals rest (t ∷ []) >>= all_of)
  unfolding conjunction_test
  conjunction-all first rest at t is some =
      ap (λ (c : Check core.Test). c >>= λ u. all_test (has_negation rest) u (all_tests globals locals rest (u ∷ []))) is
      ∙ ap (λ b. all_test b t (all_tests globals locals rest (t ∷ []))) some
