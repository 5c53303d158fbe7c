-- Equal terms and equal forms, as tests.
use Rattle.std.specs.Prelude.{Bool, ◌&&◌, ◌==◌}
use Rattle.std.specs.Ordering.{int_eq}
use Rattle.std.specs.Cmp.Lexicographic.{pointwise}
use Rattle.xan_lin.specs.Linear.{Linear}
use Rattle.xan_lin.specs.declared.term.Term.{Term}

abbrev pub same_term : Term → Term → Bool
same_term t u = (t.var == u.var) && int_eq t.coef u.coef

-- two forms are the same where their constants and their terms are
abbrev pub same_form : Linear → Linear → Bool
same_form e f = int_eq e.constant f.constant && pointwise same_term e.terms f.terms
