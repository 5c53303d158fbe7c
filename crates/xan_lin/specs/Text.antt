-- How a form is spelled: each number with its sign, each variable after `v`.
use Rattle.std.specs.Prelude.{ℕ, suc, ℤ, pos, negsuc, List, [], ◌∷◌, ◌++◌, codes, decimal}
use Rattle.xan_lin.specs.Linear.{Linear}
use Rattle.xan_lin.specs.declared.term.Term.{Term}

-- 0 has the sign `+`
abbrev pub number_text : ℤ → List ℕ
number_text (pos n) = codes "+" ++ decimal n
number_text (negsuc n) = codes "-" ++ decimal (suc n)

abbrev pub term_text : Term → List ℕ
term_text t = number_text t.coef ++ codes "v" ++ decimal t.var

unfoldable pub terms_text : List Term → List ℕ
terms_text [] = []
terms_text (t ∷ ts) = term_text t ++ terms_text ts

-- the terms by rising variable, and the constant, as in `+2v0-1v3+0`
abbrev pub form_text : Linear → List ℕ
form_text form = terms_text form.terms ++ number_text form.constant
