-- Lists that begin with other ones, and what answers a chain gives whatever stops it.
use Rattle.std.proofs.Common.{◌≡◌, ◌⊎◌, inl, inr, Bool as Truth, true, false, ◌∙◌, List, [], ◌∷◌, ◌++◌, Result, refl, sym, ap, subst, append_assoc, arith}
use Rattle.std.proofs.lemmas.List.{append-nil}
use Rattle.typed_core.specs.Growth.{Continues, Later}
use Rattle.typed_core.specs.Limits.{held}
use Rattle.typed_core.specs.States.{State}
use Rattle.typed_core.proofs.LimitedAnswers.{Answers, Anything}

-- the value, if there is one
abbrev pub Goes : {A E : Type 0} → (A → Type 0) → Result A E → Type 0
Goes P answer = Answers Anything P answer

-- what was tested is so
pub held_known : (b : Truth) → Goes (λ u. b ≡ true) (held b)
held_known true = record { is = refl }
held_known false = record { is = tt }

-- by cases on what was found, where the recursion is taken as a function
pub either : {A B C : Type 0} → A ⊎ B → (A → C) → (B → C) → C
either (inl a) f g = f a
either (inr b) f g = g b

module _ {A : Type 0} where
  pub no_more : (xs : List A) → Continues xs xs
  no_more xs = record { rest = []; is = sym (append-nil xs) }

  pub one_more : (xs : List A) (x : A) → Continues xs (xs ++ x ∷ [])
  one_more xs x = record { rest = x ∷ []; is = refl }

  pub some_more : (xs ys : List A) → Continues xs (xs ++ ys)
  some_more xs ys = record { rest = ys; is = refl }

  pub more_again : (xs ys zs : List A) → Continues xs ys → Continues ys zs → Continues xs zs
  more_again xs ys zs a b = record { rest = a.rest ++ b.rest; is = b.is ∙ ap (λ l. l ++ b.rest) a.is ∙ append_assoc xs a.rest b.rest }

  pub same_more : (xs ys : List A) → ys ≡ xs → Continues xs ys
  same_more xs ys e = subst (λ l. Continues xs l) (sym e) (no_more xs)

-- ---- states

pub later_here : (st : State) → Later st st
later_here st = record { vars = omega arith; naming = no_more st.naming; goals = no_more st.goals; notes = no_more st.notes }

pub later_on : (a b c : State) → Later a b → Later b c → Later a c
later_on a b c one two =
    (let h = one.vars in let g = two.vars in
    record {
      vars = omega (arith, h, g);
      naming = more_again a.naming b.naming c.naming one.naming two.naming;
      goals = more_again a.goals b.goals c.goals one.goals two.goals;
      notes = more_again a.notes b.notes c.notes one.notes two.notes;
    })
