-- Answers that a limit stops at most: what is wanted of a value, carried from one part of a chain to the next.
use Rattle.std.proofs.Common.{◌≡◌, ℕ, List, [], ◌∷◌, ◌++◌, Bool as Truth, true, false, cond, nat_lt, Option, Some, Result, Ok, Err, sym, subst, ◌∙◌, append_assoc}
use Rattle.std.proofs.lemmas.List.{append-nil}
use Rattle.index_sorts.specs.declared.error.ContextError.{ContextError}
use Rattle.index_sorts.specs.declared.error.ContextError.TheVariants as context_error
use Rattle.xan_lin.specs.declared.term.LimitKind.{LimitKind}
use Rattle.xan_lin.specs.declared.term.TooLarge.{TooLarge}
use Rattle.state_types.specs.Answers.{Check, ◌>>=◌}
use Rattle.state_types.specs.declared.error.StateError.{StateError}
use Rattle.state_types.specs.declared.error.StateError.TheVariants as state_error
use Rattle.operation_rules.specs.Faults as rules
use Rattle.operation_rules.specs.Faults.{Ruling}
use Rattle.operation_rules.specs.declared.error.Fault.{Fault}
use Rattle.operation_rules.specs.declared.error.Fault.TheVariants.{NoTarget, NoType, NoPlace, WrongCount, WrongKind, Large, Full}
use Rattle.typed_core.specs.Limits.{Stop, Past, Misfit, Stray, Walk, most, within, needed, in_context, by_rule, held}
use Rattle.typed_core.specs.States.{there}

-- what is wanted of a value, and of the reason why there is none
abbrev pub By : {A E : Type 0} → (E → Type 0) → (A → Type 0) → Result A E → Type 0
By Q P (Ok x) = P x
By Q P (Err e) = Q e

pub record Answers {A E : Type 0} (Q : E → Type 0) (P : A → Type 0) (answer : Result A E) : Type 0 where
  pub is : By Q P answer

abbrev pub Anything : {A : Type 0} → A → Type 0
Anything x = Unit {0}

-- no misfit: a limit, or a stray, of which nothing is said here
abbrev pub IsLimit : Stop → Type 0
IsLimit (Past kind) = Unit {0}
IsLimit Misfit = ⊥
IsLimit Stray = Unit {0}

abbrev pub Fits : {A : Type 0} → (A → Type 0) → Walk A → Type 0
Fits P answer = Answers IsLimit P answer

-- a context is full
abbrev pub IsFull : ContextError → Type 0
IsFull context_error.Variables = Unit {0}
IsFull context_error.Rows = Unit {0}
IsFull context_error.Memory = ⊥

-- a form is past the bounds
abbrev pub IsLarge : StateError → Type 0
IsLarge (state_error.Large why) = Unit {0}
IsLarge (state_error.Kind number) = ⊥
IsLarge state_error.Memory = ⊥

-- a fault of a rule that is a limit
abbrev pub IsBound : Fault → Type 0
IsBound NoTarget = ⊥
IsBound NoType = ⊥
IsBound NoPlace = ⊥
IsBound WrongCount = ⊥
IsBound WrongKind = ⊥
IsBound (Large why) = Unit {0}
IsBound (Full why) = IsFull why

abbrev pub Rules : {A : Type 0} → (A → Type 0) → Ruling A → Type 0
Rules P answer = Answers IsBound P answer

-- ---- chains

module _ {A B E : Type 0} {Q : E → Type 0} {P : A → Type 0} {R : B → Type 0} where
  pub then_answers : (m : Result A E) (next : A → Result B E) → Answers Q P m → ((x : A) → P x → Answers Q R (next x)) → Answers Q R (m >>= next)
  then_answers (Ok x) next first later = later x first.is
  then_answers (Err e) next first later = record { is = first.is }

module _ {A E : Type 0} {Q : E → Type 0} {P R : A → Type 0} where
  pub weaker : (m : Result A E) → ((x : A) → P x → R x) → Answers Q P m → Answers Q R m
  weaker (Ok x) f h = record { is = f x h.is }
  weaker (Err e) f h = record { is = h.is }

-- ---- answers of the parts

pub any_answer : {A E : Type 0} (m : Result A E) → Answers Anything Anything m
any_answer (Ok x) = record { is = tt }
any_answer (Err e) = record { is = tt }

module _ {A : Type 0} {P : A → Type 0} where
  pub needed_fits : (m : Result A TooLarge) → Answers Anything P m → Fits P (needed m)
  needed_fits (Ok x) h = record { is = h.is }
  needed_fits (Err why) h = record { is = tt }

  pub context_fits : (m : Result A ContextError) → Answers IsFull P m → Fits P (in_context m)
  context_fits (Ok x) h = record { is = h.is }
  context_fits (Err context_error.Variables) h = record { is = tt }
  context_fits (Err context_error.Rows) h = record { is = tt }
  context_fits (Err context_error.Memory) h = absurd h.is

  pub filled_rules : (m : Result A ContextError) → Answers IsFull P m → Rules P (rules.filled m)
  filled_rules (Ok x) h = record { is = h.is }
  filled_rules (Err why) h = record { is = h.is }

  pub needed_rules : (m : Result A TooLarge) → Answers Anything P m → Rules P (rules.needed m)
  needed_rules (Ok x) h = record { is = h.is }
  needed_rules (Err why) h = record { is = tt }

  pub match_rules : (m : Check A) → Answers IsLarge P m → Rules P (rules.of_match m)
  match_rules (Ok x) h = record { is = h.is }
  match_rules (Err (state_error.Large why)) h = record { is = tt }
  match_rules (Err (state_error.Kind number)) h = absurd h.is
  match_rules (Err state_error.Memory) h = absurd h.is

  pub or_rules : (fault : Fault) (o : Option A) (x : A) → o ≡ Some x → P x → Rules P (rules.or_fault fault o)
  or_rules fault o x e p = subst (λ q. Rules P (rules.or_fault fault q)) (sym e) (record { is = p })

  -- a rule as a part of a walk
  pub by_rule_fits : (m : Ruling A) → Rules P m → Fits P (by_rule m)
  by_rule_fits (Ok x) h = record { is = h.is }
  by_rule_fits (Err NoTarget) h = absurd h.is
  by_rule_fits (Err NoType) h = absurd h.is
  by_rule_fits (Err NoPlace) h = absurd h.is
  by_rule_fits (Err WrongCount) h = absurd h.is
  by_rule_fits (Err WrongKind) h = absurd h.is
  by_rule_fits (Err (Large why)) h = record { is = tt }
  by_rule_fits (Err (Full context_error.Variables)) h = record { is = tt }
  by_rule_fits (Err (Full context_error.Rows)) h = record { is = tt }
  by_rule_fits (Err (Full context_error.Memory)) h = absurd h.is

  pub there_fits : (o : Option A) (x : A) → o ≡ Some x → P x → Fits P (there o)
  there_fits o x e p = subst (λ q. Fits P (there q)) (sym e) (record { is = p })

pub held_fits : (b : Truth) → Fits Anything (held b)
held_fits true = record { is = tt }
held_fits false = record { is = tt }

within_by : (b : Truth) (kind : LimitKind) → Fits Anything (let r : Walk (Unit {0}) = cond b (Err (Past kind)) (Ok tt) in r)
within_by true kind = record { is = tt }
within_by false kind = record { is = tt }

pub within_fits : (kind : LimitKind) (count : ℕ) → Fits Anything (within kind count)
within_fits kind count = within_by (nat_lt (most kind) count) kind

-- ---- what is made behind what was made so far

pub record Behind {A : Type 0} (made : List A) (P : List A → Type 0) (all : List A) : Type 0 where
  pub rest : List A
  pub is : all ≡ made ++ rest
  pub holds : P rest

module _ {A : Type 0} where
  pub behind_none : (made : List A) (P : List A → Type 0) → P [] → Behind made P made
  behind_none made P p = record { rest = []; is = sym (append-nil made); holds = p }

  pub behind_one : (made : List A) (x : A) (P R : List A → Type 0) (all : List A) → ((rest : List A) → P rest → R (x ∷ rest)) → Behind (made ++ x ∷ []) P all → Behind made R all
  behind_one made x P R all f b = record { rest = x ∷ b.rest; is = b.is ∙ append_assoc made (x ∷ []) b.rest; holds = f b.rest b.holds }
