-- The index variables of clauses: which have names, and that those in scope are variables so far.
use Rattle.std.proofs.Common.{◌≡◌, ◌≢◌, ◌∙◌, ℕ, zero, suc, ◌+◌, ◌≤◌, ◌<◌, ◌⊎◌, inl, inr, List, [], ◌∷◌, ◌++◌, Bool as Truth, true, false, cond, Option, Some, None, refl, sym, ap, subst, arith, append-nil}
use Rattle.std.specs.Prelude.{◌==◌}
use Rattle.std.specs.List.{AllByRecursion}
use Rattle.xan_lin.specs.Linear.{Linear, variable_form}
use Rattle.xan_lin.specs.Subst.{listed}
use Rattle.xan_lin.proofs.Booleans.{equal, unequal}
use Rattle.operation_rules.specs.Forms.{variables_from}
use Rattle.xanadu_tree.specs.IndexRules.{Stretch, IsWithin, Reaches}
use Rattle.xanadu_tree.specs.declared.stmt.Clause.{Clause}
use Rattle.typed_core.specs.Growth.{Continues}
use Rattle.carrier_laws.proofs.CountedValues.{listed_front}

-- names are those of index variables of clauses so far, behind those of the function
pub record Keys (own indices : ℕ) (naming : List (ℕ × Linear)) : Type 0 where
  pub from : own ≤ indices
  pub within : AllByRecursion (λ (v : ℕ × Linear). (own ≤ v.0) × (v.0 < indices)) naming

-- the index variable is called by this name
pub record IsVariable (naming : List (ℕ × Linear)) (vars v : ℕ) : Type 0 where
  pub name : ℕ
  pub there : listed v naming ≡ Some (variable_form name)
  pub less : name < vars

-- each index variable in scope is the function's own, or has a name
pub record InScope (own : ℕ) (reach : List Stretch) (naming : List (ℕ × Linear)) (vars : ℕ) : Type 0 where
  pub each : (v : ℕ) → Reaches reach v → (v < own) ⊎ IsVariable naming vars v

-- ---- later

variable_more : (naming more : List (ℕ × Linear)) (vars later v : ℕ) → Continues naming more → vars ≤ later → IsVariable naming vars v → IsVariable more later v
variable_more naming more vars later v c le is =
    record {
      name = is.name;
      there = subst (λ vs. listed v vs ≡ Some (variable_form is.name)) (sym c.is) (listed_front v naming c.rest (variable_form is.name) is.there);
      less = (let h = is.less in omega (arith, le, h));
    }

pub scope_more : (own : ℕ) (reach : List Stretch) (naming more : List (ℕ × Linear)) (vars later : ℕ) → Continues naming more → vars ≤ later → InScope own reach naming vars
    → InScope own reach more later
scope_more own reach naming more vars later c le s = record { each = λ v r. by_kind v (s.each v r) }
  where
    by_kind : (v : ℕ) → (v < own) ⊎ IsVariable naming vars v → (v < own) ⊎ IsVariable more later v
    by_kind v (inl h) = inl h
    by_kind v (inr is) = inr (variable_more naming more vars later v c le is)

all_later : (own m n : ℕ) (vs : List (ℕ × Linear)) → m ≤ n → AllByRecursion (λ (v : ℕ × Linear). (own ≤ v.0) × (v.0 < m)) vs
    → AllByRecursion (λ (v : ℕ × Linear). (own ≤ v.0) × (v.0 < n)) vs
all_later own m n [] le all = tt
all_later own m n (v ∷ vs) le all = ((all.0.0, (let h = all.0.1 in omega (arith, le, h))), all_later own m n vs le all.1)

pub keys_later : (own m n : ℕ) (naming : List (ℕ × Linear)) → m ≤ n → Keys own m naming → Keys own n naming
keys_later own m n naming le k = record { from = (let h = k.from in omega (arith, le, h)); within = all_later own m n naming le k.within }

-- ---- behind a clause

all_both : (P : ℕ × Linear → Type 0) (xs ys : List (ℕ × Linear)) → AllByRecursion P xs → AllByRecursion P ys → AllByRecursion P (xs ++ ys)
all_both P [] ys a b = b
all_both P (x ∷ xs) ys a b = (a.0, all_both P xs ys a.1 b)

variables_within : (own number first count top : ℕ) → own ≤ number → number + count ≤ top → AllByRecursion (λ (v : ℕ × Linear). (own ≤ v.0) × (v.0 < top)) (variables_from number first count)
unfolding variables_from
variables_within own number first zero top le most = tt
variables_within own number first (suc count) top le most = ((le, omega (arith, most)), variables_within own (suc number) (suc first) count top (omega (arith, le)) (omega (arith, most)))

pub keys_behind : (own indices first : ℕ) (clause : Clause) (naming : List (ℕ × Linear)) → (clause.first ≡ indices) ⊎ (clause.quant.count ≡ 0) → Keys own indices naming
    → Keys own (indices + clause.quant.count) (naming ++ variables_from clause.first first clause.quant.count)
unfolding variables_from
keys_behind own indices first clause naming (inl same) k = record {
  from = (let h = k.from in omega (arith, h));
  within = all_both (λ (v : ℕ × Linear). (own ≤ v.0) × (v.0 < indices + clause.quant.count)) naming (variables_from clause.first first clause.quant.count)
      (all_later own indices (indices + clause.quant.count) naming (omega arith) k.within)
      (variables_within own clause.first first clause.quant.count (indices + clause.quant.count) (let h = k.from in omega (arith, h, same)) (omega (arith, same)));
}
keys_behind own indices first clause naming (inr none) k =
    subst (λ n. Keys own (indices + n) (naming ++ variables_from clause.first first n)) (sym none)
    (subst (λ vs. Keys own (indices + 0) vs) (sym (append-nil naming)) (keys_later own indices (indices + 0) naming (omega arith) k))

not_listed : (own indices v : ℕ) (naming : List (ℕ × Linear)) → indices ≤ v → AllByRecursion (λ (w : ℕ × Linear). (own ≤ w.0) × (w.0 < indices)) naming → listed v naming ≡ None
not_listed own indices v [] le all = refl
not_listed own indices v (w ∷ ws) le all =
    ap (λ b. cond b (let o : Option Linear = Some w.1 in o) (listed v ws)) (unequal w.0 v (λ same. (let h = all.0.1 in absurd (omega (arith, le, same, h)))))
    ∙ not_listed own indices v ws le all.1

listed_behind : (v : ℕ) (xs ys : List (ℕ × Linear)) → listed v xs ≡ None → listed v (xs ++ ys) ≡ listed v ys
listed_behind v [] ys e = refl
listed_behind v (x ∷ xs) ys e = by_test (x.0 == v) e (λ h. listed_behind v xs ys h)
  where
    by_test : (b : Truth) → cond b (let o : Option Linear = Some x.1 in o) (listed v xs) ≡ None → (listed v xs ≡ None → listed v (xs ++ ys) ≡ listed v ys)
        → cond b (let o : Option Linear = Some x.1 in o) (listed v (xs ++ ys)) ≡ listed v ys
    by_test true h later = absurd (let bad : ⊥ = cc in bad)
    by_test false h later = later h

variable_at : (number first count v : ℕ) → number ≤ v → v < number + count → (name : ℕ) × (listed v (variables_from number first count) ≡ Some (variable_form name)) × (name < first + count)
    × (first ≤ name)
unfolding variables_from
variable_at number first zero v le lt = absurd (omega (arith, le, lt))
variable_at number first (suc count) v le lt = by_test (number == v) refl (λ more. variable_at (suc number) (suc first) count v more (omega (arith, lt)))
  where
    above : (m n : ℕ) → m ≤ n → m ≢ n → suc m ≤ n
    above m n le other = grind arith

    by_test : (b : Truth) → (number == v) ≡ b
        → (suc number ≤ v → (name : ℕ) × (listed v (variables_from (suc number) (suc first) count) ≡ Some (variable_form name)) × (name < suc first + count) × (suc first ≤ name))
        → (name : ℕ) × (cond (number == v) (let o : Option Linear = Some (variable_form first) in o) (listed v (variables_from (suc number) (suc first) count)) ≡ Some (variable_form name))
        × (name < first + suc count) × (first ≤ name)
    by_test true e later = (first, ap (λ b. cond b (let o : Option Linear = Some (variable_form first) in o) (listed v (variables_from (suc number) (suc first) count))) e, omega arith, omega arith)
    by_test false e later =
        let it = later (above number v le (λ same. (let on : (number == v) ≡ true = equal number v same in let bad : ⊥ = cc in bad))) in
        let a = it.2 in
        let c = it.3 in
        (it.0, ap (λ b. cond b (let o : Option Linear = Some (variable_form first) in o) (listed v (variables_from (suc number) (suc first) count))) e ∙ it.1, omega (arith, a), omega (arith, c))

-- the clause's own index variables are called by the next variables
pub named_behind : (own indices first count v : ℕ) (naming : List (ℕ × Linear)) → Keys own indices naming → indices ≤ v → v < indices + count
    → (name : ℕ) × (listed v (naming ++ variables_from indices first count) ≡ Some (variable_form name)) × (name < first + count) × (first ≤ name)
named_behind own indices first count v naming k le lt =
    let it = variable_at indices first count v le lt in
    (it.0, listed_behind v naming (variables_from indices first count) (not_listed own indices v naming le k.within) ∙ it.1, it.2, it.3)

pub scope_behind : (own indices first vars later : ℕ) (reach : List Stretch) (clause : Clause) (naming : List (ℕ × Linear)) → clause.first ≡ indices → Keys own indices naming
    → InScope own reach naming vars → vars ≤ later → first + clause.quant.count ≤ later
    → InScope own (record { first = clause.first; count = clause.quant.count } ∷ reach) (naming ++ variables_from clause.first first clause.quant.count) later
scope_behind own indices first vars later reach clause naming same k s le most = record { each = λ v r. by_reach v r }
  where
    more : InScope own reach (naming ++ variables_from clause.first first clause.quant.count) later
    more = scope_more own reach naming (naming ++ variables_from clause.first first clause.quant.count) vars later (record { rest = variables_from clause.first first clause.quant.count; is = refl }) le s

    by_reach : (v : ℕ) → IsWithin (record { first = clause.first; count = clause.quant.count }) v ⊎ Reaches reach v
        → (v < own) ⊎ IsVariable (naming ++ variables_from clause.first first clause.quant.count) later v
    by_reach v (inl h) =
        (let from = h.0 in
        let to = h.1 in
        let it = named_behind own indices first clause.quant.count v naming k (omega (arith, from, same)) (omega (arith, to, same)) in
        let lt = it.2 in
        inr (record {
          name = it.0;
          there = ap (λ n. listed v (naming ++ variables_from n first clause.quant.count)) same ∙ it.1;
          less = omega (arith, lt, most);
        }))
    by_reach v (inr r) = more.each v r
