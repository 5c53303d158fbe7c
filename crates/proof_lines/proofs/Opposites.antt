-- The row that holds where the goal does not, as a form and as a row.
use Rattle.std.proofs.Common.{◌≡◌, ℕ, ◌-ℤ◌, pos, neg_ℤ, Bool, true, false, cond, nat_lt, List, length, Result, Ok, Err, sym, ◌∙◌, ap, subst}
use Rattle.xan_lin.specs.Linear.{Linear, are_within, sized, negated_row_of}
use Rattle.xan_lin.specs.Terms.{negated_terms}
use Rattle.xan_lin.specs.declared.term.Term.{Term}
use Rattle.xan_lin.specs.declared.term.TooLarge.{TooLarge}
use Rattle.xan_lin.specs.declared.term.TooLarge.TheVariants.{Terms, Magnitude}
use Rattle.xan_lin.proofs.FormSizes.{sized-parts}
use Rattle.proof_lines.specs.declared.bad_line.Why.{Why}
use Rattle.proof_lines.specs.declared.bad_line.Why.TheVariants as why
use Rattle.proof_lines.specs.Rows.{opposite_of}
use Rattle.proof_lines.specs.Variables.{with_terms}
use Rattle.proof_lines.specs.Check.{bounded}
use Rattle.proof_lines.specs.Cells.{Gives}

pub opposite_is : (goal row : Linear) → negated_row_of goal ≡ Ok row → opposite_of goal ≡ row
opposite_is goal row e = sized-parts (negated_terms goal.terms) (neg_ℤ goal.constant -ℤ pos 1) row e

pub gives_opposite : (before after : List ℕ) (cells : Result (List _) Why) (goal row : Linear) → negated_row_of goal ≡ Ok row
    → Gives before after cells (bounded before row) → Gives before after cells (bounded before (opposite_of goal))
gives_opposite before after cells goal row e g = subst (λ (r : Linear). Gives before after cells (bounded before r)) (sym (opposite_is goal row e)) g

-- a number is past the bound, where the answer says so
past : (many within : Bool) (form : Linear) → cond many (let r : Result Linear TooLarge = Err Terms in r) (cond within (Ok form) (Err Magnitude)) ≡ Err Magnitude → within ≡ false
past true within form e = cc
past false true form e = cc
past false false form e = cc

sized-past : (ts : List Term) (constant : _) → sized ts constant ≡ Err Magnitude → are_within ts constant ≡ false
unfolding sized
sized-past ts constant e = past (nat_lt 16 (length ts)) (are_within ts constant) (record { terms = ts; constant = constant }) e

pub bounded-large : (seen : List ℕ) (row : Linear) → are_within row.terms row.constant ≡ false → bounded seen row ≡ Err why.TooLarge
bounded-large seen row e =
    ap (λ b. cond b (cond (nat_lt 64 (length (with_terms seen row.terms))) (let r : Result Linear Why = Err why.Variables in r) (Ok row)) (Err why.TooLarge)) e

pub refuses_opposite : (seen : List ℕ) (goal : Linear) (answer : Result Linear TooLarge) (error : TooLarge) → answer ≡ negated_row_of goal → answer ≡ Err error → error ≡ Magnitude
    → bounded seen (opposite_of goal) ≡ Err why.TooLarge
refuses_opposite seen goal answer error e f large =
    bounded-large seen (opposite_of goal) (sized-past (negated_terms goal.terms) (neg_ℤ goal.constant -ℤ pos 1) (sym e ∙ f ∙ ap (λ m. let r : Result Linear TooLarge = Err m in r) large))
