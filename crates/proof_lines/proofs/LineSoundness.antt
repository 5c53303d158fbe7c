-- What lines prove is entailed: each row holds where the hypotheses do and the goal does not, and the last one cannot.
use Rattle.std.proofs.Common.{◌≡◌, ℕ, ◌*◌, ◌<◌, ℤ, pos, negsuc, ◌+ℤ◌, ◌-ℤ◌, ◌*ℤ◌, neg_ℤ, ◌≤ℤ◌, ◌<ℤ◌, true, List, [], ◌∷◌, ◌++◌, map, Some, slice_get, Contains, sym, ◌∙◌, ap, subst, arith}
use Rattle.std.proofs.lemmas.Int.{ints, by_lt_z}
use Rattle.std.proofs.lemmas.Bool.Decides.{Decides-int_eq}
use Rattle.std.proofs.lemmas.List.{append_assoc, append-nil}
use Rattle.std.proofs.lemmas.List.Elements.{All-contains, All-push, Contains-push}
use Rattle.std.proofs.lemmas.Option.{slice_get_within, get_or_from_slice_get}
use Rattle.xan_lin.specs.Linear.{Linear}
use Rattle.xan_lin.specs.Terms.{scaled_terms}
use Rattle.xan_lin.specs.Value.{value_at, value_of_terms, value_of, Holds}
use Rattle.xan_lin.specs.declared.term.Term.{Term}
use Rattle.xan_lin.proofs.Ring.{add-mul, mul_comm, mul_assoc, zero-mul, add_pairs, neg_less}
use Rattle.xan_lin.proofs.ResultValues.{value-sum, value-scaled, value-negated}
use Rattle.index_sorts.specs.Entails.{AllHold, Entails}
use Rattle.proof_lines.specs.declared.line.Line.{Line}
use Rattle.proof_lines.specs.declared.line.Line.TheVariants.{Hyp, Goal, Comb, Cut}
use Rattle.proof_lines.specs.Rows.{opposite_of, combination_of, floor_over, remainder, is_multiple, divides, divided_term, cut_of, IsRefutation}
use Rattle.proof_lines.specs.Lines.{LineGives, LinesGive, LinesProve}
use Rattle.proof_lines.proofs.Proper.{both}
use Rattle.proof_lines.proofs.Quotients.{floor-rest}

-- ---- values

value-opposite : (values : List ℤ) (goal : Linear) → value_of values (opposite_of goal) ≡ neg_ℤ (value_of values goal) -ℤ pos 1
value-opposite values goal =
    ap (λ n. n +ℤ (neg_ℤ goal.constant -ℤ pos 1)) (value-negated values goal.terms) ∙ neg_less (value_of_terms values goal.terms) goal.constant

value-combination : (values : List ℤ) (a b : ℤ) (x y : Linear) → value_of values (combination_of a x b y) ≡ (value_of values x *ℤ a) +ℤ (value_of values y *ℤ b)
value-combination values a b x y =
    ap (λ n. n +ℤ ((x.constant *ℤ a) +ℤ (y.constant *ℤ b)))
    (value-sum values (scaled_terms x.terms a) (scaled_terms y.terms b)
    ∙ ap (λ n. n +ℤ value_of_terms values (scaled_terms y.terms b)) (value-scaled values x.terms a)
    ∙ ap (λ n. (value_of_terms values x.terms *ℤ a) +ℤ n) (value-scaled values y.terms b))
    ∙ add_pairs (value_of_terms values x.terms *ℤ a) (value_of_terms values y.terms *ℤ b) (x.constant *ℤ a) (y.constant *ℤ b)
    ∙ ap (λ n. n +ℤ ((value_of_terms values y.terms *ℤ b) +ℤ (y.constant *ℤ b))) (sym (add-mul (value_of_terms values x.terms) x.constant a))
    ∙ ap (λ n. (value_of values x *ℤ a) +ℤ n) (sym (add-mul (value_of_terms values y.terms) y.constant b))

rest-small : (n : ℤ) (d : ℕ) → 0 < d → remainder n (pos d) <ℤ pos d
rest-small (pos a) d h = omega (arith, ints)
rest-small (negsuc a) d h = omega (arith, ints)

-- a multiple is its quotient times the divisor
quotient-times : (n : ℤ) (d : ℕ) → 0 < d → is_multiple (pos d) n ≡ true → n ≡ floor_over n (pos d) *ℤ pos d
quotient-times n d h m =
    floor-rest n d h ∙ ap (λ r. (floor_over n (pos d) *ℤ pos d) +ℤ r) ((Decides-int_eq (remainder n (pos d)) (pos 0)).0 m) ∙ none (floor_over n (pos d) *ℤ pos d)
  where
    none : (x : ℤ) → x +ℤ pos 0 ≡ x
    none x = omega (arith, ints)

turned : (f d v : ℤ) → (f *ℤ d) *ℤ v ≡ (f *ℤ v) *ℤ d
turned f d v = mul_assoc f d v ∙ ap (λ n. f *ℤ n) (mul_comm d v) ∙ sym (mul_assoc f v d)

value-divided : (values : List ℤ) (ts : List Term) (d : ℕ) → 0 < d → divides (pos d) ts ≡ true
    → value_of_terms values ts ≡ value_of_terms values (map (divided_term (pos d)) ts) *ℤ pos d
unfolding value_of_terms
value-divided values [] d h m = sym (zero-mul (pos d))
value-divided values (t ∷ ts) d h m =
    let parts = both (is_multiple (pos d) t.coef) (divides (pos d) ts) m in
    let v = value_at values t.var in
    let f = floor_over t.coef (pos d) in
    let rest = value_of_terms values (map (divided_term (pos d)) ts) in
    ap (λ n. (n *ℤ v) +ℤ value_of_terms values ts) (quotient-times t.coef d h parts.0)
    ∙ ap (λ n. n +ℤ value_of_terms values ts) (turned f (pos d) v)
    ∙ ap (λ n. ((f *ℤ v) *ℤ pos d) +ℤ n) (value-divided values ts d h parts.1)
    ∙ sym (add-mul (f *ℤ v) rest (pos d))

-- a multiple of the divisor that is above minus the divisor is at least 0
floor_holds : (n r : ℤ) (d : ℕ) → pos 0 ≤ℤ ((n *ℤ pos d) +ℤ r) → r <ℤ pos d → pos 0 ≤ℤ n
floor_holds (pos m) r d h k = omega (arith, ints)
floor_holds (negsuc m) r d h k = absurd (omega (arith, ints))

cut_holds : (values : List ℤ) (x : Linear) (d : ℕ) → 0 < d → divides (pos d) x.terms ≡ true → Holds values x → Holds values (cut_of x (pos d))
cut_holds values x d h m holds =
    let quotients = value_of_terms values (map (divided_term (pos d)) x.terms) in
    let floor = floor_over x.constant (pos d) in
    let rest = remainder x.constant (pos d) in
    let split : value_of values x ≡ ((quotients +ℤ floor) *ℤ pos d) +ℤ rest =
    ap (λ n. n +ℤ x.constant) (value-divided values x.terms d h m) ∙ ap (λ n. (quotients *ℤ pos d) +ℤ n) (floor-rest x.constant d h)
    ∙ regroup (quotients *ℤ pos d) (floor *ℤ pos d) rest ∙ ap (λ n. n +ℤ rest) (sym (add-mul quotients floor (pos d))) in
    floor_holds (quotients +ℤ floor) rest d (subst (λ (n : ℤ). pos 0 ≤ℤ n) split holds) (rest-small x.constant d h)
  where
    regroup : (a b c : ℤ) → a +ℤ (b +ℤ c) ≡ (a +ℤ b) +ℤ c
    regroup a b c = omega (arith, ints)

cut_by : (values : List ℤ) (x : Linear) (by : ℤ) → pos 1 ≤ℤ by → divides by x.terms ≡ true → Holds values x → Holds values (cut_of x by)
cut_by values x (pos d) h m holds = cut_holds values x d (above d h) m holds
  where
    above : (d : ℕ) → pos 1 ≤ℤ pos d → 0 < d
    above d h = omega (arith, ints)
cut_by values x (negsuc d) h m holds = absurd (omega (arith, ints))

-- ---- rows that hold

product_holds : (x a : ℤ) → pos 0 ≤ℤ x → pos 1 ≤ℤ a → pos 0 ≤ℤ (x *ℤ a)
product_holds (pos m) (pos n) h k = at_least (m * n)
  where
    at_least : (n : ℕ) → pos 0 ≤ℤ pos n
    at_least n = omega (arith, ints)
product_holds (pos m) (negsuc n) h k = absurd (omega (arith, ints))
product_holds (negsuc m) a h k = absurd (omega (arith, ints))

sum_holds : (x y : ℤ) → pos 0 ≤ℤ x → pos 0 ≤ℤ y → pos 0 ≤ℤ (x +ℤ y)
sum_holds x y h k = omega (arith, ints)

opposite_holds : (x : ℤ) → x <ℤ pos 0 → pos 0 ≤ℤ (neg_ℤ x -ℤ pos 1)
opposite_holds x h = omega (arith, ints)

holds_at : (values : List ℤ) (rows : List Linear) (k : ℕ) (row : Linear) → AllHold values rows → slice_get rows k ≡ Some row → Holds values row
holds_at values rows k row all e =
    subst (Holds values) (get_or_from_slice_get rows k row row e) (all k row (slice_get_within rows k row e))

row_holds : (values : List ℤ) (hyps : List Linear) (goal : Linear) (rows : List Linear) (line : Line) (row : Linear) → AllHold values hyps
    → value_of values goal <ℤ pos 0 → AllHold values rows → LineGives hyps goal rows line row → Holds values row
row_holds values hyps goal rows (Hyp e) row all fails before g = subst (Holds values) (sym g.1) (All-contains (Holds values) hyps e all g.0)
row_holds values hyps goal rows Goal row all fails before g =
    subst (Holds values) (sym g) (subst (λ (n : ℤ). pos 0 ≤ℤ n) (sym (value-opposite values goal)) (opposite_holds (value_of values goal) fails))
row_holds values hyps goal rows (Comb left_by left right_by right) row all fails before g =
    subst (Holds values) (sym g.row_is) (subst (λ (n : ℤ). pos 0 ≤ℤ n) (sym (value-combination values left_by right_by g.left_row g.right_row))
    (sum_holds (value_of values g.left_row *ℤ left_by) (value_of values g.right_row *ℤ right_by)
    (product_holds (value_of values g.left_row) left_by (holds_at values rows left g.left_row before g.left_is) g.left_positive)
    (product_holds (value_of values g.right_row) right_by (holds_at values rows right g.right_row before g.right_is) g.right_positive)))
row_holds values hyps goal rows (Cut from by) row all fails before g =
    subst (Holds values) (sym g.row_is) (cut_by values g.from_row by g.positive g.divided (holds_at values rows from g.from_row before g.from_is))

rows_hold : (values : List ℤ) (hyps : List Linear) (goal : Linear) (before : List Linear) (lines : List Line) (rows : List Linear) → AllHold values hyps
    → value_of values goal <ℤ pos 0 → AllHold values before → LinesGive hyps goal before lines rows → AllHold values (before ++ rows)
rows_hold values hyps goal before [] rows all fails holds given =
    subst (AllHold values) (sym (ap (λ rs. before ++ rs) given ∙ append-nil before)) holds
rows_hold values hyps goal before (line ∷ lines) [] all fails holds given = absurd given
rows_hold values hyps goal before (line ∷ lines) (row ∷ rows) all fails holds given =
    subst (AllHold values) (append_assoc before (row ∷ []) rows)
    (rows_hold values hyps goal (before ++ row ∷ []) lines rows all fails
    (All-push (Holds values) before row holds (row_holds values hyps goal before line row all fails holds given.0)) given.2)

-- ---- the last row cannot hold

value-none : (values : List ℤ) (row : Linear) → row.terms ≡ [] → value_of values row ≡ row.constant
unfolding value_of_terms
value-none values row e = ap (λ ts. value_of_terms values ts +ℤ row.constant) e ∙ zero_first row.constant
  where
    zero_first : (c : ℤ) → pos 0 +ℤ c ≡ c
    zero_first c = omega (arith, ints)

cannot : (values : List ℤ) (row : Linear) → IsRefutation row → Holds values row → ⊥
cannot values row r holds =
    let at_least : pos 0 ≤ℤ row.constant = subst (λ (n : ℤ). pos 0 ≤ℤ n) (value-none values row r.no_variable) holds in
    let negative = r.negative in
    omega (arith, ints)

pub proved-entailed : (hyps : List Linear) (goal : Linear) (lines : List Line) → LinesProve hyps goal lines → Entails hyps goal
proved-entailed hyps goal lines p = record {
  follows = λ values all. by_lt_z (value_of values goal) (pos 0)
      (λ fails. (let holds = rows_hold values hyps goal [] lines p.rows all fails (λ k d h. absurd (omega arith)) p.given in
      let last = All-contains (Holds values) p.rows p.ends.last holds (subst (λ (rs : List Linear). Contains rs p.ends.last) (sym p.ends.rows_are) (Contains-push p.ends.before p.ends.last)) in
      absurd (cannot values p.ends.last p.ends.refuted last)))
      (λ holds. holds);
}
