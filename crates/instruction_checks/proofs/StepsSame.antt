-- The steps of the code are those of the definition.
use Rattle.std.proofs.Common.{◌≡◌, ◌∙◌, ℕ, List, [], ◌∷◌, ◌++◌, Bool as Truth, true, false, Result, Ok, Err, Option, Some, None, refl, sym, ap, subst}
use Rattle.std.specs.Prelude.{IfOk}
use Rattle.std.specs.List.{list_all}
use Rattle.index_sorts.specs.Context.{IndexContext}
use Rattle.xan_lin.specs.Linear.{Linear, difference_of}
use Rattle.xan_lin.specs.Subst.{subst_of}
use Rattle.xan_lin.specs.declared.term.TooLarge.{TooLarge}
use Rattle.index_sorts.specs.Known.{same_form}
use Rattle.proof_lines.specs.declared.line.Line.{Line}
use Rattle.state_types.specs.Answers.{Check, ◌>>=◌, within_bounds}
use Rattle.state_types.specs.Matching.{pair_of, pair_found, pair_at, pairs_at, differences, index_rows, type_rows, own_rows, demanded, meeting}
use Rattle.state_types.specs.PlaceTypes.{type_at}
use Rattle.state_types.specs.Types.{index_of, same_kind}
use Rattle.state_types.specs.declared.error.StateError.TheVariants as state_error
use Rattle.state_types.specs.declared.state.StateType.{StateType}
use Rattle.state_types.specs.declared.types.Ty.{Ty}
use Rattle.operation_rules.specs.Applied.{Ruled, applied, all_there, named, ruled}
use Rattle.operation_rules.specs.Faults.{Ruling, of_match}
use Rattle.operation_rules.specs.Rules.{Setting, rule as rule_for}
use Rattle.operation_rules.specs.declared.rule.Rule.{Rule}
use Rattle.operation_rules.specs.declared.operation.Operation.{Operation}
use Rattle.operation_rules.proofs.RuleFacts.{parts_of}
use Rattle.dtal_code.specs.Declarations.{state_of}
use Rattle.dtal_code.specs.Instructions.{Instruction}
use Rattle.dtal_code.specs.Passing.{read_types, are_different, asks_lines, with_types, label_at, is_listed, value_is_below, edge_verdict, side_verdict, ruled_verdict, goes_on_verdict, gives_back_verdict, goes_to_verdict}
use Rattle.dtal_code.specs.Verdicts.{Verdict, asks, by_rule, found}
use Rattle.dtal_code.specs.declared.refusal.Rule.TheVariants as rule
use Rattle.instruction_checks.specs.Code.{Fails, Gives}
use Rattle.instruction_checks.specs.declared.error.Broken.{Broken}
use Rattle.instruction_checks.specs.declared.error.Broken.TheVariants as broken
use Rattle.instruction_checks.specs.Steps.{kept_by, reads_by, goes_on_by, gives_back_by, values_by, rows_found, edge_rows_by, edge_by, kinds_by, goes_to_by}

-- ---- an instruction that does not go to a label

module _ (F : List Ty → IndexContext → Verdict StateType) where
  after_lines : (v : Verdict (Unit {0})) (given : Ruled)
      → ((v >>= λ _. let r : Verdict Ruled = Ok given in r) >>= λ g. F g.types g.ctx)
      ≡ ((v >>= λ _. let r : Verdict (List Ty × IndexContext) = Ok (given.types, given.ctx) in r) >>= λ k. F k.0 k.1)
  after_lines (Ok x) given = refl
  after_lines (Err broken) given = refl

  after_applied : (a : Ruling Ruled) (lines : Ruled → Verdict (Unit {0})) (own : Verdict (Unit {0})) → ((given : Ruled) → a ≡ Ok given → lines given ≡ own)
      → ((by_rule a >>= λ given. lines given >>= λ _. let r : Verdict Ruled = Ok given in r) >>= λ g. F g.types g.ctx)
      ≡ ((by_rule a >>= λ given. own >>= λ _. let r : Verdict (List Ty × IndexContext) = Ok (given.types, given.ctx) in r) >>= λ k. F k.0 k.1)
  after_applied (Ok given) lines own h =
      ap (λ v. (v >>= λ _. let r : Verdict Ruled = Ok given in r) >>= λ g. F g.types g.ctx) (h given refl) ∙ after_lines own given
  after_applied (Err fault) lines own h = refl

  after_rule : (m : Ruling Rule) (apply : Rule → Ruling Ruled) (lines : Ruled → Verdict (Unit {0})) (own : Rule → Verdict (Unit {0}))
      → ((x : Rule) (given : Ruled) → apply x ≡ Ok given → lines given ≡ own x)
      → ((by_rule (m >>= apply) >>= λ given. lines given >>= λ _. let r : Verdict Ruled = Ok given in r) >>= λ g. F g.types g.ctx)
      ≡ ((by_rule m >>= λ x. by_rule (apply x) >>= λ given. own x >>= λ _. let r : Verdict (List Ty × IndexContext) = Ok (given.types, given.ctx) in r) >>= λ k. F k.0 k.1)
  after_rule (Ok x) apply lines own h = after_applied (apply x) lines (own x) (h x)
  after_rule (Err fault) apply lines own h = refl

  all_steps : (names : Ruling (Unit {0})) (different : Verdict (Unit {0})) (there : Ruling (List Ty)) (by_types : List Ty → Ruling Rule) (apply : Rule → Ruling Ruled)
      (lines : Ruled → Verdict (Unit {0})) (own : Rule → Verdict (Unit {0})) → ((x : Rule) (given : Ruled) → apply x ≡ Ok given → lines given ≡ own x)
      → ((by_rule names >>= λ _. different >>= λ _. by_rule (names >>= λ _. there >>= λ types. by_types types >>= apply) >>= λ given. lines given >>= λ _. let r : Verdict Ruled = Ok given in r)
      >>= λ g. F g.types g.ctx)
      ≡ ((by_rule names >>= λ _. different >>= λ _. by_rule there) >>= λ types.
      (by_rule (by_types types) >>= λ x. by_rule (apply x) >>= λ given. own x >>= λ _. let r : Verdict (List Ty × IndexContext) = Ok (given.types, given.ctx) in r)
      >>= λ k. F k.0 k.1)
  all_steps (Err fault) different there by_types apply lines own h = refl
  all_steps (Ok x) (Err broken) there by_types apply lines own h = refl
  all_steps (Ok x) (Ok y) (Err fault) by_types apply lines own h = refl
  all_steps (Ok x) (Ok y) (Ok types) by_types apply lines own h = after_rule (by_types types) apply lines own h

-- the rows that are demanded are those of the rule
same_demands : (ctx : IndexContext) (by : List (List Line)) (r : Rule) (given : Ruled) → applied r ctx ≡ Ok given → asks_lines ctx given.demands by ≡ asks_lines ctx r.demands by
same_demands ctx by r given e = ap (λ rows. asks_lines ctx rows by) (sym (parts_of r ctx given e).demands)

pub goes_on_same : (st : Setting) (state : StateType) (i : Instruction) (by : List (List Line)) → goes_on_verdict st state i by ≡ goes_on_by st state i by
unfolding goes_on_verdict ruled_verdict goes_on_by reads_by kept_by ruled
goes_on_same st state i by =
    all_steps (λ types ctx. Ok (state_of ctx (with_types i.writes types state.places))) (named st i.operation) (asks (are_different i.writes) rule.Place)
    (all_there (read_types state i.reads)) (λ types. rule_for st i.operation types state.ctx.vars) (λ r. applied r state.ctx) (λ given. asks_lines state.ctx given.demands by)
    (λ r. asks_lines state.ctx r.demands by) (same_demands state.ctx by)

pub gives_back_same : (st : Setting) (state : StateType) (i : Instruction) (by : List (List Line)) → gives_back_verdict st state i by ≡ gives_back_by st state i by
unfolding gives_back_verdict ruled_verdict gives_back_by reads_by kept_by ruled
gives_back_same st state i by =
    all_steps (λ types ctx. Ok state) (named st i.operation) (asks (are_different i.writes) rule.Place)
    (all_there (read_types state i.reads)) (λ types. rule_for st i.operation types state.ctx.vars) (λ r. applied r state.ctx) (λ given. asks_lines state.ctx given.demands by)
    (λ r. asks_lines state.ctx r.demands by) (same_demands state.ctx by)

-- ---- what an edge demands fails by kinds first, and then by forms

abbrev KindOnly : {A : Type 0} → Check A → Type 0
KindOnly (Ok x) = Unit {0}
KindOnly (Err (state_error.Kind number)) = Unit {0}
KindOnly (Err (state_error.Large why)) = ⊥
KindOnly (Err state_error.Memory) = ⊥

abbrev LargeOnly : {A : Type 0} → Check A → Type 0
LargeOnly (Ok x) = Unit {0}
LargeOnly (Err (state_error.Kind number)) = ⊥
LargeOnly (Err (state_error.Large why)) = Unit {0}
LargeOnly (Err state_error.Memory) = ⊥

module _ {A B : Type 0} where
  kind_then : (m : Check A) (next : A → Check B) → KindOnly m → ((x : A) → KindOnly (next x)) → KindOnly (m >>= next)
  kind_then (Ok x) next h later = later x
  kind_then (Err (state_error.Kind number)) next h later = tt
  kind_then (Err (state_error.Large why)) next h later = h
  kind_then (Err state_error.Memory) next h later = h

  large_then : (m : Check A) (next : A → Check B) → LargeOnly m → ((x : A) → LargeOnly (next x)) → LargeOnly (m >>= next)
  large_then (Ok x) next h later = later x
  large_then (Err (state_error.Kind number)) next h later = h
  large_then (Err (state_error.Large why)) next h later = tt
  large_then (Err state_error.Memory) next h later = h

bounds_large : {A : Type 0} (r : Result A TooLarge) → LargeOnly (within_bounds r)
bounds_large (Ok x) = tt
bounds_large (Err why) = tt

pair_kind : (b : Truth) (number : ℕ) (wanted present : Ty) → same_kind wanted present ≡ b → KindOnly (pair_of number wanted present)
unfolding pair_of
pair_kind true number wanted present e = rw e tt
pair_kind false number wanted present e = rw e tt

found_kind : (wanted : ℕ × Ty) (here : Option Ty) → KindOnly (pair_found wanted here)
found_kind wanted (Some present) = pair_kind (same_kind wanted.1 present) wanted.0 wanted.1 present refl
found_kind wanted None = tt

pairs_kind : (present wanted : List (ℕ × Ty)) (made : _) → KindOnly (pairs_at present wanted made)
unfolding pairs_at pair_at
pairs_kind present [] made = tt
pairs_kind present (w ∷ later) made = kind_then (pair_at present w) _ (found_kind w (type_at w.0 present)) (λ pair. pairs_kind present later (made ++ pair ∷ []))

differ_large : (b : Truth) (wanted present : Linear) (made : List Linear) → same_form wanted present ≡ b → LargeOnly (differences wanted present made)
unfolding differences
differ_large true wanted present made e = rw e tt
differ_large false wanted present made e =
    rw e (large_then (within_bounds (difference_of wanted present)) _ (bounds_large (difference_of wanted present))
    (λ more. large_then (within_bounds (difference_of present wanted)) _ (bounds_large (difference_of present wanted)) (λ less. tt)))

index_large : (values : List (ℕ × Linear)) (below : ℕ) (wanted present : Option Linear) (made : List Linear) → LargeOnly (index_rows values below wanted present made)
unfolding index_rows
index_large values below None present made = tt
index_large values below (Some wanted) None made = tt
index_large values below (Some wanted) (Some present) made =
    large_then (within_bounds (subst_of values below wanted)) _ (bounds_large (subst_of values below wanted)) (λ given. differ_large (same_form given present) given present made refl)

types_large : (values : List (ℕ × Linear)) (below : ℕ) (pairs : _) (made : List Linear) → LargeOnly (type_rows values below pairs made)
unfolding type_rows
types_large values below [] made = tt
types_large values below (pair ∷ pairs) made =
    large_then (index_rows values below (index_of pair.wanted) (index_of pair.present) made) _ (index_large values below (index_of pair.wanted) (index_of pair.present) made)
    (λ more. types_large values below pairs more)

own_large : (values : List (ℕ × Linear)) (below : ℕ) (rows made : List Linear) → LargeOnly (own_rows values below rows made)
unfolding own_rows
own_large values below [] made = tt
own_large values below (row ∷ rows) made =
    large_then (within_bounds (subst_of values below row)) _ (bounds_large (subst_of values below row)) (λ given. own_large values below rows (made ++ given ∷ []))

demanded_large : (values : List (ℕ × Linear)) (below : ℕ) (pairs : _) (rows : List Linear) → LargeOnly (demanded values below pairs rows)
unfolding demanded
demanded_large values below pairs rows = large_then (type_rows values below pairs []) _ (types_large values below pairs []) (λ made. own_large values below rows made)

-- ---- the rows of an edge

values_then : (listed below : Truth) (end : Verdict (List Linear))
    → (asks listed rule.Edge >>= λ _. asks below rule.Form >>= λ _. end) ≡ ((asks listed rule.Edge >>= λ _. asks below rule.Form) >>= λ _. end)
values_then true true end = refl
values_then true false end = refl
values_then false below end = refl

rows_after : (listed below : Truth) (rows : Check (List Linear)) → LargeOnly rows
    → (asks listed rule.Edge >>= λ _. asks below rule.Form >>= λ _. by_rule (of_match rows)) ≡ rows_found (asks listed rule.Edge >>= λ _. asks below rule.Form) rows
rows_after listed below (Ok rows) h = values_then listed below (Ok rows)
rows_after listed below (Err (state_error.Large why)) h = values_then listed below (Err rule.Form)
rows_after listed below (Err (state_error.Kind number)) h = absurd h
rows_after listed below (Err state_error.Memory) h = absurd h

pairs_after : {P : Type 0} (listed below : Truth) (pairs : Check P) (rows : P → Check (List Linear)) → KindOnly pairs → ((p : P) → LargeOnly (rows p))
    → (by_rule (of_match pairs) >>= λ p. asks listed rule.Edge >>= λ _. asks below rule.Form >>= λ _. by_rule (of_match (rows p)))
    ≡ rows_found (asks listed rule.Edge >>= λ _. asks below rule.Form) (pairs >>= rows)
pairs_after listed below (Ok p) rows h g = rows_after listed below (rows p) (g p)
pairs_after listed below (Err (state_error.Kind number)) rows h g = refl
pairs_after listed below (Err (state_error.Large why)) rows h g = absurd h
pairs_after listed below (Err state_error.Memory) rows h g = absurd h

pub edge_same : (st : Setting) (state target : StateType) (values : List (ℕ × Linear)) → edge_verdict st state target values ≡ edge_rows_by st.own.vars state target values
unfolding edge_verdict values_by meeting
edge_same st state target values =
    pairs_after (list_all (is_listed st.own.vars target.ctx.vars) values) (list_all (value_is_below state.ctx.vars) values) (pairs_at state.places target.places [])
    (λ pairs. demanded values state.ctx.vars pairs target.ctx.rows) (pairs_kind state.places target.places []) (λ pairs. demanded_large values state.ctx.vars pairs target.ctx.rows)

-- ---- an instruction that goes to a label

module _ (F : IndexContext → StateType) where
  lines_then : (v : Verdict (Unit {0})) (left : IndexContext)
      → (v >>= λ _. let r : Verdict StateType = Ok (F left) in r) ≡ ((v >>= λ _. let r : Verdict IndexContext = Ok left in r) >>= λ l. Ok (F l))
  lines_then (Ok x) left = refl
  lines_then (Err broken) left = refl

  sides_then : (demands : Verdict (List Linear)) (taken left : Verdict IndexContext) (lines : IndexContext → List Linear → Verdict (Unit {0}))
      → (demands >>= λ d. taken >>= λ t. left >>= λ l. lines t d >>= λ _. let r : Verdict StateType = Ok (F l) in r)
      ≡ ((demands >>= λ d. taken >>= λ t. left >>= λ l. lines t d >>= λ _. let r : Verdict IndexContext = Ok l in r) >>= λ l. Ok (F l))
  sides_then (Err broken) taken left lines = refl
  sides_then (Ok d) (Err broken) left lines = refl
  sides_then (Ok d) (Ok t) (Err broken) lines = refl
  sides_then (Ok d) (Ok t) (Ok l) lines = lines_then (lines t d) l

  kinds_then : (m : Ruling Rule) (whole : Verdict StateType) (edge : Verdict IndexContext) → whole ≡ (edge >>= λ l. Ok (F l))
      → (by_rule m >>= λ _. whole) ≡ ((by_rule m >>= λ _. let r : Verdict (Unit {0}) = Ok tt in r) >>= λ _. edge >>= λ l. Ok (F l))
  kinds_then (Ok r) whole edge e = e
  kinds_then (Err fault) whole edge e = refl

edge_then : (st : Setting) (state target : StateType) (op : Operation) (types : List Ty) (values : List (ℕ × Linear)) (by : List (List Line))
    → (edge_verdict st state target values >>= λ d. side_verdict true state op types >>= λ t. side_verdict false state op types >>= λ l. asks_lines t d by >>= λ _. let r : Verdict StateType = Ok (state_of l state.places) in r)
    ≡ (edge_by st state target op types values by >>= λ l. Ok (state_of l state.places))
unfolding edge_by
edge_then st state target op types values by =
    ap (λ m. m >>= λ d. side_verdict true state op types >>= λ t. side_verdict false state op types >>= λ l. asks_lines t d by >>= λ _. let r : Verdict StateType = Ok (state_of l state.places) in r) (edge_same st state target values)
    ∙ sides_then (λ l. state_of l state.places) (edge_rows_by st.own.vars state target values) (side_verdict true state op types) (side_verdict false state op types) (λ t d. asks_lines t d by)

each_then : {A B : Type 0} (m : Verdict A) (f g : A → Verdict B) → ((x : A) → f x ≡ g x) → (m >>= f) ≡ (m >>= g)
each_then (Ok x) f g h = h x
each_then (Err broken) f g h = refl

pub goes_to_same : (st : Setting) (labels : List StateType) (state : StateType) (i : Instruction) (values : List (ℕ × Linear)) (by : List (List Line))
    → goes_to_verdict st labels state i values by ≡ goes_to_by st labels state i values by
unfolding goes_to_verdict goes_to_by kinds_by
goes_to_same st labels state i values by =
    each_then (found (label_at labels i.target) rule.Target) _ _ (λ target. each_then (by_rule (all_there (read_types state i.reads))) _ _ (λ types.
    kinds_then (λ l. state_of l state.places) (rule_for st i.operation types state.ctx.vars) _ (edge_by st state target i.operation types values by)
    (edge_then st state target i.operation types values by)))

-- ---- where the edge fails behind all that is asked before it

fails_behind : {A B : Type 0} (why : Broken) (m : Verdict A) (next : A → Verdict B) (x : A) → m ≡ Ok x → Fails why (next x) → Fails why (m >>= next)
fails_behind why m next x e f = subst (λ w. Fails why w) (sym (ap (λ r. r >>= next) e)) f

fails_first : {A B : Type 0} (why : Broken) (m : Verdict A) (next : A → Verdict B) → Fails why m → Fails why (m >>= next)
fails_first (broken.Rule r) m next e = ap (λ v. v >>= next) e
fails_first broken.Memory m next e = tt

pub goes_to_fails : (why : Broken) (st : Setting) (labels : List StateType) (state target : StateType) (i : Instruction) (types : List Ty) (values : List (ℕ × Linear)) (by : List (List Line))
    {all again : List Ty} → found (label_at labels i.target) rule.Target ≡ Ok target → by_rule (all_there (read_types state i.reads)) ≡ Ok all → types ≡ all → again ≡ all
    → kinds_by st i.operation again state.ctx.vars ≡ Ok tt → Fails why (edge_by st state target i.operation types values by) → Fails why (goes_to_by st labels state i values by)
unfolding goes_to_by
goes_to_fails why st labels state target i types values by {all = all} {again = again} one two same others three four =
    fails_behind why (found (label_at labels i.target) rule.Target) _ target one
    (fails_behind why (by_rule (all_there (read_types state i.reads))) _ types (subst (λ ts. by_rule (all_there (read_types state i.reads)) ≡ Ok ts) (sym same) two)
    (fails_behind why (kinds_by st i.operation types state.ctx.vars) _ tt (subst (λ ts. kinds_by st i.operation ts state.ctx.vars ≡ Ok tt) (others ∙ sym same) three) (fails_first why (edge_by st state target i.operation types values by) _ four)))

follows : {A B : Type 0} (m : Verdict A) (next : A → Verdict B) (x : A) (y : Verdict B) → m ≡ Ok x → next x ≡ y → (m >>= next) ≡ y
follows m next x y e f = ap (λ r. r >>= next) e ∙ f

pub goes_to_ends : (st : Setting) (labels : List StateType) (state target next : StateType) (i : Instruction) (types : List Ty) (values : List (ℕ × Linear)) (by : List (List Line))
    {all again : List Ty} → found (label_at labels i.target) rule.Target ≡ Ok target → by_rule (all_there (read_types state i.reads)) ≡ Ok all → types ≡ all → again ≡ all
    → kinds_by st i.operation again state.ctx.vars ≡ Ok tt → edge_by st state target i.operation types values by ≡ Ok next.ctx → next.places ≡ state.places
    → goes_to_by st labels state i values by ≡ Ok next
unfolding goes_to_by
goes_to_ends st labels state target next i types values by {all = all} {again = again} one two same others three four places =
    follows (found (label_at labels i.target) rule.Target) _ target (Ok next) one
    (follows (by_rule (all_there (read_types state i.reads))) _ types (Ok next) (subst (λ ts. by_rule (all_there (read_types state i.reads)) ≡ Ok ts) (sym same) two)
    (follows (kinds_by st i.operation types state.ctx.vars) _ tt (Ok next) (subst (λ ts. kinds_by st i.operation ts state.ctx.vars ≡ Ok tt) (others ∙ sym same) three)
    (follows (edge_by st state target i.operation types values by) _ next.ctx (Ok next) four (ap (λ ps. let v : Verdict StateType = Ok (state_of next.ctx ps) in v) (sym places)))))

-- what is answered behind the edge
pub goes_to_gives : (result : Result (Unit {0}) Broken) (st : Setting) (labels : List StateType) (state target next : StateType) (i : Instruction) (types : List Ty) (values : List (ℕ × Linear))
    (by : List (List Line)) {all again : List Ty} → found (label_at labels i.target) rule.Target ≡ Ok target → by_rule (all_there (read_types state i.reads)) ≡ Ok all → types ≡ all
    → again ≡ all → kinds_by st i.operation again state.ctx.vars ≡ Ok tt → Gives (λ _. next.ctx) result (edge_by st state target i.operation types values by)
    → IfOk result (λ _. next.places ≡ state.places) → Gives (λ _. next) result (goes_to_by st labels state i values by)
goes_to_gives (Ok x) st labels state target next i types values by one two same others three four places =
    goes_to_ends st labels state target next i types values by one two same others three four places
goes_to_gives (Err why) st labels state target next i types values by one two same others three four places =
    goes_to_fails why st labels state target i types values by one two same others three four
