-- A move between places is typed, and so are the moves that emission adds to an instruction.
use Rattle.std.proofs.Common.{◌≡◌, ◌≢◌, ◌⊎◌, inl, inr, ℕ, suc, ◌+◌, ◌<◌, ◌≤◌, Bool, true, false, List, [], ◌∷◌, ◌++◌, length, Some, Result, Ok, Err, nat_lt, if◌then◌else◌, refl, sym, ap, subst, ◌∙◌, arith}
use Rattle.std.proofs.lemmas.Bool.{cases_lt}
use Rattle.std.proofs.lemmas.Bool.Decides.{nat_tests}
use Rattle.index_sorts.specs.Context.{IndexContext, with_variables}
use Rattle.index_sorts.specs.declared.error.ContextError.{ContextError}
use Rattle.index_sorts.specs.declared.error.ContextError.TheVariants as context_error
use Rattle.state_types.specs.Answers.{◌>>=◌}
use Rattle.state_types.specs.PlaceTypes.{type_at, with_type}
use Rattle.state_types.specs.declared.state.StateType.{StateType}
use Rattle.state_types.specs.declared.types.Ty.{Ty}
use Rattle.operation_rules.specs.Applied.{Ruled, widened, all_assuming, all_given, applied, named, all_there, ruled}
use Rattle.operation_rules.specs.Faults.{filled}
use Rattle.operation_rules.specs.Rules.{Setting, rule}
use Rattle.operation_rules.specs.declared.operation.Operation.TheVariants.{Move}
use Rattle.dtal_code.specs.declared.instruction.Instr.{Instr}
use Rattle.dtal_code.specs.declared.instruction.Op.TheVariants as op
use Rattle.dtal_code.specs.Declarations.{state_of}
use Rattle.dtal_code.specs.Instructions.{Instruction, does}
use Rattle.dtal_code.specs.Passing.{unknown, are_proved, asks_lines, read_types, are_different, with_types, ruled_verdict, goes_on_verdict, gives_back_verdict, instr_verdict}
use Rattle.proof_lines.specs.declared.line.Line.{Line}
use Rattle.dtal_emit.specs.Homes.{is_slot, alone, moved_if, loads, registers}
use Rattle.emission_acceptance.specs.TypesThrough.{Walks, WalkEnds, WalkGoesOn}
use Rattle.emission_acceptance.proofs.TypesHeld.{type_same, type_other, AreThere}

-- ---- walks

module _ (st : Setting) (labels : List StateType) where
  pub walk_joined : (state mid last : StateType) (code more : List Instr) (befores others : List StateType) → Walks st labels state code befores mid
      → Walks st labels mid more others last → Walks st labels state (code ++ more) (befores ++ others) last
  walk_joined _ _ last _ more _ others (WalkEnds state) rest = rest
  walk_joined _ _ last _ more _ others (WalkGoesOn state next mid instr code befores e walk) rest =
      WalkGoesOn state next last instr (code ++ more) (befores ++ others) e (walk_joined next mid last code more befores others walk rest)

  pub walk_one : (state next : StateType) (instr : Instr) → instr_verdict st labels state instr ≡ Ok next → Walks st labels state (instr ∷ []) (state ∷ []) next
  walk_one state next instr e = WalkGoesOn state next next instr [] [] e (WalkEnds next)

-- ---- a context that does not change

no_more : (ctx : IndexContext) → with_variables ctx 0 ≡ ctx
no_more ctx = ap (λ n. record ctx { vars = n }) (let e : ctx.vars + 0 ≡ ctx.vars = omega arith in e)

pub none_fresh : (ctx : IndexContext) → ctx.vars ≤ 1024 → widened 0 ctx ≡ Ok ctx
unfolding widened
none_fresh ctx few =
    (let t : nat_lt 1024 (ctx.vars + 0) ≡ false = grind (arith, nat_tests) in
    ap (λ k. (let r : Result ℕ ContextError = if k then Err context_error.Variables else Ok ctx.vars in r) >>= (λ first. Ok (with_variables ctx 0))) t ∙ ap Ok (no_more ctx))

-- ---- what is asked of an instruction that does not go to a label

module _ (st : Setting) (state : StateType) (i : Instruction) (by : List (List Line)) (given : Ruled) where
  pub ruled_passes : named st i.operation ≡ Ok tt → are_different i.writes ≡ true → ruled st i.operation (read_types state i.reads) state.ctx ≡ Ok given
      → asks_lines state.ctx given.demands by ≡ Ok tt → ruled_verdict st state i by ≡ Ok given
  unfolding ruled_verdict
  ruled_passes names different rules proved = rw (names, different, rules, proved) refl

  pub goes_on_passes : ruled_verdict st state i by ≡ Ok given → goes_on_verdict st state i by ≡ Ok (state_of given.ctx (with_types i.writes given.types state.places))
  unfolding goes_on_verdict
  goes_on_passes e = rw e refl

  pub gives_back_passes : ruled_verdict st state i by ≡ Ok given → gives_back_verdict st state i by ≡ Ok state
  unfolding gives_back_verdict
  gives_back_passes e = rw e refl

-- ---- one move

move_ruled : (st : Setting) (t : Ty) (ctx : IndexContext) → ctx.vars ≤ 1024 → ruled st Move (Some t ∷ []) ctx ≡ Ok (record { demands = []; ctx = ctx; types = t ∷ [] })
unfolding ruled named all_there rule applied all_given all_assuming
move_ruled st t ctx few = ap (λ r. filled r >>= (λ wide. Ok (record { demands = []; ctx = wide; types = t ∷ [] }))) (none_fresh ctx few)

pub move_verdict : (st : Setting) (labels : List StateType) (state : StateType) (to from : ℕ) (t : Ty) → state.ctx.vars ≤ 1024 → type_at from state.places ≡ Some t
    → instr_verdict st labels state (alone (op.Mv to from)) ≡ Ok (state_of state.ctx (with_type to t state.places))
unfolding instr_verdict named are_different unknown are_proved with_types
move_verdict st labels state to from t few e =
    let i : Instruction = does Move (to ∷ []) (from ∷ []) in
    let given : Ruled = record { demands = []; ctx = state.ctx; types = t ∷ [] } in
    goes_on_passes st state i [] given
    (ruled_passes st state i [] given refl refl (ap (λ o. ruled st Move (o ∷ []) state.ctx) e ∙ move_ruled st t state.ctx few) refl)

-- ---- loads

-- a home is no scratch register
abbrev pub AreClear : List ℕ → Type 0
AreClear [] = Unit {0}
AreClear (home ∷ homes) = ((13 ≤ home) → 16 ≤ home) × AreClear homes

outside : (home scratch : ℕ) → ((13 ≤ home) → 16 ≤ home) → 13 ≤ scratch → (home < scratch) ⊎ (16 ≤ home)
outside home scratch is low_enough = by_test (cases_lt home 13)
  where
    by_test : (home < 13) ⊎ (13 ≤ home) → (home < scratch) ⊎ (16 ≤ home)
    by_test (inl lt) = inl (omega (arith, lt, low_enough))
    by_test (inr le) = inr (is le)

module _ (st : Setting) (labels : List StateType) (ctx : IndexContext) (few : ctx.vars ≤ 1024) where
  -- the moves are walked, behind them the registers have the types of the homes, and of the scratch registers only later ones have changed
  pub record IsLoaded (scratch : ℕ) (homes : List ℕ) (types : List Ty) (places : List (ℕ × Ty)) : Type 0 where
    pub befores : List StateType
    pub last : List (ℕ × Ty)
    pub walks : Walks st labels (state_of ctx places) (loads scratch homes) befores (state_of ctx last)
    pub there : AreThere last (registers scratch homes) types
    pub same : (place : ℕ) → (place < scratch) ⊎ (16 ≤ place) → type_at place last ≡ type_at place places

  other_there : (scratch : ℕ) (t : Ty) (places : List (ℕ × Ty)) (homes : List ℕ) (types : List Ty) → 13 ≤ scratch → scratch < 16 → AreClear homes → AreThere places homes types
      → AreThere (with_type scratch t places) homes types
  other_there scratch t places [] [] low high clear there = tt
  other_there scratch t places [] (u ∷ types) low high clear there = absurd there
  other_there scratch t places (home ∷ homes) [] low high clear there = absurd there
  other_there scratch t places (home ∷ homes) (u ∷ types) low high clear there = (
    type_other scratch home t places (λ e. (let l : 13 ≤ home = omega (arith, e, low) in let h = clear.0 l in absurd (omega (arith, e, high, h)))) ∙ there.0,
    other_there scratch t places homes types low high clear.1 there.1,
  )

  pub loaded : (scratch : ℕ) (homes : List ℕ) (types : List Ty) (places : List (ℕ × Ty)) → 13 ≤ scratch → scratch + length homes ≤ 16 → AreClear homes
      → AreThere places homes types → IsLoaded scratch homes types places
  unfolding loads registers
  loaded scratch [] [] places low room clear there =
      record { befores = []; last = places; walks = WalkEnds (state_of ctx places); there = tt; same = λ place out. refl }
  loaded scratch [] (t ∷ types) places low room clear there = absurd there
  loaded scratch (home ∷ homes) [] places low room clear there = absurd there
  loaded scratch (home ∷ homes) (t ∷ types) places low room clear there =
      by_slot (is_slot home) refl (λ next now low_next room_next there_next. loaded next homes types now low_next room_next clear.1 there_next)
    where
      by_slot : (k : Bool) → is_slot home ≡ k
          → ((next : ℕ) (now : List (ℕ × Ty)) → 13 ≤ next → next + length homes ≤ 16 → AreThere now homes types → IsLoaded next homes types now)
          → IsLoaded scratch (home ∷ homes) (t ∷ types) places
      by_slot true s load =
          let high : scratch < 16 = omega (arith, room) in
          let next = with_type scratch t places in
          let rest = load (suc scratch) next (omega (arith, low)) (omega (arith, room)) (other_there scratch t places homes types low high clear.1 there.1) in
          let first = walk_one st labels (state_of ctx places) (state_of ctx next) (alone (op.Mv scratch home)) (move_verdict st labels (state_of ctx places) scratch home t few there.0) in
          let kept : type_at scratch rest.last ≡ Some t = rest.same scratch (inl (omega arith)) ∙ type_same scratch t places in
          record {
            befores = state_of ctx places ∷ rest.befores;
            last = rest.last;
            walks = subst (λ k. Walks st labels (state_of ctx places) (moved_if k scratch home ++ loads (if k then suc scratch else scratch) homes) (state_of ctx places ∷ rest.befores) (state_of ctx rest.last)) (sym s)
                (walk_joined st labels (state_of ctx places) (state_of ctx next) (state_of ctx rest.last) _ (loads (suc scratch) homes) _ rest.befores first rest.walks);
            there = subst (λ k. AreThere rest.last ((if k then scratch else home) ∷ registers (if k then suc scratch else scratch) homes) (t ∷ types)) (sym s) (kept, rest.there);
            same = λ place out. rest.same place (further place out) ∙ type_other scratch place t places (unlike place out high);
          }
        where
          further : (place : ℕ) → (place < scratch) ⊎ (16 ≤ place) → (place < suc scratch) ⊎ (16 ≤ place)
          further place (inl lt) = inl (omega (arith, lt))
          further place (inr le) = inr le

          unlike : (place : ℕ) → (place < scratch) ⊎ (16 ≤ place) → scratch < 16 → scratch ≢ place
          unlike place (inl lt) high e = absurd (omega (arith, lt, e))
          unlike place (inr le) high e = absurd (omega (arith, le, e, high))
      by_slot false s load =
          let rest = load scratch places low (omega (arith, room)) there.1 in
          record {
            befores = rest.befores;
            last = rest.last;
            walks = subst (λ k. Walks st labels (state_of ctx places) (moved_if k scratch home ++ loads (if k then suc scratch else scratch) homes) rest.befores (state_of ctx rest.last)) (sym s) rest.walks;
            there = subst (λ k. AreThere rest.last ((if k then scratch else home) ∷ registers (if k then suc scratch else scratch) homes) (t ∷ types)) (sym s)
                (rest.same home (outside home scratch clear.0 low) ∙ there.0, rest.there);
            same = rest.same;
          }
