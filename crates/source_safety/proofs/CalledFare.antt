-- Calls go well: by induction on the bound, over the bodies of all functions.
use Rattle.std.proofs.Common.{◌≡◌, ◌∙◌, ℕ, zero, suc, ℤ, List, [], ◌∷◌, take, length, nat_lt, Bool as Truth, true, false, Some, Ok, refl, sym, ap, subst, eq-eqb, arith}
use Rattle.std.specs.Prelude.{slice_get}
use Rattle.std.proofs.lemmas.Option.{same_Some}
use Rattle.index_sorts.specs.Entails.{AllHold}
use Rattle.state_types.specs.declared.closed.Signature.{Signature}
use Rattle.xanadu_tree.specs.Plain as core
use Rattle.xanadu_tree.specs.BodyRules.{completes_all}
use Rattle.xanadu_tree.specs.Shaped as shaped
use Rattle.xanadu_tree.specs.Shaped.{Shaped}
use Rattle.typed_core.specs.Goals.{Elaboration, elaborated}
use Rattle.typed_core.specs.SourceCalls.{env_of, result, body_if, body, begun, called}
use Rattle.typed_core.specs.SourceRuns.{Run, Recorder, Calls, Flow, Next, Gives as Returns}
use Rattle.typed_core.specs.SourceStatements as source
use Rattle.typed_core.specs.SourceValues.{Value, Blocks}
use Rattle.typed_core.proofs.FunctionsFound.{function_segment}
use Rattle.source_safety.specs.Recorded.{site_of}
use Rattle.source_safety.specs.Values.{headers_of, HaveValues, StoreHolds}
use Rattle.source_safety.specs.Standing.{GoalsHold, Came, CallsFare, Fares, LeavesIf}
use Rattle.source_safety.proofs.BodiesStart.{setting_in, IsBody, Begins, body_of, function_of, as_many, start_wide, start_stands}
use Rattle.source_safety.proofs.Demanded.{goals_before}
use Rattle.source_safety.proofs.FaredOn.{fares_then}
use Rattle.source_safety.proofs.StatementsFare.{block_fares}
use Rattle.source_safety.proofs.TurnsFare.{paid_fares}

take_whole : (n : ℕ) (xs : List ℤ) → length xs ≡ n → take n xs ≡ xs
take_whole zero [] e = refl
take_whole zero (x ∷ xs) e = absurd (let bad : ⊥ = omega (arith, e) in bad)
take_whole (suc n) [] e = refl
take_whole (suc n) (x ∷ xs) e = ap (λ l. x ∷ l) (take_whole n xs (omega (arith, e)))

module _ {L : Type 0} (recorder : Recorder L) (program : core.Program) (made : Elaboration) (goals : GoalsHold made.goals) where
  -- ---- bodies

  abbrev pub Comes : Signature → List ℤ → Blocks → Value → Run L → Type 0
  Comes sig values store v new = Came made.table sig values store v new.store

  -- a body that may not complete gives a result
  result_fares : (fun : ℕ) (f : core.Fun) (b : IsBody program made fun f) (values : List ℤ) (store : Blocks) (width : ℕ) → length values ≡ b.segment.own.vars → (flow : Flow) (new : Run L)
      → LeavesIf (completes_all f.body) (site_of made fun b.segment.own) b.segment.end width values store flow new → Fares (Comes b.segment.own values store) (result flow new)
  result_fares fun f b values store width one_each (Next env) new h = absurd (let bad : ⊥ = contrary (completes_all f.body) b.rules.returns h.comes in bad)
    where
      contrary : (c : Truth) → c ≡ false → c ≡ true → ⊥
      contrary c e h = cc
  result_fares fun f b values store width one_each (Returns v) new h =
      record { is = subst (λ a. Came made.table b.segment.own a store v new.store) (take_whole b.segment.own.vars values one_each) h }

  pub body_fares : (fun : ℕ) (f : core.Fun) (b : IsBody program made fun f) (call : Calls L) → CallsFare made.table made.sigs call → (bound : ℕ) (values : List ℤ) (vs : List Value) (run : Run L)
      → Begins program made fun f b values vs run.store → Fares (Comes b.segment.own values run.store) (body recorder call fun bound f vs run)
  unfolding body
  body_fares fun f b call calls bound values vs run s =
      let site = site_of made fun b.segment.own in
      let env = env_of f vs in
      let hold = goals_before b.segment.end.goals made.goals b.segment.later_goals goals in
      let many = as_many program made fun f b values vs run.store s in
      let wide = start_wide program made fun f b values vs run.store s in
      let stands = start_stands program made fun f b values vs run.store s in
      subst (λ c. Fares (Comes b.segment.own values run.store) (body_if recorder c call fun bound f vs run)) (sym (eq-eqb (length vs) (length f.params) many))
      (fares_then (source.block recorder call fun bound [] 0 f.body env run) _
      (block_fares (setting_in program f) site b.suits b.sound recorder call calls fun f.body (shaped.body_start f) b.rules.end b.segment.start b.segment.end bound [] 0 env values run
      b.rules.body b.here b.segment.body hold stands wide)
      (λ p h. result_fares fun f b values run.store (length env) s.one_each p.0 p.1 h))

  -- ---- calls

  module _ (shape : Shaped program) (is : elaborated program ≡ Ok made) (depth : ℕ) where
    begun_fares : (room : Truth) (call : Calls L) → CallsFare made.table made.sigs call → (fun bound : ℕ) (sig : Signature) (f : core.Fun) → slice_get program.funs fun ≡ Some f
        → slice_get made.sigs fun ≡ Some sig → (values : List ℤ) (vs : List Value) (run : Run L) → length values ≡ sig.vars → AllHold values sig.rows
        → HaveValues (headers_of run.store) values vs sig.params → StoreHolds made.table run.store
        → Fares (Comes sig values run.store) (begun recorder program.funs depth room call fun bound (Some f) vs run)
    begun_fares false call calls fun bound sig f there signed values vs run one_each hold have holds = record { is = tt }
    begun_fares true call calls fun bound sig f there signed values vs run one_each hold have holds =
        let b = body_of program made shape is fun f there in
        let same : sig ≡ b.segment.own = same_Some sig b.segment.own (sym signed ∙ b.segment.signature) in
        paid_fares run _ (λ units.
        subst (λ s. Fares (Comes s values run.store) (body recorder call fun bound f vs (record run { units = units }))) (sym same)
        (body_fares fun f b call calls bound values vs (record run { units = units }) (record {
          one_each = one_each ∙ ap (λ s. s.vars) same;
          hold = subst (λ s. AllHold values s.rows) same hold;
          have = subst (λ s. HaveValues (headers_of run.store) values vs s.params) same have;
          holds = holds;
        })))

    pub called_fares : (bound live : ℕ) → CallsFare made.table made.sigs (called recorder program.funs depth bound live)
    unfolding called
    called_fares zero live = record { by = λ fun sig values vs run there one_each hold have holds. record { is = tt } }
    called_fares (suc bound) live = record {
      by = λ fun sig values vs run there one_each hold have holds.
          let found = function_of program made fun sig (function_segment program made program.main shape.main_function is shape.main_number).headers there in
          subst (λ o. Fares (Comes sig values run.store) (begun recorder program.funs depth (nat_lt live depth) (called recorder program.funs depth bound (suc live)) fun bound o vs run)) (sym found.there)
          (begun_fares (nat_lt live depth) (called recorder program.funs depth bound (suc live)) (called_fares bound (suc live)) fun bound sig found.value found.there there values vs run one_each hold have holds);
    }
