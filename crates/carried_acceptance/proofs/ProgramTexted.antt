-- All notes of a shaped core have texts.
use Rattle.std.proofs.Common.{◌≡◌, ◌∙◌, ℕ, zero, suc, ◌+◌, List, [], ◌∷◌, map, slice_get, Option, Some, None, Ok, refl, sym, ap, subst, arith}
use Rattle.std.specs.List.{AllZip}
use Rattle.std.proofs.lemmas.Option.{none-some, same_Some}
use Rattle.state_types.specs.declared.closed.Signature.{Signature}
use Rattle.state_types.proofs.Thens.{then_ok, ok_same}
use Rattle.xan_lin.specs.declared.term.LimitKind.TheVariants as limit
use Rattle.xanadu_tree.specs.KindRules.{header}
use Rattle.xanadu_tree.specs.Plain as core
use Rattle.xanadu_tree.specs.Shaped.{Shaped}
use Rattle.xanadu_tree.specs.Shaped as shaped
use Rattle.typed_core.specs.Goals.{Elaboration, body_start, elaborated}
use Rattle.typed_core.specs.Goals as goals
use Rattle.typed_core.specs.Limits.{within}
use Rattle.typed_core.specs.Places.{places_of}
use Rattle.typed_core.specs.States.{Site, State, there}
use Rattle.typed_core.specs.Statements.{block}
use Rattle.typed_core.specs.declared.goal.GoalAt.{GoalAt}
use Rattle.typed_core.specs.declared.note.Note.{Note}
use Rattle.typed_core.proofs.FitPrograms.{start_fits}
use Rattle.typed_core.proofs.NamedPrograms.{start_stays}
use Rattle.typed_core.proofs.NamedStates.{answered}
use Rattle.source_safety.specs.Recorded.{site_of}
use Rattle.source_safety.proofs.BodiesStart.{IsBody, body_of, setting_in}
use Rattle.source_safety.proofs.PlacesKnown.{IsAt}
use Rattle.carrier_laws.proofs.GroundsFound.{grounds_found}
use Rattle.carrier_laws.proofs.PlacesKept.{Grounds, Place}
use Rattle.carrier_laws.proofs.StartsFound.{start_is, start_place}
use Rattle.carrier_laws.proofs.WholeTyped.{made_is}
use Rattle.lowered_acceptance.proofs.TypesDeclared.{IsSignatureOf, signatures_made}
use Rattle.carried_acceptance.proofs.TextedNotes.{AreTexted, TextsOf, block_texted}

-- ---- lists

zip_at : {A B : Type 0} (R : A → B → Type 0) (xs : List A) (ys : List B) (n : ℕ) (x : A) (y : B) → AllZip R xs ys → slice_get xs n ≡ Some x → slice_get ys n ≡ Some y → R x y
zip_at R [] ys n x y all e f = absurd (none-some x e)
zip_at R (z ∷ xs) [] n x y all e f = absurd all
zip_at R (z ∷ xs) (w ∷ ys) zero x y all e f = subst (λ a. R a y) (same_Some z x e) (subst (R z) (same_Some w y f) all.0)
zip_at R (z ∷ xs) (w ∷ ys) (suc n) x y all e f = zip_at R xs ys n x y all.1 e f

there_is : {A : Type 0} (o : Option A) (x : A) → there o ≡ Ok x → o ≡ Some x
there_is (Some y) x e = ap (λ z. let p : Option _ = Some z in p) (ok_same y x e)
there_is None x e = absurd (let bad : ⊥ = cc in bad)

module _ (program : core.Program) (made : Elaboration) (shape : Shaped program) (is : elaborated program ≡ Ok made) where
  abbrev Texted : List GoalAt → List Note → Type 0
  Texted gs notes = AreTexted made.table notes gs

  -- ---- a function

  module _ (fun : ℕ) (f : core.Fun) (at : slice_get program.funs fun ≡ Some f) where
    abbrev body : IsBody program made fun f
    body = body_of program made shape is fun f at

    abbrev own : Signature
    own = body.segment.own

    abbrev site : Site
    site = site_of made fun own

    signed : IsSignatureOf f own
    signed =
        let all = signatures_made program.funs [] made.sigs body.segment.headers in
        zip_at IsSignatureOf program.funs all.rest fun f own all.each at (ap (λ xs. slice_get xs fun) all.is ∙ body.segment.signature)

    grounds : Grounds (setting_in program f) site
    grounds = grounds_found program made shape fun f body

    place : (gs : List GoalAt) (notes : List Note) (start : State) → body_start own gs notes ≡ Ok start → Place (setting_in program f) site (shaped.body_start f) start
    place gs notes start begins =
        let few = signed.few_vars in
        let here : IsAt (setting_in program f) own.vars (shaped.body_start f) start = record {
          knows = answered (body_start own gs notes) start (start_fits program.types (map header program.funs) f body.rules own body.signed gs notes) begins;
          behind = answered (body_start own gs notes) start (start_stays own f.quant.count gs notes body.sound.own) begins;
        } in
        start_place site own refl gs notes start begins (grounds.ground.are.signed fun own body.segment.signature) (omega (arith, few)) (setting_in program f) (shaped.body_start f)
        f.quant.count signed.vars refl refl here

    start_texted : (gs : List GoalAt) (notes : List Note) (start : State) → body_start own gs notes ≡ Ok start → Texted gs notes → TextsOf made.table start
    start_texted gs notes start begins texted =
        subst (TextsOf made.table) (start_is own gs notes start begins).is texted

    pub function_texted : (gs : List GoalAt) (notes : List Note) (done : State) → goals.function made.table made.sigs fun f gs notes ≡ Ok done → Texted gs notes → Texted done.goals done.notes
    unfolding goals.function
    function_texted gs notes done e texted =
        let a = then_ok (there (slice_get made.sigs fun)) _ done e in
        let b = then_ok (within limit.Places (places_of f)) _ done a.second in
        let c = then_ok (body_start a.value gs notes) _ done b.second in
        let same = same_Some a.value own (sym (there_is (slice_get made.sigs fun) a.value a.first) ∙ body.segment.signature) in
        let begins = subst (λ (s : Signature). body_start s gs notes ≡ Ok c.value) same c.first in
        let runs = subst (λ (s : Signature). block (record { table = made.table; sigs = made.sigs; fun = fun; own = s }) f.body c.value ≡ Ok done) same c.second in
        block_texted (setting_in program f) site grounds f.body (shaped.body_start f) body.rules.end c.value done body.rules.body (place gs notes c.value begins)
        (start_texted gs notes c.value begins texted) runs

  -- ---- all functions

  functions_texted : (fun : ℕ) (fs : List core.Fun) (gs : List GoalAt) (notes : List Note) (all : Elaboration) → ((k : ℕ) (f : core.Fun) → slice_get fs k ≡ Some f → slice_get program.funs (fun + k) ≡ Some f)
      → goals.functions made.table made.sigs fun fs gs notes ≡ Ok all → Texted gs notes → Texted all.goals all.notes
  unfolding goals.functions
  functions_texted fun [] gs notes all are e texted = subst (λ (x : Elaboration). Texted x.goals x.notes) (ok_same _ all e) texted
  functions_texted fun (f ∷ fs) gs notes all are e texted =
      let a = then_ok (goals.function made.table made.sigs fun f gs notes) _ all e in
      let here = subst (λ n. slice_get program.funs n ≡ Some f) (let z : fun + 0 ≡ fun = omega arith in z) (are 0 f refl) in
      functions_texted (suc fun) fs a.value.goals a.value.notes all
      (λ k g h. subst (λ n. slice_get program.funs n ≡ Some g) (let z : fun + suc k ≡ suc fun + k = omega arith in z) (are (suc k) g h)) a.second
      (function_texted fun f here gs notes a.value a.first texted)

  pub program_texted : Texted made.goals made.notes
  program_texted =
      functions_texted 0 program.funs [] [] made (λ k f h. subst (λ n. slice_get program.funs n ≡ Some f) (let z : k ≡ 0 + k = omega arith in z) h) (made_is program made is).bodies (record { notes = tt; goals = tt })
