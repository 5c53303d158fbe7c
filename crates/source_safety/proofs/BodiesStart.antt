-- Where the body of a function of a core that keeps the rules begins: what is known there, and that a run that begins with arguments that fit stands there.
use Rattle.std.proofs.Common.{◌≡◌, ◌∙◌, ℕ, zero, suc, ◌+◌, ◌-◌, ◌≤◌, ◌<◌, ℤ, List, [], ◌∷◌, ◌++◌, map, length, length-append, replicate, take, Bool as Truth, true, false, cond, Option, Some, None, Ok, Err, refl, sym, ap, subst, arith}
use Rattle.std.specs.Prelude.{slice_get, ◌==◌}
use Rattle.std.specs.List.{enumerate_from, list_all}
use Rattle.std.proofs.lemmas.Bool.Decides.{Decides-eqb}
use Rattle.std.proofs.lemmas.List.{length-replicate, length-map}
use Rattle.std.proofs.lemmas.List.Elements.{All-nil}
use Rattle.std.proofs.lemmas.Option.{same_Some}
use Rattle.index_sorts.specs.Context.{IndexContext}
use Rattle.index_sorts.specs.Entails.{AllHold}
use Rattle.xan_lin.specs.Value.{Holds}
use Rattle.xan_lin.specs.declared.term.LimitKind.TheVariants as limit
use Rattle.state_types.specs.PlaceTypes.{type_at}
use Rattle.state_types.specs.Tables.{int_cell, bool_cell}
use Rattle.state_types.specs.Unpacking.{with_rows}
use Rattle.state_types.specs.Words.{Headers}
use Rattle.state_types.specs.declared.closed.Signature.{Signature}
use Rattle.state_types.specs.declared.types.Ty.{Ty}
use Rattle.state_types.proofs.Thens.{then_ok, ok_same}
use Rattle.state_types.proofs.Unpacked.{rows_grow, rows-vars}
use Rattle.operation_rules.specs.Sound.{IsSetting, IsHeader}
use Rattle.xanadu_tree.specs.declared.types.CoreTy.{CoreTy}
use Rattle.xanadu_tree.specs.declared.types.Kind.{Kind}
use Rattle.xanadu_tree.specs.KindRules.{kind_of, header, Setting}
use Rattle.xanadu_tree.specs.Plain as core
use Rattle.xanadu_tree.specs.Shaped as shaped
use Rattle.xanadu_tree.specs.Shaped.{IsFunction, Shaped, setting}
use Rattle.typed_core.specs.Constructs.{setting_of}
use Rattle.typed_core.specs.Goals.{Elaboration, body_start, elaborated}
use Rattle.typed_core.specs.Headers.{closed_types, signature, signatures}
use Rattle.typed_core.specs.Limits.{within, in_context, held}
use Rattle.typed_core.specs.Segments.{IsFunctionSegment}
use Rattle.typed_core.specs.SourceCalls.{env_of}
use Rattle.typed_core.specs.SourceRuns.{Env}
use Rattle.typed_core.specs.SourceValues.{Value, Blocks}
use Rattle.typed_core.specs.States.{State}
use Rattle.typed_core.specs.Strays.{form_below}
use Rattle.typed_core.specs.declared.goal.GoalAt.{GoalAt}
use Rattle.typed_core.specs.declared.note.Note.{Note}
use Rattle.typed_core.proofs.FitOperands.{Suits}
use Rattle.typed_core.proofs.FitPrograms.{AreSigned, closed_all, signatures_fit, IsSignedOf, signed_at, all_at, start_fits, suits_of}
use Rattle.typed_core.proofs.FunctionsFound.{function_segment}
use Rattle.typed_core.proofs.NamedPrograms.{declarations_are_closed, each, start_stays}
use Rattle.typed_core.proofs.NamedStates.{answered}
use Rattle.typed_core.proofs.RowsSoFar.{start_named}
use Rattle.typed_core.proofs.TypeKinds.{HaveKindsOf}
use Rattle.source_safety.specs.Recorded.{site_of}
use Rattle.source_safety.specs.Values.{headers_of, HasValue, HaveValues, StoreHolds}
use Rattle.source_safety.specs.Standing.{Stands}
use Rattle.source_safety.proofs.PlacesKnown.{IsAt}

abbrev pub setting_in : core.Program → core.Fun → Setting
setting_in program f = setting program.types (map header program.funs) f

-- a function of an elaborated core that keeps the rules
pub record IsBody (program : core.Program) (made : Elaboration) (fun : ℕ) (f : core.Fun) : Type 0 where
  pub segment : IsFunctionSegment program made fun f
  pub rules : IsFunction program.types (map header program.funs) f
  pub signed : IsSignedOf f segment.own
  pub suits : Suits (setting_in program f) (site_of made fun segment.own)
  pub sound : IsSetting (setting_of (site_of made fun segment.own))
  pub here : IsAt (setting_in program f) segment.own.vars (shaped.body_start f) segment.start

-- ---- headers

abbrev pub AllSigned : core.Program → Elaboration → Type 0
AllSigned program made = AreSigned program.funs made.sigs

signatures_many : (fs : List core.Fun) (made all : List Signature) → signatures fs made ≡ Ok all → length all ≡ length made + length fs
unfolding signatures
signatures_many [] made all e = ap length (sym (ok_same made all e)) ∙ omega arith
signatures_many (f ∷ fs) made all e =
    let s = then_ok (signature f) _ all e in
    let later = signatures_many fs (made ++ s.value ∷ []) all s.second in
    let more = length-append made (s.value ∷ []) in
    omega (arith, later, more)

pub record Found {A : Type 0} (xs : List A) (n : ℕ) : Type 0 where
  pub value : A
  pub there : slice_get xs n ≡ Some value

found_below : {A : Type 0} (xs : List A) (n : ℕ) → n < length xs → Found xs n
found_below [] n h = absurd (let bad : ⊥ = omega (arith, h) in bad)
found_below (x ∷ xs) zero h = record { value = x; there = refl }
found_below (x ∷ xs) (suc n) h = (let it = found_below xs n (omega (arith, h)) in record { value = it.value; there = it.there })

below_found : {A : Type 0} (xs : List A) (n : ℕ) (x : A) → slice_get xs n ≡ Some x → n < length xs
below_found [] n x e = absurd (let bad : ⊥ = cc in bad)
below_found (y ∷ ys) zero x e = omega arith
below_found (y ∷ ys) (suc n) x e = (let h = below_found ys n x e in omega (arith, h))

-- a signature is one of a function
pub function_of : (program : core.Program) (made : Elaboration) (fun : ℕ) (sig : Signature) → signatures program.funs [] ≡ Ok made.sigs → slice_get made.sigs fun ≡ Some sig → Found program.funs fun
function_of program made fun sig headers there =
    let many = signatures_many program.funs [] made.sigs headers in
    let less = below_found made.sigs fun sig there in
    found_below program.funs fun (omega (arith, many, less))

-- ---- functions

module _ (program : core.Program) (made : Elaboration) (shape : Shaped program) (is : elaborated program ≡ Ok made) (fun : ℕ) (f : core.Fun) (there : slice_get program.funs fun ≡ Some f) where
  pub body_of : IsBody program made fun f
  body_of =
      let segment = function_segment program made fun f is there in
      let own = segment.own in
      let rules = all_at (IsFunction program.types (map header program.funs)) program.funs fun f shape.functions there in
      let closed = answered (closed_types program.types (int_cell ∷ bool_cell ∷ [])) made.table (closed_all program.types (int_cell ∷ bool_cell ∷ [])) segment.types in
      let headers = answered (signatures program.funs []) made.sigs (signatures_fit program.funs []) segment.headers in
      let signed : AllSigned program made = subst (AreSigned program.funs) (sym headers.is) headers.holds in
      let at = signed_at program.funs made.sigs fun f signed there in
      let own_signed = subst (λ s. IsSignedOf f s) (same_Some at.sig own (sym at.at ∙ segment.signature)) at.is in
      let declared = declarations_are_closed program made.table made.sigs shape segment.types segment.headers in
      let header_is = each IsHeader made.sigs fun own declared.headers segment.signature in
      record {
        segment = segment;
        rules = rules;
        signed = own_signed;
        suits = subst (λ t. Suits (setting_in program f) (record { table = t; sigs = made.sigs; fun = fun; own = own })) (sym closed.is)
            (suits_of program.types shape.types closed.rest closed.holds program.funs made.sigs signed fun f own rules own_signed);
        sound = record { table = declared.closed; sigs = declared.headers; own = header_is };
        here = record {
          knows = answered (body_start own segment.goals segment.notes) segment.start
              (start_fits program.types (map header program.funs) f rules own own_signed segment.goals segment.notes) segment.begins;
          behind = answered (body_start own segment.goals segment.notes) segment.start (start_stays own f.quant.count segment.goals segment.notes header_is) segment.begins;
        };
      }

-- ---- where a body begins

record IsStart (sig : Signature) (start : State) : Type 0 where
  vars : start.ctx.vars ≡ sig.vars
  types : enumerate_from 0 sig.params ≡ start.types
  hold : (values : List ℤ) → AllHold values sig.rows → AllHold values start.ctx.rows

context_ok : (m : _) (ctx : IndexContext) → in_context m ≡ Ok ctx → m ≡ Ok ctx
context_ok (Ok c) ctx e = cc
context_ok (Err why) ctx e = absurd (let bad : ⊥ = cc in bad)

start_is : (sig : Signature) (goals : List GoalAt) (notes : List Note) (start : State) → body_start sig goals notes ≡ Ok start → IsStart sig start
unfolding body_start
start_is sig goals notes start e =
    let begin : IndexContext = record { vars = sig.vars; rows = [] } in
    let s = then_ok (within limit.Parameters (length sig.params)) _ start e in
    let t = then_ok (held (list_all (form_below sig.vars) sig.rows)) _ start s.second in
    let u = then_ok (in_context (with_rows begin sig.rows)) _ start t.second in
    let rows = context_ok (with_rows begin sig.rows) u.value u.first in
    subst (IsStart sig) (ok_same _ start u.second) (record {
      vars = rows-vars begin u.value sig.rows rows;
      types = refl;
      hold = λ values all. (rows_grow values begin u.value sig.rows rows (All-nil (Holds values)) all).1;
    })

-- ---- parameters

record IsParameter (headers : Headers) (values : List ℤ) (env : Env) (low x : ℕ) (t : Ty) : Type 0 where
  number : ℕ
  is : low + number ≡ x
  value : Value
  there : slice_get env number ≡ Some (Some value)
  has : HasValue headers values value t

module _ (headers : Headers) (values : List ℤ) (rest : Env) where
  parameter_is : (low : ℕ) (ts : List Ty) (vs : List Value) (x : ℕ) (t : Ty) → HaveValues headers values vs ts → type_at x (enumerate_from low ts) ≡ Some t
      → IsParameter headers values (map Some vs ++ rest) low x t
  parameter_is low [] vs x t have e = absurd (let bad : ⊥ = cc in bad)
  parameter_is low (u ∷ us) [] x t have e = absurd have
  parameter_is low (u ∷ us) (v ∷ vs) x t have e = by_test (low == x) refl e (λ h. parameter_is (low + 1) us vs x t have.1 h)
    where
      by_test : (b : Truth) → (low == x) ≡ b → cond b (let o : Option Ty = Some u in o) (type_at x (enumerate_from (low + 1) us)) ≡ Some t
          → (type_at x (enumerate_from (low + 1) us) ≡ Some t → IsParameter headers values (map Some vs ++ rest) (low + 1) x t)
          → IsParameter headers values (Some v ∷ (map Some vs ++ rest)) low x t
      by_test true here at later = record {
        number = 0;
        is = (let same : low ≡ x = (Decides-eqb low x).0 here in omega (arith, same));
        value = v;
        there = refl;
        has = subst (λ w. HasValue headers values v w) (same_Some u t at) have.0;
      }
      by_test false other at later =
          let it = later at in
          record { number = suc it.number; is = (let same = it.is in omega (arith, same)); value = it.value; there = it.there; has = it.has }

have_many : (headers : Headers) (values : List ℤ) (vs : List Value) (ts : List Ty) → HaveValues headers values vs ts → length vs ≡ length ts
have_many headers values [] [] have = refl
have_many headers values [] (t ∷ ts) have = absurd have
have_many headers values (v ∷ vs) [] have = absurd have
have_many headers values (v ∷ vs) (t ∷ ts) have = ap suc (have_many headers values vs ts have.1)

kinds_many : (cs : List CoreTy) (ts : List Ty) → HaveKindsOf (map kind_of cs) ts → length ts ≡ length cs
kinds_many [] [] have = refl
kinds_many [] (t ∷ ts) have = absurd have
kinds_many (c ∷ cs) [] have = absurd have
kinds_many (c ∷ cs) (t ∷ ts) have = ap suc (kinds_many cs ts have.1)

take_within : (n : ℕ) (ks : List Kind) → length (take n ks) ≡ n → n ≤ length ks
take_within zero ks e = omega arith
take_within (suc n) [] e = absurd (let bad : ⊥ = omega (arith, e) in bad)
take_within (suc n) (k ∷ ks) e = (let same : length (take n ks) ≡ n = omega (arith, e) in let h = take_within n ks same in omega (arith, h))

-- arguments that fit the function's signature, for some values of its variables
pub record Begins (program : core.Program) (made : Elaboration) (fun : ℕ) (f : core.Fun) (b : IsBody program made fun f) (values : List ℤ) (vs : List Value) (store : Blocks) : Type 0 where
  pub one_each : length values ≡ b.segment.own.vars
  pub hold : AllHold values b.segment.own.rows
  pub have : HaveValues (headers_of store) values vs b.segment.own.params
  pub holds : StoreHolds made.table store

module _ (program : core.Program) (made : Elaboration) (fun : ℕ) (f : core.Fun) (b : IsBody program made fun f) (values : List ℤ) (vs : List Value) (store : Blocks)
    (s : Begins program made fun f b values vs store) where
  pub as_many : length vs ≡ length f.params
  as_many = have_many (headers_of store) values vs b.segment.own.params s.have ∙ kinds_many f.params b.segment.own.params b.signed.params

  pub start_wide : length (env_of f vs) ≡ length f.kinds
  start_wide =
      let rest : Env = replicate (length f.kinds - length vs) None in
      let least = take_within (length f.params) f.kinds (ap length b.rules.param_kinds ∙ length-map f.params kind_of) in
      let many = as_many in
      let parts = length-append (map Some vs) rest in
      let first = length-map vs (λ v. let o : Option Value = Some v in o) in
      let second = length-replicate (length f.kinds - length vs) (let o : Option Value = None in o) in
      omega (arith, least, many, parts, first, second)

  pub start_stands : Stands (site_of made fun b.segment.own) b.segment.start (env_of f vs) values store
  start_stands =
      let start = start_is b.segment.own b.segment.goals b.segment.notes b.segment.start b.segment.begins in
      let vars = start.vars in
      let rest : Env = replicate (length f.kinds - length vs) None in
      record {
        own = omega (arith, vars);
        named = record { rows = start_named b.segment.own b.segment.goals b.segment.notes b.segment.start b.segment.begins; types = b.here.behind.types };
        one_each = s.one_each ∙ sym vars;
        hold = start.hold values s.hold;
        typed = record {
          by = λ x t e.
              let it = parameter_is (headers_of store) values rest 0 b.segment.own.params vs x t s.have (ap (type_at x) start.types ∙ e) in
              let same = it.is in
              let number : it.number ≡ x = omega (arith, same) in
              record { value = it.value; there = subst (λ n. slice_get (env_of f vs) n ≡ Some (Some it.value)) number it.there; has = it.has };
        };
        holds = s.holds;
      }
