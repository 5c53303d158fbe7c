-- Statements and blocks: the code of a statement comes behind it where it completes, to a return where it gives a value, or to the same end.
use Rattle.std.proofs.Common.{◌≡◌, ℕ, suc, ◌+◌, ◌≤◌, ℤ, pos, List, [], ◌∷◌, ◌++◌, length, slice_set, Bool as Flag, true, false, ◌||◌, Option, Some, None, Ok, refl, sym, ap, subst, arith}
use Rattle.xan_seq.specs.Answers.{◌>>=◌}
use Rattle.operation_rules.specs.FlatWords.{Flat}
use Rattle.three_address.specs.declared.function.LowFun.{LowFun}
use Rattle.three_address.specs.declared.instruction.LowInstr.{LowInstr}
use Rattle.xanadu_tree.specs.declared.types.Kind.{Kind}
use Rattle.xanadu_tree.specs.declared.types.Kind.TheVariants as kind
use Rattle.xanadu_tree.specs.BodyRules.{completes as may_complete, completes_all, IsReturn}
use Rattle.xanadu_tree.specs.KindRules.{Setting, HasKind}
use Rattle.xanadu_tree.specs.Plain as core
use Rattle.typed_core.specs.Places.{behind as depth_behind}
use Rattle.typed_core.specs.SourceOperands.{value}
use Rattle.typed_core.specs.SourceRuns.{Run, Answer, Env, Place, Recorder, Calls, Flow, Next, Gives}
use Rattle.typed_core.specs.SourceStatements.{set_variable, set_all, completes, parts_read, cell_put, number_printed, statement}
use Rattle.typed_core.specs.SourceValues.{Value, number}
use Rattle.value_lowering.specs.Frames.{Frame, temporary, operand_place, tuple_number}
use Rattle.value_lowering.specs.OneInstruction.{stored, parted, printed}
use Rattle.lowering.specs.StatementCode.{return_code}
use Rattle.value_lowering.specs.ValueCode.{value_code, value_size, operand_at, size_at}
use Rattle.lowering.proofs.CodeSizes.{operand_at_long}
use Rattle.lowering_simulation.proofs.CodeStands.{IsCode, Here, Stands, config, stands_front, stands_behind, stands_first, stands_rest}
use Rattle.lowering_simulation.proofs.ListPlaces.{get_set}
use Rattle.lowering_simulation.proofs.OperandsTaken.{ValueGoes, OperandGoes}
use Rattle.lowering_simulation.proofs.RunsAhead.{Config, Arrives, comes_none, arrives_there}
use Rattle.lowering_simulation.proofs.StatementSteps.{Flowed, variable_set, split_step, store_step, print_step}
use Rattle.lowering_simulation.proofs.StepsMade.{CallsGo, Taken, taken_then, valued_then}
use Rattle.lowering_simulation.proofs.StoresHold.{StoreHolds, PlacesHold, Pending, sizes, keeps_same, keeps_then, keeps_more, places_fewer, places_made}
use Rattle.lowering_simulation.proofs.ValueSteps.{literal_step}
use Rattle.lowering_simulation.proofs.ValuesArrive.{value_goes, operand_of}

-- ---- what follows

pub either_first : (a b : Flag) → a ≡ true → (a || b) ≡ true
either_first true b e = refl
either_first false b e = cc

pub either_second : (a b : Flag) → b ≡ true → (a || b) ≡ true
either_second true b e = refl
either_second false b e = e

pub all_complete : (s : core.Stmt) (ss : core.Stmts) → may_complete s ≡ true → completes_all ss ≡ true → completes_all (core.AStmt s ss) ≡ true
all_complete s core.NoStmt h k = h
all_complete s (core.AStmt t ts) h k = k

-- ---- fewer units than some are fewer than more

module _ {L : Type 0} (here : Here) (base : List ℕ) (code : List LowInstr) where
  pub store_within : (few many : ℕ) (st : Run L) (flat : Flat) → few ≤ many → StoreHolds base few st flat → StoreHolds base many st flat
  store_within few many st flat le store = record { is = store.is; more = store.more; below = (let lt = store.below in omega (arith, le, lt)) }

  pub flow_within : (few many vars : ℕ) (can : Flag) (past : ℕ) → few ≤ many → (flow : Flow) (st : Run L) (c : Config) → Flowed here base few code vars can past flow st c
      → Flowed here base many code vars can past flow st c
  flow_within few many vars can past le (Next env) st c f =
      let r = f.flow_is in
      record {
        flow_is = record {
          flat = r.flat;
          regs = r.regs;
          is = r.is;
          store = store_within few many st r.flat le r.store;
          places = r.places;
          sized = r.sized;
          can_complete = r.can_complete;
        };
      }
  flow_within few many vars can past le (Gives v) st c f =
      let r = f.flow_is in
      record {
        flow_is = record {
          flat = r.flat;
          regs = r.regs;
          at = r.at;
          place = r.place;
          word = r.word;
          is = r.is;
          there = r.there;
          has = r.has;
          store = store_within few many st r.flat le r.store;
          fits = r.fits;
        };
      }

  -- what gives a value does so whatever stands behind
  pub gives_same : (limit vars : ℕ) (can other : Flag) (past further : ℕ) (v : Value) (st : Run L) (c : Config) → Flowed here base limit code vars can past (Gives v) st c
      → Flowed here base limit code vars other further (Gives v) st c
  gives_same limit vars can other past further v st c f = record { flow_is = f.flow_is }

  -- what completes behind a statement that may do so
  pub block_after : (vars : ℕ) (s : core.Stmt) (ss : core.Stmts) (limit past : ℕ) → may_complete s ≡ true → (flow : Flow) (st : Run L) (c : Config)
      → Flowed here base limit code vars (completes_all ss) past flow st c → Flowed here base limit code vars (completes_all (core.AStmt s ss)) past flow st c
  block_after vars s ss limit past can (Gives v) st c f = record { flow_is = f.flow_is }
  block_after vars s ss limit past can (Next env) st c f =
      let r = f.flow_is in
      record {
        flow_is = record {
          flat = r.flat;
          regs = r.regs;
          is = r.is;
          store = r.store;
          places = r.places;
          sized = r.sized;
          can_complete = all_complete s ss can r.can_complete;
        };
      }

-- ---- statements without blocks

module _ {L : Type 0} (funs : List LowFun) (here : Here) (code : List LowInstr) (is : IsCode funs here.fun code) (base : List ℕ) (frame : Frame) (call : Calls L)
    (bound_of_calls : ℕ) (calls : CallsGo funs here.depth call (suc (length here.callers)) bound_of_calls) (set : Setting) where
  abbrev vars : ℕ
  vars = length frame.kinds

  module _ (limit : ℕ) (few : limit ≤ bound_of_calls) (env : Env) (sized : length env ≡ vars) where
    abbrev val : (visible : List ℕ) (e : core.Expr) (k : Kind) → HasKind set visible e k → ValueGoes funs here code is base limit vars call env e
    val visible e k h = value_goes funs here code is base limit vars call env bound_of_calls calls few set visible e k h

    abbrev opd : (visible : List ℕ) (e : core.Expr) (k : Kind) → HasKind set visible e k → OperandGoes funs here code is base limit vars call env e
    opd visible e k h = operand_of funs here code is base limit vars call env bound_of_calls calls few set visible e (val visible e k h)

    abbrev none_waits : Pending env env vars 0
    none_waits = record { variables = keeps_same env; size = omega (arith, sized) }

    module _ (at next : ℕ) (st : Run L) (flat : Flat) (regs : List ℤ) (store : StoreHolds base limit st flat) (places : PlacesHold (sizes st) env regs) where
      abbrev Completes : Answer L Flow → Type 0
      Completes answer = Arrives funs st.units (config here st.printed flat at regs) (Flowed here base limit code vars true next) answer

      pub set_goes : (visible : List ℕ) (k : Kind) (x : ℕ) (e : core.Expr) → HasKind set visible e k → Stands code at (value_code vars e 0 x) → next ≡ at + value_size e
          → Completes (value call env e st >>= λ p. set_variable env x p.0 p.1 >>= λ q. completes q.0 q.1)
      set_goes visible k x e h stands n =
          valued_then funs here code is base limit st.units _ env next x (Flowed here base limit code vars true next) _ _
          ((val visible e k h).by env 0 x at next st flat regs none_waits stands n store places)
          (λ v one c r. variable_set funs here code is base limit vars next one r.flat r.store env r.regs x v r.word sized r.places r.small r.fits)

      pub do_goes : (visible : List ℕ) (k : Kind) (e : core.Expr) → HasKind set visible e k → Stands code at (value_code vars e 0 (temporary vars 0)) → next ≡ at + value_size e
          → Completes (value call env e st >>= λ p. completes env p.1)
      do_goes visible k e h stands n =
          valued_then funs here code is base limit st.units _ env next (temporary vars 0) (Flowed here base limit code vars true next) _ _
          ((val visible e k h).by env 0 (temporary vars 0) at next st flat regs none_waits stands n store places)
          (λ v one c r.
          arrives_there funs one.units _ _ (Next env) one (config here one.printed r.flat next (slice_set r.regs (temporary vars 0) r.word)) (comes_none funs one.units _)
          (record {
            flow_is = record {
              flat = r.flat;
              regs = slice_set r.regs (temporary vars 0) r.word;
              is = refl;
              store = r.store;
              places = places_fewer (sizes one) env _ _ (keeps_more env v)
                  (places_made (sizes one) env r.regs (temporary vars 0) v r.word (let s : temporary vars 0 ≡ length env = omega (arith, sized) in s) r.small r.fits r.places);
              sized = sized;
              can_complete = refl;
            };
          }))

      -- an operand, and one instruction behind it
      one_goes : {B : Type 0} (S : B → Run L → Config → Type 0) (visible : List ℕ) (k : Kind) (e : core.Expr) (more : Value → Run L → Answer L B) (tail : List LowInstr) → HasKind set visible e k
          → Stands code at (operand_at vars e 0 ++ tail)
          → ((v : Value) (one : Run L) (c : Config) → (r : Taken here base limit env env vars e 0 (at + size_at e) v one c) → Stands code (at + size_at e) tail
          → Arrives funs one.units (config here one.printed r.flat (at + size_at e) r.regs) S (more v one))
          → Arrives funs st.units (config here st.printed flat at regs) S (value call env e st >>= λ p. more p.0 p.1)
      one_goes S visible k e more tail h stands later =
          let middle = at + size_at e in
          let long = (operand_at_long vars e 0).is in
          let rest = stands_behind code at middle (operand_at vars e 0) tail (ap (λ k. at + k) (sym long)) stands in
          taken_then funs here code is base limit st.units _ env env vars e 0 middle S _ _
          ((opd visible e k h).by env 0 at middle st flat regs none_waits (stands_front code at (operand_at vars e 0) tail stands) refl store places)
          (λ v one c r. later v one c r rest)

      pub print_goes : (visible : List ℕ) (e : core.Expr) → HasKind set visible e kind.Int → Stands code at (operand_at vars e 0 ++ printed (operand_place vars e 0) ∷ [])
          → next ≡ at + (size_at e + 1) → Completes (value call env e st >>= λ p. number_printed p.0 p.1 >>= λ q. completes env q.1)
      print_goes visible e h stands n =
          one_goes (Flowed here base limit code vars true next) visible kind.Int e (λ v one. number_printed v one >>= λ q. completes env q.1) _ h stands
          (λ v one c r rest.
          subst (λ m. Arrives funs one.units (config here one.printed r.flat (at + size_at e) r.regs) (Flowed here base limit code vars true m) (number_printed v one >>= λ q. completes env q.1))
          (let s : suc (at + size_at e) ≡ next = omega (arith, n) in s)
          (print_step funs here code is base limit vars (at + size_at e) one r.flat r.regs r.store r.whole env r.places
          (places_fewer (sizes one) env r.whole r.regs r.keeps r.places) sized (operand_place vars e 0) v (stands_first code _ _ [] rest) r.there))

      pub split_goes : (visible : List ℕ) (k : Kind) (xs : List ℕ) (e : core.Expr) → HasKind set visible e k
          → Stands code at (operand_at vars e 0 ++ parted (tuple_number frame e) (operand_place vars e 0) xs ∷ []) → next ≡ at + (size_at e + 1)
          → Completes (value call env e st >>= λ p. parts_read (length xs) p.0 p.1 >>= λ q. set_all env xs q.0 q.1 >>= λ r. completes r.0 r.1)
      split_goes visible k xs e h stands n =
          one_goes (Flowed here base limit code vars true next) visible k e
          (λ v one. parts_read (length xs) v one >>= λ q. set_all env xs q.0 q.1 >>= λ r. completes r.0 r.1) _ h stands
          (λ v one c r rest.
          subst (λ m. Arrives funs one.units (config here one.printed r.flat (at + size_at e) r.regs) (Flowed here base limit code vars true m)
          (parts_read (length xs) v one >>= λ q. set_all env xs q.0 q.1 >>= λ r. completes r.0 r.1))
          (let s : suc (at + size_at e) ≡ next = omega (arith, n) in s)
          (split_step funs here code is base limit vars (at + size_at e) one r.flat r.regs r.store r.whole env r.places
          (places_fewer (sizes one) env r.whole r.regs r.keeps r.places) sized (tuple_number frame e) (operand_place vars e 0) xs v (stands_first code _ _ [] rest) r.there))

      pub store_goes : (visible : List ℕ) (ka kv : Kind) (array index e : core.Expr) → HasKind set visible array ka → HasKind set visible index kind.Int → HasKind set visible e kv
          → Stands code at (operand_at vars array 0 ++ (operand_at vars index (depth_behind array 0) ++ (operand_at vars e (depth_behind index (depth_behind array 0))
          ++ stored (operand_place vars array 0) (operand_place vars index (depth_behind array 0)) (operand_place vars e (depth_behind index (depth_behind array 0))) ∷ [])))
          → next ≡ at + (size_at array + (size_at index + (size_at e + 1)))
          → Completes (value call env array st >>= λ p. value call env index p.1 >>= λ q. value call env e q.1 >>= λ r. cell_put p.0 q.0 r.0 r.1 >>= λ s. completes env s.1)
      store_goes visible ka kv array index e ha hi hv stands n =
          let di = depth_behind array 0 in
          let dv = depth_behind index di in
          let middle = at + size_at array in
          let later = middle + size_at index in
          let last = later + size_at e in
          let long_index = (operand_at_long vars index di).is in
          let long_e = (operand_at_long vars e dv).is in
          let S = Flowed here base limit code vars true next in
          one_goes S visible ka array (λ a one. value call env index one >>= λ q. value call env e q.1 >>= λ r. cell_put a q.0 r.0 r.1 >>= λ s. completes env s.1) _ ha stands
          (λ a one c r rest.
          let tail = stands_behind code middle later (operand_at vars index di) _ (ap (λ k. middle + k) (sym long_index)) rest in
          taken_then funs here code is base limit one.units _ env r.whole vars index di later S _ _
          ((opd visible index kind.Int hi).by r.whole di middle later one r.flat r.regs r.pending (stands_front code middle (operand_at vars index di) _ rest) refl r.store r.places)
          (λ i two f q.
          taken_then funs here code is base limit two.units _ env q.whole vars e dv last S _ _
          ((opd visible e kv hv).by q.whole dv later last two q.flat q.regs q.pending (stands_front code later (operand_at vars e dv) _ tail) refl q.store q.places)
          (λ v three g w.
          subst (λ m. Arrives funs three.units (config here three.printed w.flat last w.regs) (Flowed here base limit code vars true m) (cell_put a i v three >>= λ s. completes env s.1))
          (let s : suc last ≡ next = omega (arith, n) in s)
          (store_step funs here code is base limit vars last three w.flat w.regs w.store w.whole env w.places
          (places_fewer (sizes three) env w.whole w.regs (keeps_then env r.whole w.whole r.keeps (keeps_then r.whole q.whole w.whole q.keeps w.keeps)) w.places) sized _ _ _ a i v
          (stands_first code last _ [] (stands_behind code later last (operand_at vars e dv) _ (ap (λ k. later + k) (sym long_e)) tail))
          (w.keeps.by _ a (q.keeps.by _ a r.there)) (w.keeps.by _ i q.there) w.there))))

      -- ---- returns

      pub return_goes : (visible : List ℕ) (value_of : Option core.Expr) (a : ℕ) (recorder : Recorder L) (fun bound : ℕ) (place : Place) → IsReturn set visible value_of
          → Stands code at (return_code vars value_of)
          → Arrives funs st.units (config here st.printed flat at regs) (Flowed here base limit code vars false next) (statement recorder call fun bound place (core.Return value_of a) env st)
      unfolding statement
      return_goes visible None a recorder fun bound place h stands =
          let t0 = temporary vars 0 in
          let it = (literal_step funs here code is base limit env env at t0 st flat regs (keeps_same env) store places (pos 0) (stands_first code at _ _ stands)).good (number (pos 0)) st refl in
          let r = it.is in
          arrives_there funs st.units _ _ (Gives (number (pos 0))) st it.config it.comes
          (record {
            flow_is = record {
              flat = r.flat;
              regs = slice_set r.regs t0 r.word;
              at = suc at;
              place = t0;
              word = r.word;
              is = r.is;
              there = stands_first code (suc at) _ [] (stands_rest code at _ _ stands);
              has = (let room = r.places.room in let small = r.small in get_set r.regs t0 r.word (omega (arith, room, small)));
              store = r.store;
              fits = r.fits;
            };
          })
      return_goes visible (Some e) a recorder fun bound place h stands =
          one_goes (Flowed here base limit code vars false next) visible set.result e (λ v one. Ok (Gives v, one)) _ h.1 stands
          (λ v one c r rest.
          let w = r.places.by _ v r.there in
          arrives_there funs one.units _ _ (Gives v) one (config here one.printed r.flat (at + size_at e) r.regs) (comes_none funs one.units _)
          (record {
            flow_is = record {
              flat = r.flat;
              regs = r.regs;
              at = at + size_at e;
              place = operand_place vars e 0;
              word = w.word;
              is = refl;
              there = stands_first code _ _ [] rest;
              has = w.there;
              store = r.store;
              fits = w.fits;
            };
          }))
