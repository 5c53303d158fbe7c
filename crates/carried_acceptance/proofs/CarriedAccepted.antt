-- The program of carried code is accepted and has a text, and emission takes the code whole.
use Rattle.std.proofs.Common.{◌≡◌, ℕ, true, nat_lt, slice_get, Some, sym, ap, subst, arith}
use Rattle.std.proofs.lemmas.Option.{slice_get_within}
use Rattle.three_address.specs.Typing.{IsTyped}
use Rattle.three_address.specs.declared.assignment.Assignment.{Assignment}
use Rattle.three_address.specs.declared.function.LowFun.{LowFun}
use Rattle.three_address.specs.declared.function.Lowered.{Lowered}
use Rattle.three_address.specs.declared.typed.Typed.{Typed}
use Rattle.xanadu_tree.specs.PlainOf.{plain_core}
use Rattle.typed_core.specs.Proving.{ProvedParts}
use Rattle.lowering.specs.Lowered.{body_of, lowered}
use Rattle.lowering.proofs.LoweredFunctions.{in_blocks}
use Rattle.dtal_code.specs.Acceptance.{Accepted}
use Rattle.dtal_code.specs.Grammar.{InGrammar}
use Rattle.dtal_emit.specs.Emitted.{emitted}
use Rattle.emission_laws.specs.ApartHomes.{AreApart}
use Rattle.emission_laws.specs.EmittedRanges.{IsRanged}
use Rattle.emission_laws.specs.FollowedRuns.{AreReady, IsReadyAt, main_number}
use Rattle.emission_laws.proofs.EmittedPrograms.{program_in}
use Rattle.emission_laws.proofs.SlotsApart.{slots_apart}
use Rattle.emission_acceptance.proofs.CodeReady.{fun_ready}
use Rattle.emission_acceptance.specs.ReadyCode.{IsShortCode}
use Rattle.lowered_acceptance.specs.SlottedCode.{IsSlotted}
use Rattle.lowered_acceptance.proofs.LoweredBlocks.{blocks_end}
use Rattle.lowered_acceptance.proofs.LoweredHeaded.{lowered_main}
use Rattle.lowered_acceptance.proofs.LoweredTexts.{lowered_texts}
use Rattle.lowered_acceptance.proofs.SlotsAcceptable.{reads_small}
use Rattle.lowered_acceptance.proofs.SlottedAccepted.{lowered_accepted, short_code}
use Rattle.carrier_laws.proofs.CarriedFunctions.{carried_typed}
use Rattle.carried_acceptance.specs.SlottedCarried.{IsCarriedWhole, places_of, places_at}
use Rattle.carried_acceptance.proofs.CodeRanged.{present}
use Rattle.carried_acceptance.proofs.ProgramRanged.{carried_ranged, carried_slotted}

module _ (program : ProvedParts) (typed : Typed) (homes : Assignment) (whole : IsCarriedWhole program typed homes) where
  abbrev code : Lowered
  code = lowered program.base

  is_typed : IsTyped typed
  is_typed = carried_typed program whole.shaped whole.elaborated whole.proved typed whole.carried

  low_is : typed.low ≡ code
  low_is = ap (λ (t : Typed). t.low) whole.carried.is

  is_ranged : IsRanged typed homes
  is_ranged =
      let c = whole.carried in
      subst (λ (t : Typed). IsRanged t homes) (sym c.is)
      (carried_ranged program whole.shaped whole.elaborated whole.proved whole.written c.columns c.live (lowered_texts program.base whole.shaped whole.elaborated)
      (short_code program.base whole.shaped whole.elaborated)
      (λ number f there forms. blocks_end (body_of (plain_core program.base.core) f).code (body_of (plain_core program.base.core) f).labels (in_blocks (plain_core program.base.core) number f whole.shaped there) forms)
      whole.few homes whole.slots (subst IsTyped c.is is_typed))

  is_slotted : IsSlotted typed homes
  is_slotted =
      let c = whole.carried in
      subst (λ (t : Typed). IsSlotted t homes) (sym c.is)
      (carried_slotted program whole.shaped whole.elaborated whole.proved whole.written c.columns c.live (lowered_texts program.base whole.shaped whole.elaborated)
      (short_code program.base whole.shaped whole.elaborated)
      (λ number f there forms. blocks_end (body_of (plain_core program.base.core) f).code (body_of (plain_core program.base.core) f).labels (in_blocks (plain_core program.base.core) number f whole.shaped there) forms)
      whole.few homes whole.slots (subst IsTyped c.is is_typed))

  pub is_accepted : Accepted (emitted typed homes)
  is_accepted = lowered_accepted program.base typed homes whole.shaped whole.elaborated low_is is_typed is_ranged is_slotted

  pub is_in_grammar : InGrammar (emitted typed homes)
  is_in_grammar = program_in typed homes is_ranged

  -- ---- emission takes it whole

  ready_at : (number : ℕ) (fun : LowFun) → slice_get typed.low.funs number ≡ Some fun → IsReadyAt typed homes number fun (λ at place. nat_lt place (places_at typed number) ≡ true)
  ready_at number fun there =
      let inside = slice_get_within typed.low.funs number fun there in
      let states_each = is_typed.states_each in
      let edges_each = is_typed.edges_each in
      let labels = present typed.states number (omega (arith, inside, states_each)) in
      let edges = present typed.edges number (omega (arith, inside, edges_each)) in
      let has = whole.slots number fun (subst (λ (low : Lowered). slice_get low.funs number ≡ Some fun) low_is there) in
      let typed_fun = is_typed.funs number fun labels.value edges.value there labels.there edges.there in
      record {
        labels = labels.value;
        edges = edges.value;
        own = has.own;
        labels_there = labels.there;
        edges_there = edges.there;
        homes_there = has.there;
        ready = fun_ready typed.low number fun labels.value edges.value (subst IsShortCode (sym low_is) (short_code program.base whole.shaped whole.elaborated)) there typed_fun;
        apart = subst (λ n. AreApart fun has.own (λ at place. nat_lt place n ≡ true)) (sym (ap places_of there))
            (slots_apart fun has.own has.slots (reads_small typed.low fun labels.value edges.value typed_fun));
      }

  pub is_ready : AreReady typed homes (λ number at place. nat_lt place (places_at typed number) ≡ true)
  is_ready = record {
    each = ready_at;
    main_is = subst (λ (low : Lowered). main_number low.funs ≡ Some low.main) (sym low_is) (lowered_main program.base whole.shaped whole.elaborated);
  }
