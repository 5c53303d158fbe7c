use Rattle.std.proofs.Common.{◌≡◌, ◌≢◌, ◌∙◌, sym, ap, subst, ℕ, List, Option, None}
use Rattle.xan_io.specs.Outcome.{Stuck}
use Rattle.dtal_code.specs.Machine.{Off}
use Rattle.dtal_code.specs.ObjectCode.{Code}
use Rattle.dtal_code.specs.Running.{step}
use Rattle.dtal_machine.specs.declared.event.End.{End}
use Rattle.dtal_machine.specs.CodedWords.{code_in, StandsAt}
use Rattle.dtal_machine.specs.Kept.{stands_at, IsRunning, IsKept}
use Rattle.dtal_machine.specs.Stacks.{state_of, ended_by}
use Rattle.dtal_machine.specs.Steps.{Loaded}
use Rattle.dtal_machine.proofs.KeptRuns.{whole, goes, stands, kept_after, told_is, moved_is}
use Rattle.dtal_machine.proofs.machine.Machine.step.Goals as goal

pub advance-acted-requires : goal.advance-acted-requires
advance-acted-requires c =
    let m = c.self.inside in
    let running : IsRunning m.words m.starts m.run = subst (λ (e : Option End). IsKept e m.words m.starts m.run) c.in-None.is c.self.invariant in
    let code : code_in c.as_slice.result.now c.as_slice-in-None.result.now ≡ code_in m.words m.starts =
    ap (λ (ws : List ℕ). code_in ws c.as_slice-in-None.result.now) c.as_slice.ensures ∙ ap (code_in m.words) c.as_slice-in-None.ensures in
    record {
      shape = running.shape;
      whole = whole m.words m.starts m.run running;
      stands = subst (λ (ws : List ℕ). StandsAt ws m.run.at) (sym c.as_slice.ensures) (stands m.words m.starts m.run running);
      goes = subst (λ (k : Code). step k (state_of m.run) ≢ Off Stuck) (sym code) (goes m.words m.starts m.run running);
    }

pub invariant_of-self : goal.invariant_of-self
invariant_of-self c =
    let m = c.self.inside in
    let running : IsRunning m.words m.starts m.run = subst (λ (e : Option End). IsKept e m.words m.starts m.run) c.in-None.is c.self.invariant in
    let code : code_in c.as_slice.result.now c.as_slice-in-None.result.now ≡ code_in m.words m.starts =
    ap (λ (ws : List ℕ). code_in ws c.as_slice-in-None.result.now) c.as_slice.ensures ∙ ap (code_in m.words) c.as_slice-in-None.ensures in
    let exact = ap (λ (k : Code). step k (state_of m.run)) (sym code) ∙ c.advance-acted.ensures.exact in
    let ended : c.note_end.new.ended ≡ ended_by c.advance-acted.result None = c.note_end.ensures ∙ ap (ended_by c.advance-acted.result) c.in-None.is in
    subst (λ (e : Option End). IsKept e m.words m.starts c.advance-acted.new.run) (sym ended)
    (kept_after m.words m.starts m.run running c.advance-acted.result c.advance-acted.new.run c.advance-acted.ensures.shape exact)

pub returns-in-None-clause-told : goal.returns-in-None-clause-told
returns-in-None-clause-told c =
    let m = c.self.inside in
    let code : code_in c.as_slice.result.now c.as_slice-in-None.result.now ≡ code_in m.words m.starts =
    ap (λ (ws : List ℕ). code_in ws c.as_slice-in-None.result.now) c.as_slice.ensures ∙ ap (code_in m.words) c.as_slice-in-None.ensures in
    let exact = ap (λ (k : Code). step k (state_of m.run)) (sym code) ∙ c.advance-acted.ensures.exact in
    let seen : Option End → Loaded = λ e. record { code = code_in m.words m.starts; now = stands_at e (state_of m.run) } in
    let view = ap seen (sym c.in-None.is) ∙ c.self.view_is in
    told_is m.words m.starts m.run c.advance-acted.new.run c.args.self.now view c.advance-acted.result exact ∙ c.tell.ensures

pub returns-in-None-clause-state : goal.returns-in-None-clause-state
returns-in-None-clause-state c =
    let m = c.self.inside in
    let code : code_in c.as_slice.result.now c.as_slice-in-None.result.now ≡ code_in m.words m.starts =
    ap (λ (ws : List ℕ). code_in ws c.as_slice-in-None.result.now) c.as_slice.ensures ∙ ap (code_in m.words) c.as_slice-in-None.ensures in
    let exact = ap (λ (k : Code). step k (state_of m.run)) (sym code) ∙ c.advance-acted.ensures.exact in
    let seen : Option End → Loaded = λ e. record { code = code_in m.words m.starts; now = stands_at e (state_of m.run) } in
    let after : Option End → Loaded = λ e. record { code = code_in m.words m.starts; now = stands_at e (state_of c.advance-acted.new.run) } in
    let view = ap seen (sym c.in-None.is) ∙ c.self.view_is in
    ap after (c.note_end.ensures ∙ ap (ended_by c.advance-acted.result) c.in-None.is)
    ∙ moved_is m.words m.starts m.run c.advance-acted.new.run c.args.self.now view c.advance-acted.result exact
