-- A simulation forwards is agreement both ways, since a machine has one next state, an end stays, and output only grows.
use Rattle.std.proofs.Common.{◌≡◌, ℕ, ℤ, ◌≤◌, List, [], refl, sym, ap, ◌∙◌, subst, ◌⊎◌, inl, inr, ⊎_elim, arith, rules}
use Rattle.std.proofs.lemmas.Bool.{cases_lt}
use Rattle.xan_io.specs.Outcome.{How, Returned, NoStore, Overflow, Stuck, Running, Outcome, IsOver}
use Rattle.xan_io.specs.Agreement.{Begins, Agrees, IsSteady, Follows}

-- every run has ended or goes on
over_or_running : (how : How) → IsOver how ⊎ (how ≡ Running)
over_or_running (Returned word) = inl (λ e. cc)
over_or_running NoStore = inl (λ e. cc)
over_or_running Overflow = inl (λ e. cc)
over_or_running Stuck = inl (λ e. cc)
over_or_running Running = inr refl

begins_self : (xs : List ℤ) → Begins xs xs
begins_self xs = ([], search rules)

module _ (source machine : ℕ → Outcome) (steady : IsSteady machine) (follows : (n : ℕ) → Follows machine n (source n)) where
  -- the machine is at two times in two outcomes that are both ends: they are one
  one_end : (m k : ℕ) → IsOver (machine m).how → IsOver (machine k).how → machine k ≡ machine m
  one_end m k over_m over_k =
      ⊎_elim (λ lt. let le : k ≤ m = omega arith in sym (steady.stays k m le over_k)) (λ le. steady.stays m k le over_m) (cases_lt k m)

  moved : (m k : ℕ) → machine m ≡ machine k → IsOver (machine k).how → IsOver (machine m).how
  moved m k e over = λ r. over (ap (λ o. o.how) (sym e) ∙ r)

  ends_only : (m : ℕ) → IsOver (machine m).how → source m ≡ machine m
  ends_only m over =
      let f = follows m in
      ⊎_elim (λ ended. sym f.same ∙ one_end m f.steps over (λ r. ended (ap (λ o. o.how) (sym f.same) ∙ r)))
      (λ running. absurd (over (ap (λ o. o.how) (sym (steady.stays m f.steps (f.as_long running) over) ∙ f.same) ∙ running)))
      (over_or_running (source m).how)

  runs : (m : ℕ) → (machine m).how ≡ Running → Begins (machine m).printed (source m).printed
  runs m running =
      let f = follows m in
      ⊎_elim
      (λ lt.
      let le : f.steps ≤ m = omega arith in
      ⊎_elim (λ over. absurd (over (ap (λ o. o.how) (sym (steady.stays f.steps m le over)) ∙ running)))
      (λ still. let long = f.as_long (ap (λ o. o.how) (sym f.same) ∙ still) in absurd (omega arith))
      (over_or_running (machine f.steps).how))
      (λ le. subst (λ o. Begins (machine m).printed o.printed) f.same (steady.grows m f.steps le))
      (cases_lt f.steps m)

pub agrees : (source machine : ℕ → Outcome) → IsSteady machine → ((n : ℕ) → Follows machine n (source n)) → Agrees source machine
agrees source machine steady follows = record {
  ends = λ n over. let f = follows n in (f.steps, f.same);
  ends_only = ends_only source machine steady follows;
  runs = runs source machine steady follows;
  runs_only = λ n running. let f = follows n in (f.steps, ([], search (rules, f.same)));
}
