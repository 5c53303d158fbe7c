-- Marks that passes make are justified, each pass that marks a position leaves fewer without a mark, and where a pass marks none, all live
-- positions are marked.
use Rattle.std.proofs.Common.{◌≡◌, ℕ, zero, suc, ◌<◌, ◌≤◌, Bool, true, false, not, ◌&&◌, List, [], ◌∷◌, length, slice_set, replicate, refl, sym, ap, ◌∙◌, subst, arith, inl, inr, ◌⊎◌}
use Rattle.std.specs.List.{list_any}
use Rattle.three_address.specs.declared.function.LowFun.{LowFun}
use Rattle.three_address.specs.Liveness.{Live, Read, Kept}
use Rattle.three_address.specs.PlaceLives.{AreLive, Pass, lives_in, place_lives, marking, visited, passed, one_pass}
use Rattle.three_address.specs.Splits.{marked}
use Rattle.std.proofs.lemmas.Bool.{cases_lt}
use Rattle.std.proofs.lemmas.Option.{slice_get_past}
use Rattle.three_address.specs.Flow.{reads_at, writes_at, ways_from}
use Rattle.three_address.specs.LiveTables.{has}
use Rattle.three_address.proofs.LiveRounds.{either, both, left_true, right_true, and-true, not-there, has-there, there-has, any-there, there-any}
use Rattle.three_address.proofs.WaysBy.{lives_are}

-- each mark is at a position where the place is live
pub record AreJustified (fun : LowFun) (place : ℕ) (marks : List Bool) : Type 0 where
  pub each : length marks ≡ length fun.code
  pub live : (at : ℕ) → marked marks at ≡ true → Live fun at place

unfoldable pub unmarked : List Bool → ℕ
unmarked [] = 0
unmarked (true ∷ marks) = unmarked marks
unmarked (false ∷ marks) = suc (unmarked marks)

-- ---- marks

marked-set : (marks : List Bool) (at other : ℕ) → marked (slice_set marks at true) other ≡ true → (other ≡ at) ⊎ (marked marks other ≡ true)
marked-set [] at other e = inr e
marked-set (mark ∷ marks) zero zero e = inl refl
marked-set (mark ∷ marks) zero (suc other) e = inr e
marked-set (mark ∷ marks) (suc at) zero e = inr e
marked-set (mark ∷ marks) (suc at) (suc other) e = elim (marked-set marks at other e) [
  | inl same ↦ inl (ap suc same)
  | inr m ↦ inr m
]

length-set-true : (marks : List Bool) (at : ℕ) → length (slice_set marks at true) ≡ length marks
length-set-true [] at = refl
length-set-true (mark ∷ marks) zero = refl
length-set-true (mark ∷ marks) (suc at) = ap suc (length-set-true marks at)

fewer-set : (marks : List Bool) (at : ℕ) → at < length marks → marked marks at ≡ false → suc (unmarked (slice_set marks at true)) ≡ unmarked marks
unfolding unmarked
fewer-set [] at lt e = absurd (omega (arith, lt))
fewer-set (true ∷ marks) zero lt e = cc
fewer-set (false ∷ marks) zero lt e = refl
fewer-set (true ∷ marks) (suc at) lt e = fewer-set marks at (omega (arith, lt)) e
fewer-set (false ∷ marks) (suc at) lt e = ap suc (fewer-set marks at (omega (arith, lt)) e)

none-marked : (count at : ℕ) → marked (replicate count false) at ≡ false
none-marked zero at = refl
none-marked (suc count) zero = refl
none-marked (suc count) (suc at) = none-marked count at

module _ (fun : LowFun) (place : ℕ) where
  -- ---- what is found is live

  lives-live : (marks : List Bool) → ((at : ℕ) → marked marks at ≡ true → Live fun at place) → (at : ℕ) → place_lives fun place marks at ≡ true
      → Live fun at place
  lives-live marks justified at e =
      elim (either (has (reads_at fun at) place) (not (has (writes_at fun at) place) && list_any (λ next. marked marks next) (ways_from fun at)) (sym (lives_are fun place marks at) ∙ e)) [
        | inl h ↦ Read at place (has-there _ place h)
        | inr h ↦
            let parts = both (not (has (writes_at fun at) place)) (list_any (λ next. marked marks next) (ways_from fun at)) h in
            let next = any-there (λ next. marked marks next) (ways_from fun at) parts.1 in
            Kept at next.0 place next.1 (λ c. not-true _ (there-has (writes_at fun at) place c) parts.0) (justified next.0 next.2)
      ]
    where
      not-true : (b : Bool) → b ≡ true → not b ≡ true → ⊥
      not-true true e f = cc
      not-true false e f = cc

  -- ---- what a pass does

  -- from one to another state of a pass over the positions below a number
  record Does (below : ℕ) (one two : Pass) : Type 0 where
    long : length two.marks ≡ length one.marks
    justified : ((at : ℕ) → marked one.marks at ≡ true → Live fun at place) → (at : ℕ) → marked two.marks at ≡ true → Live fun at place
    fewer : unmarked two.marks ≤ unmarked one.marks
    marks_more : one.more ≡ false → two.more ≡ true → unmarked two.marks < unmarked one.marks
    stays : one.more ≡ true → two.more ≡ true
    same : two.more ≡ false → two.marks ≡ one.marks
    closed : two.more ≡ false → (at : ℕ) → at < below → place_lives fun place one.marks at ≡ true → marked one.marks at ≡ true

  false-true : {A : Type 0} → false ≡ true → A
  false-true e = cc

  -- nothing is done
  none_done : (pass : Pass) → Does 0 pass pass
  none_done pass = record {
    long = refl;
    justified = λ h. h;
    fewer = omega arith;
    marks_more = λ e f. false-true (sym e ∙ f);
    stays = λ e. e;
    same = λ e. refl;
    closed = λ e at lt. absurd (omega (arith, lt));
  }

  -- what one visit does to marks that are no more than the positions
  record Visits (at : ℕ) (one two : Pass) : Type 0 where
    long : length two.marks ≡ length one.marks
    justified : ((p : ℕ) → marked one.marks p ≡ true → Live fun p place) → (p : ℕ) → marked two.marks p ≡ true → Live fun p place
    fewer : unmarked two.marks ≤ unmarked one.marks
    marks_more : one.more ≡ false → two.more ≡ true → unmarked two.marks < unmarked one.marks
    stays : one.more ≡ true → two.more ≡ true
    same : two.more ≡ false → two.marks ≡ one.marks
    closed : two.more ≡ false → place_lives fun place one.marks at ≡ true → marked one.marks at ≡ true

  visits : (at : ℕ) (pass : Pass) → at < length pass.marks → Visits at pass (visited fun place at pass)
  visits at pass lt = by (place_lives fun place pass.marks at) (marked pass.marks at) refl refl
    where
      by : (lives stands : Bool) → place_lives fun place pass.marks at ≡ lives → marked pass.marks at ≡ stands → Visits at pass (marking lives stands at pass)
      by true false e f = record {
        long = length-set-true pass.marks at;
        justified = λ h p m. elim (marked-set pass.marks at p m) [
          | inl is ↦ subst (λ (q : ℕ). Live fun q place) (sym is) (lives-live pass.marks h at e)
          | inr k ↦ h p k
        ];
        fewer = omega (arith, fewer-set pass.marks at lt f);
        marks_more = λ a b. omega (arith, fewer-set pass.marks at lt f);
        stays = λ a. refl;
        same = λ a. false-true (sym a);
        closed = λ a. false-true (sym a);
      }
      by true true e f = record {
        long = refl;
        justified = λ h. h;
        fewer = omega arith;
        marks_more = λ a b. false-true (sym a ∙ b);
        stays = λ a. a;
        same = λ a. refl;
        closed = λ a b. f;
      }
      by false stands e f = record {
        long = refl;
        justified = λ h. h;
        fewer = omega arith;
        marks_more = λ a b. false-true (sym a ∙ b);
        stays = λ a. a;
        same = λ a. refl;
        closed = λ a b. false-true (sym e ∙ b);
      }

  -- a visit, and then the positions below
  then_does : (at : ℕ) (one two three : Pass) → Visits at one two → Does at two three → Does (suc at) one three
  then_does at one two three v d = record {
    long = d.long ∙ v.long;
    justified = λ h. d.justified (v.justified h);
    fewer = omega (arith, v.fewer, d.fewer);
    marks_more = λ e f. strictly two.more refl e f;
    stays = λ e. d.stays (v.stays e);
    same = λ e. d.same e ∙ v.same (not-more e);
    closed = λ e p lt lives. elim (cases_lt p at) [
      | inl below ↦
          let is = v.same (not-more e) in
          ap (λ m. marked m p) (sym is) ∙ d.closed e p below (ap (λ m. place_lives fun place m p) is ∙ lives)
      | inr above ↦
          let is : p ≡ at = omega (arith, lt, above) in
          ap (marked one.marks) is ∙ v.closed (not-more e) (ap (place_lives fun place one.marks) (sym is) ∙ lives)
    ];
  }
    where
      not-more : three.more ≡ false → two.more ≡ false
      not-more e = by two.more refl
        where
          by : (b : Bool) → two.more ≡ b → two.more ≡ false
          by true f = false-true (sym e ∙ d.stays f)
          by false f = f

      strictly : (b : Bool) → two.more ≡ b → one.more ≡ false → three.more ≡ true → unmarked three.marks < unmarked one.marks
      strictly true f e g = omega (arith, v.marks_more e f, d.fewer)
      strictly false f e g = omega (arith, v.fewer, d.marks_more f g)

  pass-does : (below : ℕ) (pass : Pass) → below ≤ length pass.marks → Does below pass (passed fun place below pass)
  unfolding passed
  pass-does zero pass le = none_done pass
  pass-does (suc at) pass le =
      let v = visits at pass (omega (arith, le)) in
      then_does at pass (visited fun place at pass) _ v (pass-does at (visited fun place at pass) (omega (arith, le, v.long)))

  -- ---- where a pass marks nothing, all live positions are marked

  module _ (marks : List Bool) (closed : (at : ℕ) → place_lives fun place marks at ≡ true → marked marks at ≡ true) where
    live-marked : (at : ℕ) → Live fun at place → marked marks at ≡ true
    live-marked at (Read _ _ c) =
        closed at (lives_are fun place marks at ∙ left_true _ _ (there-has (reads_at fun at) place c))
    live-marked at (Kept _ next _ way unwritten later) =
        closed at (lives_are fun place marks at ∙ right_true _ _ (and-true _ _ (not-there _ (λ h. unwritten (has-there _ place h)))
        (there-any (λ n. marked marks n) (ways_from fun at) next way (live-marked next later))))

nothing_past : (fun : LowFun) (place : ℕ) (marks : List Bool) (at : ℕ) → length fun.code ≤ at → place_lives fun place marks at ≡ true → marked marks at ≡ true
unfolding place_lives
nothing_past fun place marks at le lives =
    absurd (never (ap (λ o. lives_in o fun.labels place marks at) (sym (slice_get_past fun.code at le)) ∙ lives))
  where
    never : false ≡ true → ⊥
    never e = cc

-- ---- one pass over all positions

module _ (fun : LowFun) (place : ℕ) (marks after : List Bool) (more : Bool) (so : AreJustified fun place marks)
    (passes : one_pass fun place marks ≡ record { marks = after; more = more }) where
  does : Does fun place (length fun.code) (record { marks = marks; more = false }) (record { marks = after; more = more })
  does = subst (Does fun place (length fun.code) (record { marks = marks; more = false })) passes
      (pass-does fun place (length fun.code) (record { marks = marks; more = false }) (omega (arith, so.each)))

  pub pass_justified : AreJustified fun place after
  pass_justified = record { each = does.long ∙ so.each; live = does.justified so.live }

  pub pass_smaller : more ≡ true → unmarked after < unmarked marks
  pass_smaller e = does.marks_more refl e

  pub pass_settles : more ≡ false → AreLive fun place after
  pass_settles e = record {
    each = does.long ∙ so.each;
    live = does.justified so.live;
    all = λ at live. ap (λ m. marked m at) (does.same e) ∙ live-marked fun place marks closed at live;
  }
    where
      closed : (at : ℕ) → place_lives fun place marks at ≡ true → marked marks at ≡ true
      closed at lives = elim (cases_lt at (length fun.code)) [
        | inl lt ↦ does.closed e at lt lives
        | inr le ↦ nothing_past fun place marks at le lives
      ]
