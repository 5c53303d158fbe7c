-- How a run of the code over places goes on from a state to a later one, and what a part of the source's run answers beside it. Units of fuel are counted
-- against steps: from a state with some units to one with fewer the code makes at least as many steps as units were taken.
use Rattle.std.proofs.Common.{◌≡◌, ◌≢◌, ◌∙◌, ℕ, suc, ◌+◌, ◌≤◌, ℤ, List, ◌++◌, Option, Ok, Err, option_to_list, refl, sym, ap, subst, arith}
use Rattle.xan_io.specs.Outcome.{How, Stuck, Running, Outcome}
use Rattle.xan_seq.specs.Answers.{◌>>=◌}
use Rattle.three_address.specs.Machine.{State, On, Off, after, step, run}
use Rattle.three_address.specs.declared.function.LowFun.{LowFun}
use Rattle.typed_core.specs.SourceRuns.{Run, Answer, End, ends, stuck}

-- what was printed so far, and the state
pub record Config : Type 0 where
  pub printed : List ℤ
  pub state : State

module _ (funs : List LowFun) where
  abbrev pub run_on : ℕ → Config → Outcome
  run_on steps c = run funs steps c.printed c.state

  -- The run comes from the first to the second, in at least as many steps as there are fewer units.
  pub record Comes (before after : ℕ) (a b : Config) : Type 0 where
    pub by : (k : ℕ) → (j : ℕ) × (before + k ≤ after + j) × (run_on j a ≡ run_on k b)

  -- The run ends so; where it only ran out of units, after at least that many steps.
  pub record Finishes (before : ℕ) (a : Config) (outcome : Outcome) : Type 0 where
    pub steps : ℕ
    pub same : run_on steps a ≡ outcome
    pub as_long : outcome.how ≡ Running → before ≤ steps

  pub comes_none : (n : ℕ) (a : Config) → Comes n n a a
  comes_none n a = record { by = λ k. (k, omega arith, refl) }

  pub comes_then : (l m n : ℕ) (a b c : Config) → Comes l m a b → Comes m n b c → Comes l n a c
  comes_then l m n a b c one two = record {
    by = λ k.
        let later = two.by k in
        let first = one.by later.0 in
        (first.0, sum l m n k later.0 first.0 first.1 later.1, first.2 ∙ later.2);
  }
    where
      sum : (l m n k i j : ℕ) → l + i ≤ m + j → m + k ≤ n + i → l + k ≤ n + j
      sum l m n k i j h g = omega (arith, h, g)

  -- a step to spare, or a unit more on both sides
  pub comes_with : (l m p q : ℕ) (a b : Config) → p + m ≤ l + q → Comes l m a b → Comes p q a b
  comes_with l m p q a b h one = record {
    by = λ k. let first = one.by k in (first.0, sum l m p q k first.0 h first.1, first.2);
  }
    where
      sum : (l m p q k j : ℕ) → p + m ≤ l + q → l + k ≤ m + j → p + k ≤ q + j
      sum l m p q k j h g = omega (arith, h, g)

  -- one step
  pub comes_step : (n : ℕ) (a : Config) (printed : Option ℤ) (state : State) → step funs a.state ≡ On printed state
      → Comes (suc n) n a (record { printed = a.printed ++ option_to_list printed; state = state })
  unfolding run
  comes_step n a printed state e = record {
    by = λ k. (suc k, omega arith, ap (λ next. after next a.printed (run funs k)) e);
  }

  pub finishes_later : (l m : ℕ) (a b : Config) (outcome : Outcome) → Comes l m a b → Finishes m b outcome → Finishes l a outcome
  finishes_later l m a b outcome one f =
      let first = one.by f.steps in
      record {
        steps = first.0;
        same = first.2 ∙ f.same;
        as_long = λ running. (let enough = f.as_long running in sum l m f.steps first.0 enough first.1);
      }
    where
      sum : (l m k j : ℕ) → m ≤ k → l + k ≤ m + j → l ≤ j
      sum l m k j h g = omega (arith, h, g)

  -- one step to an end
  pub finishes_step : (n : ℕ) (a : Config) (how : How) → step funs a.state ≡ Off how → how ≢ Running → Finishes n a (record { printed = a.printed; how = how })
  unfolding run
  finishes_step n a how e ended = record {
    steps = 1;
    same = ap (λ next. after next a.printed (run funs 0)) e;
    as_long = λ running. absurd (ended running);
  }

  -- no units are left
  pub finishes_running : (a : Config) → Finishes 0 a (record { printed = a.printed; how = Running })
  unfolding run
  finishes_running a = record { steps = 0; same = refl; as_long = λ running. omega arith }

  -- ---- answers

  module _ {L A : Type 0} where
    -- a value was reached: the code stands at a state, related to it
    pub record Arrived (before : ℕ) (a : Config) (R : A → Run L → Config → Type 0) (x : A) (st : Run L) : Type 0 where
      pub config : Config
      pub comes : Comes before st.units a config
      pub is : R x st config

    -- where the source is stuck, nothing is said
    pub record Arrives (before : ℕ) (a : Config) (R : A → Run L → Config → Type 0) (answer : Answer L A) : Type 0 where
      pub good : (x : A) (st : Run L) → answer ≡ Ok (x, st) → Arrived before a R x st
      pub ended : (end : End L) → answer ≡ Err end → end.how ≢ Stuck → Finishes before a (record { printed = end.run.printed; how = end.how })

    pub arrives_there : (n : ℕ) (a : Config) (R : A → Run L → Config → Type 0) (x : A) (st : Run L) (b : Config) → Comes n st.units a b → R x st b
        → Arrives n a R (Ok (x, st))
    arrives_there n a R x st b comes is = record {
      good = λ y more e. (let same = pair_same (x, st) (y, more) e in subst (λ (p : A × Run L). Arrived n a R p.0 p.1) same (record { config = b; comes = comes; is = is }));
      ended = λ end e other. (let bad : ⊥ = cc in absurd bad);
    }
      where
        pair_same : (one two : A × Run L) → (let r : Answer L A = Ok one in r) ≡ Ok two → one ≡ two
        pair_same one two e = cc

    pub arrives_stuck : (n : ℕ) (a : Config) (R : A → Run L → Config → Type 0) (st : Run L) → Arrives n a R (stuck st)
    arrives_stuck n a R st = record {
      good = λ y more e. (let bad : ⊥ = cc in absurd bad);
      ended = λ end e other. absurd (other (ap (λ x. x.how) (sym (end_same (record { how = Stuck; run = st }) end e))));
    }
      where
        end_same : {A : Type 0} (x y : End L) → (let r : Answer L A = Err x in r) ≡ Err y → x ≡ y
        end_same x y e = cc

    pub arrives_nowhere : (n : ℕ) (a : Config) (R : A → Run L → Config → Type 0) (end : End L) → end.how ≡ Stuck → Arrives n a R (Err end)
    arrives_nowhere n a R end how = record {
      good = λ y more e. (let bad : ⊥ = cc in absurd bad);
      ended = λ other e not_stuck. absurd (not_stuck (ap (λ x. x.how) (sym (end_same end other e)) ∙ how));
    }
      where
        end_same : {A : Type 0} (x y : End L) → (let r : Answer L A = Err x in r) ≡ Err y → x ≡ y
        end_same x y e = cc

    pub arrives_end : (n : ℕ) (a : Config) (R : A → Run L → Config → Type 0) (how : How) (st : Run L) → (how ≢ Stuck → Finishes n a (record { printed = st.printed; how = how }))
        → Arrives n a R (ends how st)
    arrives_end n a R how st f = record {
      good = λ y more e. (let bad : ⊥ = cc in absurd bad);
      ended = λ end e other.
          let same = end_same (record { how = how; run = st }) end e in
          subst (λ (x : End L). Finishes n a (record { printed = x.run.printed; how = x.how })) same (f (λ stuck_how. other (ap (λ x. x.how) (sym same) ∙ stuck_how)));
    }
      where
        end_same : {A : Type 0} (x y : End L) → (let r : Answer L A = Err x in r) ≡ Err y → x ≡ y
        end_same x y e = cc

    -- from an earlier state
    pub arrives_later : (l m : ℕ) (a b : Config) (R : A → Run L → Config → Type 0) (answer : Answer L A) → Comes l m a b → Arrives m b R answer → Arrives l a R answer
    arrives_later l m a b R answer comes one = record {
      good = λ x st e. (let it = one.good x st e in record { config = it.config; comes = comes_then l m st.units a b it.config comes it.comes; is = it.is });
      ended = λ end e other. finishes_later l m a b _ comes (one.ended end e other);
    }

    pub arrives_as : (n : ℕ) (a : Config) (R S : A → Run L → Config → Type 0) (answer : Answer L A) → ((x : A) (st : Run L) (c : Config) → R x st c → S x st c)
        → Arrives n a R answer → Arrives n a S answer
    arrives_as n a R S answer f one = record {
      good = λ x st e. (let it = one.good x st e in record { config = it.config; comes = it.comes; is = f x st it.config it.is });
      ended = one.ended;
    }

    -- a little further on
    pub arrives_on : (n : ℕ) (a : Config) (R S : A → Run L → Config → Type 0) (answer : Answer L A) → ((x : A) (st : Run L) (c : Config) → R x st c → Arrived st.units c S x st)
        → Arrives n a R answer → Arrives n a S answer
    arrives_on n a R S answer f one = record {
      good = λ x st e.
          let it = one.good x st e in
          let later = f x st it.config it.is in
          record { config = later.config; comes = comes_then n st.units st.units a it.config later.config it.comes later.comes; is = later.is };
      ended = one.ended;
    }

  -- one part and then the next, which begins where the first one has led, also where a step is to spare
  module _ {L A B : Type 0} where
    pub arrives_then : (n : ℕ) (a : Config) (R : A → Run L → Config → Type 0) (S : B → Run L → Config → Type 0) (m : Answer L A) (next : A × Run L → Answer L B)
        → Arrives n a R m → ((x : A) (st : Run L) (c : Config) → R x st c → Arrives st.units c S (next (x, st))) → Arrives n a S (m >>= next)
    arrives_then n a R S (Ok done) next first later =
        let it = first.good done.0 done.1 refl in
        arrives_later n done.1.units a it.config S (next done) it.comes (later done.0 done.1 it.config it.is)
    arrives_then n a R S (Err end) next first later = record {
      good = λ y more e. (let bad : ⊥ = cc in absurd bad);
      ended = λ other e not_stuck.
          let same : end ≡ other = cc in
          first.ended other (ap (λ (x : End L). let r : Answer L A = Err x in r) same) not_stuck;
    }

    -- the first part has a step to spare, which pays for a unit of the next
    pub arrives_paying : (l n : ℕ) (a : Config) (R : A → Run L → Config → Type 0) (S : B → Run L → Config → Type 0) (m : Answer L A) (next : A × Run L → Answer L B)
        → l ≤ n → Arrives n a R m → ((x : A) (st : Run L) (c : Config) → Comes n st.units a c → R x st c → Arrives l a S (next (x, st))) → Arrives l a S (m >>= next)
    arrives_paying l n a R S (Ok done) next le first later = (let it = first.good done.0 done.1 refl in later done.0 done.1 it.config it.comes it.is)
    arrives_paying l n a R S (Err end) next le first later = record {
      good = λ y more e. (let bad : ⊥ = cc in absurd bad);
      ended = λ other e not_stuck.
          let same : end ≡ other = cc in
          let f = first.ended other (ap (λ (x : End L). let r : Answer L A = Err x in r) same) not_stuck in
          record { steps = f.steps; same = f.same; as_long = λ running. (let enough = f.as_long running in omega (arith, le, enough)) };
    }
