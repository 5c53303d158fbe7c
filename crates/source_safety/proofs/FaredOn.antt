-- Answers of a run in turn, and values that wait while the run goes on.
use Rattle.std.proofs.Common.{◌≡◌, ℕ, ℤ, List, [], ◌∷◌, ◌++◌, length, Ok, Err, sym, subst, arith}
use Rattle.std.specs.List.{All}
use Rattle.std.proofs.lemmas.List.Elements.{All-head, All-tail}
use Rattle.xan_seq.specs.Answers.{◌>>=◌}
use Rattle.state_types.specs.Types.{TypeBelow}
use Rattle.state_types.specs.Words.{Headers, HasType, Keeps}
use Rattle.state_types.specs.declared.types.Ty.{Ty}
use Rattle.state_types.specs.declared.types.Ty.TheVariants as ty
use Rattle.state_types.proofs.Edges.{type_at-all}
use Rattle.state_types.proofs.Unpacked.{present_keeps}
use Rattle.index_sorts.specs.Entails.{AllHold}
use Rattle.typed_core.specs.Growth.{Continues, Grown, NamesSoFar}
use Rattle.typed_core.specs.SourceRuns.{Run, Answer, Env}
use Rattle.typed_core.specs.SourceValues.{Value, Blocks}
use Rattle.typed_core.specs.States.{Site, State}
use Rattle.typed_core.proofs.Continued.{no_more, some_more, more_again}
use Rattle.source_safety.specs.Values.{headers_of, HasValue, HaveValues, StoreHolds}
use Rattle.source_safety.specs.Standing.{VariablesHold, Stands, Goes, Fares}

-- ---- answers

module _ {L A B : Type 0} {P : A → Run L → Type 0} {Q : B → Run L → Type 0} where
  pub fares_then : (m : Answer L A) (next : A × Run L → Answer L B) → Fares P m → ((done : A × Run L) → P done.0 done.1 → Fares Q (next done)) → Fares Q (m >>= next)
  fares_then (Ok done) next first later = later done first.is
  fares_then (Err end) next first later = record { is = first.is }

module _ {L A : Type 0} {P Q : A → Run L → Type 0} where
  pub fares_on : (m : Answer L A) → ((x : A) (st : Run L) → P x st → Q x st) → Fares P m → Fares Q m
  fares_on (Ok done) f h = record { is = f done.0 done.1 h.is }
  fares_on (Err end) f h = record { is = h.is }

-- ---- headers

pub keeps_all : (headers : Headers) → Keeps headers headers
keeps_all headers = record { keeps = λ address header e. e }

pub keeps_on : (one two three : Headers) → Keeps one two → Keeps two three → Keeps one three
keeps_on one two three a b = record { keeps = λ address header e. b.keeps address header (a.keeps address header e) }

pub typed_keeps : (old new : Headers) (assignment : List ℤ) (word : ℤ) (t : Ty) → Keeps old new → HasType old assignment word t → HasType new assignment word t
typed_keeps old new assignment word (ty.Int form) keeps h = h
typed_keeps old new assignment word ty.Bool keeps h = h
typed_keeps old new assignment word (ty.Array element form) keeps h = record { address = h.address; is = h.is; begins = keeps.keeps _ _ h.begins }
typed_keeps old new assignment word (ty.Named number) keeps h = (h.0, record { address = h.1.address; is = h.1.is; begins = keeps.keeps _ _ h.1.begins })

-- ---- a value waits

module _ (old new : Headers) (assignment given : List ℤ) (keeps : Keeps old new) (front : Continues assignment given) where
  pub value_waits : (v : Value) (t : Ty) → TypeBelow (length assignment) t → HasValue old assignment v t → HasValue new given v t
  value_waits v t below has = record {
    tagged = has.tagged;
    typed = typed_keeps old new given v.word t keeps
        (subst (λ g. HasType old g v.word t) (sym front.is) ((present_keeps assignment front.rest t below).carries old v.word has.typed));
  }

  pub values_wait : (vs : List Value) (ts : List Ty) → All (TypeBelow (length assignment)) ts → HaveValues old assignment vs ts → HaveValues new given vs ts
  values_wait [] [] below have = tt
  values_wait [] (t ∷ ts) below have = absurd have
  values_wait (v ∷ vs) [] below have = absurd have
  values_wait (v ∷ vs) (t ∷ ts) below have =
      (value_waits v t (All-head (TypeBelow (length assignment)) t ts below) have.0, values_wait vs ts (All-tail (TypeBelow (length assignment)) t ts below) have.1)

  pub variables_wait : (env : Env) (types : List (ℕ × Ty)) → All (λ e. TypeBelow (length assignment) e.1) types → VariablesHold env old assignment types → VariablesHold env new given types
  variables_wait env types below all = record {
    by = λ x t e.
        let it = all.by x t e in
        let named = type_at-all (λ (e : ℕ × Ty). TypeBelow (length assignment) e.1) x types t below e in
        record { value = it.value; there = it.there; has = value_waits it.value t named it.has };
  }

-- ---- a run goes on

module _ (site : Site) (env : Env) where
  unfoldable pub stays_here : (st : State) (assignment : List ℤ) (store : Blocks) → Stands site st env assignment store → Goes site st env assignment store store
  stays_here st assignment store stands = record { given = assignment; front = no_more assignment; stands = stands; keeps = keeps_all (headers_of store) }

  unfoldable pub goes_on : (more : State) (assignment : List ℤ) (one : List ℤ) (old middle new : Blocks) → Continues assignment one → Keeps (headers_of old) (headers_of middle)
      → Goes site more env one middle new → Goes site more env assignment old new
  goes_on more assignment one old middle new front keeps goes = record {
    given = goes.given;
    front = more_again assignment one goes.given front goes.front;
    stands = goes.stands;
    keeps = keeps_on (headers_of old) (headers_of middle) (headers_of new) keeps goes.keeps;
  }

  -- behind a part of it
  unfoldable pub goes_behind : (st more : State) (assignment : List ℤ) (old middle new : Blocks) → (first : Goes site st env assignment old middle)
      → Goes site more env first.given middle new → Goes site more env assignment old new
  goes_behind st more assignment old middle new first later = goes_on more assignment first.given old middle new first.front first.keeps later

  -- a value that was there before
  pub still_has : (st more : State) (assignment : List ℤ) (old new : Blocks) (v : Value) (t : Ty) → length assignment ≡ st.ctx.vars → TypeBelow st.ctx.vars t
      → HasValue (headers_of old) assignment v t → (goes : Goes site more env assignment old new) → HasValue (headers_of new) goes.given v t
  still_has st more assignment old new v t one_each below has goes =
      value_waits (headers_of old) (headers_of new) assignment goes.given goes.keeps goes.front v t (subst (λ n. TypeBelow n t) (sym one_each) below) has

  pub still_have : (st more : State) (assignment : List ℤ) (old new : Blocks) (vs : List Value) (ts : List Ty) → length assignment ≡ st.ctx.vars → All (TypeBelow st.ctx.vars) ts
      → HaveValues (headers_of old) assignment vs ts → (goes : Goes site more env assignment old new) → HaveValues (headers_of new) goes.given vs ts
  still_have st more assignment old new vs ts one_each below have goes =
      values_wait (headers_of old) (headers_of new) assignment goes.given goes.keeps goes.front vs ts (subst (λ n. All (TypeBelow n) ts) (sym one_each) below) have

  -- with values behind the assignment, where what is known only became more
  unfoldable pub goes_with : (st more : State) (assignment own : List ℤ) (old new : Blocks) → Stands site st env assignment old → Grown st more → NamesSoFar more
      → length (assignment ++ own) ≡ more.ctx.vars → AllHold (assignment ++ own) more.ctx.rows → Keeps (headers_of old) (headers_of new) → StoreHolds site.table new
      → Goes site more env assignment old new
  goes_with st more assignment own old new stands grown named one_each hold keeps holds =
      let front = some_more assignment own in
      let below = subst (λ n. All (λ (e : ℕ × Ty). TypeBelow n e.1) st.types) (sym stands.one_each) stands.named.types in
      let typed = variables_wait (headers_of old) (headers_of new) assignment (assignment ++ own) keeps front env st.types below stands.typed in
      record {
        given = assignment ++ own;
        front = front;
        stands = record {
          own = (let h = stands.own in let g = grown.later.vars in omega (arith, h, g));
          named = named;
          one_each = one_each;
          hold = hold;
          typed = subst (λ ts. VariablesHold env (headers_of new) (assignment ++ own) ts) (sym grown.types) typed;
          holds = holds;
        };
        keeps = keeps;
      }
