-- What a run does at moves of words: one step each, and the registers hold the words that were read.
use Rattle.std.proofs.Common.{◌≡◌, ◌≢◌, ℕ, zero, suc, ◌+◌, ◌<◌, ◌≤◌, ℤ, Bool, true, false, List, [], ◌∷◌, ◌++◌, length, map, Option, Some, None, nat_lt, nat_le, slice_get, slice_set, if◌then◌else◌, refl, sym, ap, subst, ◌∙◌, arith, ◌⊎◌, inl, inr, append-nil}
use Rattle.std.proofs.lemmas.Bool.{cases_lt}
use Rattle.std.proofs.lemmas.Bool.Decides.{nat_tests}
use Rattle.operation_rules.specs.declared.operation.Operation.TheVariants.{Move}
use Rattle.dtal_code.specs.declared.instruction.Instr.{Instr}
use Rattle.dtal_code.specs.declared.instruction.Op.TheVariants as op
use Rattle.dtal_code.specs.declared.object.RunOp.{RunOp}
use Rattle.dtal_code.specs.declared.object.RunOp.TheVariants as run_op
use Rattle.dtal_code.specs.Instructions.{does, resolved}
use Rattle.dtal_code.specs.Machine.{Activation, State, On, moved_on, goes_on, after}
use Rattle.dtal_code.specs.ObjectCode.{Code}
use Rattle.dtal_code.specs.Running.{words_in, with_words, with_first, goes_with, fetched, performed, done, acts, store_of, step, run}
use Rattle.dtal_code.proofs.PlaceWords.{length-put, get-put_same, get-put_other}
use Rattle.dtal_emit.specs.Homes.{is_slot, alone, moved_if, register_of, scratch_behind, loads, registers}
use Rattle.dtal_emit.proofs.CodePieces.{Has, has_first, has_rest, has_front, has_back}

abbrev pub standing : State → Activation → List Activation → State
standing state top callers = record state { activations = top ∷ callers }

-- from one state the run comes to the other, and prints nothing on the way
pub record Leads (code : Code) (from to : State) : Type 0 where
  pub steps : ℕ
  pub by : (more : ℕ) (printed : List ℤ) → run code (steps + more) printed from ≡ run code more printed to

module _ (code : Code) where
  pub leads_here : (state : State) → Leads code state state
  leads_here state = record { steps = 0; by = λ more printed. let same : 0 + more ≡ more = omega arith in ap (λ n. run code n printed state) same }

  pub leads_step : (from next : State) → step code from ≡ On None next → Leads code from next
  unfolding run
  leads_step from next e = record {
    steps = 1;
    by = λ more printed. let same : 1 + more ≡ suc more = omega arith in
        ap (λ n. run code n printed from) same ∙ ap (λ n. after n printed (run code more)) e ∙ ap (λ out. run code more out next) (append-nil printed);
  }

  pub leads_append : (a b c : State) → Leads code a b → Leads code b c → Leads code a c
  leads_append a b c first second = record {
    steps = first.steps + second.steps;
    by = λ more printed.
        let same : (first.steps + second.steps) + more ≡ first.steps + (second.steps + more) = omega arith in
        ap (λ n. run code n printed a) same ∙ first.by (second.steps + more) printed ∙ second.by more printed;
  }

  -- a move is a step
  pub move_step : (state : State) (top : Activation) (callers : List Activation) (to from : ℕ) (word : ℤ)
      → slice_get code.ops top.at ≡ Some (run_op.Mv to from) → slice_get top.places from ≡ Some word → to < length top.places
      → step code (standing state top callers) ≡ On None (standing state (moved_on top (slice_set top.places to word)) callers)
  unfolding step words_in with_words
  move_step state top callers to from word there read within =
      let fits : nat_lt to (length top.places) ≡ true = grind (arith, nat_tests) in
      ap (fetched code (standing state top callers) top callers) there
      ∙ ap (λ w. done code (standing state top callers) top callers (does Move (to ∷ []) (from ∷ [])) (with_first w (Some []))) read
      ∙ ap (λ b. goes_with (standing state top callers) top callers (if b then Some (slice_set top.places to word) else None)) fits

-- ---- words that are read

-- a home that is no scratch register, within the places
pub record IsHome (home : ℕ) : Type 0 where
  pub low : (13 ≤ home) → 16 ≤ home
  pub within : home < 256

pub data AreHomes : List ℕ → Type 0 where
  NoHome : AreHomes []
  AHome : (home : ℕ) (homes : List ℕ) → IsHome home → AreHomes homes → AreHomes (home ∷ homes)

-- The places of an activation, of which some registers from 13 on have been written; the others are as they were.
pub record Loaded (before : List ℤ) (scratch : ℕ) (found : List ℕ) (words : List ℤ) (places : List ℤ) : Type 0 where
  pub as_many : length places ≡ length before
  pub held : words_in places found ≡ Some words
  pub kept : (p : ℕ) → (p < scratch) ⊎ (16 ≤ p) → slice_get places p ≡ slice_get before p

with_first-some : (w : Option ℤ) (ws : Option (List ℤ)) (words : List ℤ) → with_first w ws ≡ Some words
    → (x : ℤ) × (xs : List ℤ) × (w ≡ Some x) × (ws ≡ Some xs) × (words ≡ x ∷ xs)
with_first-some (Some x) (Some xs) words e = (x, xs, refl, refl, cc)
with_first-some None ws words e = absurd cc
with_first-some (Some x) None words e = absurd cc

-- words are read alike where the places are
pub words_alike : (a b : List ℤ) (homes : List ℕ) (words : List ℤ) → ((home : ℕ) → IsHome home → slice_get a home ≡ slice_get b home) → AreHomes homes
    → words_in b homes ≡ Some words → words_in a homes ≡ Some words
unfolding words_in
words_alike a b [] words same are e = e
words_alike a b (home ∷ homes) words same (AHome _ _ is are) e =
    let p = with_first-some (slice_get b home) (words_in b homes) words e in
    ap (λ w. with_first w (words_in a homes)) (same home is ∙ p.2) ∙ ap (with_first (Some p.0)) (words_alike a b homes p.1 same are p.3) ∙ ap Some (sym p.4)

pub record LoadsTo (code : Code) (state : State) (top : Activation) (callers : List Activation) (count scratch : ℕ) (found : List ℕ) (words : List ℤ) : Type 0 where
  pub places : List ℤ
  pub loaded : Loaded top.places scratch found words places
  pub leads : Leads code (standing state top callers) (standing state (record top { at = top.at + count; places = places }) callers)

-- the instructions of a piece, where labels stand for these numbers
abbrev pub ops_of : (ℕ → ℕ) → List Instr → List RunOp
ops_of at_label instrs = map (λ i. resolved at_label i.op) instrs

no_scratch : (home scratch : ℕ) → IsHome home → 13 ≤ scratch → scratch < 16 → home ≢ scratch
no_scratch home scratch is low high = λ e. let l : 13 ≤ home = omega arith in let h = is.low l in absurd (omega arith)

register_below : (home : ℕ) → IsHome home → is_slot home ≡ false → home < 13
register_below home is e = below (cases_lt home 13)
  where
    below : (home < 13) ⊎ (13 ≤ home) → home < 13
    below (inl lt) = lt
    below (inr le) = let h = is.low le in absurd (grind (arith, nat_tests, e))

module _ (code : Code) (at_label : ℕ → ℕ) (state : State) (callers : List Activation) where
  abbrev Goal : (top : Activation) (scratch : ℕ) (homes : List ℕ) (words : List ℤ) → Type 0
  Goal top scratch homes words = AreHomes homes → 13 ≤ scratch → scratch + length homes ≤ 16 → length top.places ≡ 256 → words_in top.places homes ≡ Some words
      → Has code.ops top.at (ops_of at_label (loads scratch homes))
      → LoadsTo code state top callers (length (loads scratch homes)) scratch (registers scratch homes) words

  -- a word in a slot is moved to the scratch register
  from_slot : (top : Activation) (scratch home : ℕ) (homes : List ℕ) (x : ℤ) (words : List ℤ) → IsHome home → AreHomes homes → 13 ≤ scratch → scratch + suc (length homes) ≤ 16 → length top.places ≡ 256
      → slice_get top.places home ≡ Some x → words_in top.places homes ≡ Some words
      → Has code.ops top.at (run_op.Mv scratch home ∷ ops_of at_label (loads (suc scratch) homes))
      → ((next : Activation) → Goal next (suc scratch) homes words)
      → LoadsTo code state top callers (suc (length (loads (suc scratch) homes))) scratch (scratch ∷ registers (suc scratch) homes) (x ∷ words)
  unfolding words_in
  from_slot top scratch home homes x words is are low room as_many here others has later =
      let within : scratch < length top.places = omega (arith, as_many, room) in
      let high : scratch < 16 = omega (arith, room) in
      let room' : suc scratch + length homes ≤ 16 = omega (arith, room) in
      let low' : 13 ≤ suc scratch = omega (arith, low) in
      let next : Activation = moved_on top (slice_set top.places scratch x) in
      let many : length next.places ≡ 256 = length-put top.places scratch x ∙ as_many in
      let same : (h : ℕ) → IsHome h → slice_get next.places h ≡ slice_get top.places h = λ h i. get-put_other top.places scratch h x (no_scratch h scratch i low high) in
      let rest = later next are low' room' many (words_alike next.places top.places homes words same are others) (has_rest code.ops top.at (run_op.Mv scratch home) (ops_of at_label (loads (suc scratch) homes)) has) in
      let first = leads_step code (standing state top callers) (standing state next callers)
      (move_step code state top callers scratch home x (has_first code.ops top.at (run_op.Mv scratch home) (ops_of at_label (loads (suc scratch) homes)) has) here within) in
      let held : slice_get rest.places scratch ≡ Some x = rest.loaded.kept scratch (inl (omega arith)) ∙ get-put_same top.places scratch x within in
      let count : suc top.at + length (loads (suc scratch) homes) ≡ top.at + suc (length (loads (suc scratch) homes)) = omega arith in
      record {
        places = rest.places;
        loaded = record {
          as_many = rest.loaded.as_many ∙ length-put top.places scratch x;
          held = ap (λ w. with_first w (words_in rest.places (registers (suc scratch) homes))) held ∙ ap (with_first (Some x)) rest.loaded.held;
          kept = λ p out. rest.loaded.kept p (wider p out) ∙ get-put_other top.places scratch p x (other p out);
        };
        leads = subst (λ n. Leads code (standing state top callers) (standing state (record top { at = n; places = rest.places }) callers)) count
            (leads_append code _ _ _ first rest.leads);
      }
    where
      wider : (p : ℕ) → (p < scratch) ⊎ (16 ≤ p) → (p < suc scratch) ⊎ (16 ≤ p)
      wider p (inl lt) = inl (omega (arith, lt))
      wider p (inr le) = inr le

      other : (p : ℕ) → (p < scratch) ⊎ (16 ≤ p) → p ≢ scratch
      other p (inl lt) = λ e. absurd (omega arith)
      other p (inr le) = λ e. let h : scratch < 16 = omega (arith, room) in absurd (omega arith)

  -- a word in a register stays there
  from_register : (top : Activation) (scratch home : ℕ) (homes : List ℕ) (x : ℤ) (words : List ℤ) → home < 13 → 13 ≤ scratch
      → slice_get top.places home ≡ Some x
      → LoadsTo code state top callers (length (loads scratch homes)) scratch (registers scratch homes) words
      → LoadsTo code state top callers (length (loads scratch homes)) scratch (home ∷ registers scratch homes) (x ∷ words)
  unfolding words_in
  from_register top scratch home homes x words below low here rest = record {
    places = rest.places;
    loaded = record {
      as_many = rest.loaded.as_many;
      held = ap (λ w. with_first w (words_in rest.places (registers scratch homes))) (rest.loaded.kept home (inl (omega (arith, below, low))) ∙ here)
          ∙ ap (with_first (Some x)) rest.loaded.held;
      kept = rest.loaded.kept;
    };
    leads = rest.leads;
  }

  pub load_words : (top : Activation) (scratch : ℕ) (homes : List ℕ) (words : List ℤ) → Goal top scratch homes words
  unfolding loads registers words_in
  load_words top scratch [] words are low room as_many read has = record {
    places = top.places;
    loaded = record { as_many = refl; held = read; kept = λ p out. refl };
    leads = let same : top.at ≡ top.at + 0 = omega arith in
        subst (λ n. Leads code (standing state top callers) (standing state (record top { at = n; places = top.places }) callers)) same (leads_here code (standing state top callers));
  }
  load_words top scratch (home ∷ homes) words (AHome _ _ is are) low room as_many read has =
      let p = with_first-some (slice_get top.places home) (words_in top.places homes) words read in
      let room' : is_slot home ≡ false → scratch + length homes ≤ 16 = λ e. omega (arith, room) in
      subst (LoadsTo code state top callers _ scratch _) (sym p.4)
      (by_home (is_slot home) refl p.0 p.1 p.2 p.3 has (λ next. load_words next (suc scratch) homes p.1) (λ e others. load_words top scratch homes p.1 are low (room' e) as_many p.3 others))
    where
      by_home : (b : Bool) → is_slot home ≡ b → (x : ℤ) (xs : List ℤ) → slice_get top.places home ≡ Some x → words_in top.places homes ≡ Some xs
          → Has code.ops top.at (ops_of at_label (moved_if b scratch home ++ loads (if b then suc scratch else scratch) homes))
          → ((next : Activation) → Goal next (suc scratch) homes xs)
          → (is_slot home ≡ false → Has code.ops top.at (ops_of at_label (loads scratch homes)) → LoadsTo code state top callers (length (loads scratch homes)) scratch (registers scratch homes) xs)
          → LoadsTo code state top callers (length (moved_if b scratch home ++ loads (if b then suc scratch else scratch) homes)) scratch
          ((if b then scratch else home) ∷ registers (if b then suc scratch else scratch) homes) (x ∷ xs)
      by_home true e x xs here others has later stays = from_slot top scratch home homes x xs is are low room as_many here others has later
      by_home false e x xs here others has later stays = from_register top scratch home homes x xs (register_below home is e) low here (stays e has)
