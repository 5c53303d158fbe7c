-- A function begins: its parameters are moved from the first registers to their slots, and each place that is kept has its word.
use Rattle.std.proofs.Common.{◌≡◌, ◌≢◌, ◌⊎◌, inl, inr, ℕ, zero, suc, ◌+◌, ◌-◌, ◌<◌, ◌≤◌, ℤ, pos, Bool, true, false, List, [], ◌∷◌, ◌++◌, length, replicate, Option, Some, nat_lt, slice_get, slice_set, if◌then◌else◌, refl, sym, ap, subst, ◌∙◌, arith, length-append, append-nil}
use Rattle.std.proofs.lemmas.Bool.{cases_lt}
use Rattle.std.proofs.lemmas.Bool.Decides.{nat_tests}
use Rattle.std.proofs.lemmas.Option.{none-some, same_Some}
use Rattle.std.proofs.lemmas.List.{length-map}
use Rattle.operation_rules.specs.FlatWords.{Flat}
use Rattle.three_address.specs.Machine as low
use Rattle.three_address.specs.declared.function.LowFun.{LowFun}
use Rattle.three_address.specs.declared.function.TheConstants.{PLACES}
use Rattle.three_address.specs.declared.instruction.LowInstr.{LowInstr}
use Rattle.three_address.specs.declared.typed.Edge.{Edge}
use Rattle.dtal_code.specs.declared.instruction.Instr.{Instr}
use Rattle.dtal_code.specs.declared.instruction.Op.TheVariants as op
use Rattle.dtal_code.specs.declared.object.RunOp.TheVariants as run_op
use Rattle.dtal_code.specs.Places.{places_of}
use Rattle.dtal_code.specs.Instructions.{resolved}
use Rattle.dtal_code.specs.Machine.{Activation, State}
use Rattle.dtal_code.specs.ObjectCode.{Code}
use Rattle.dtal_code.specs.Running as run
use Rattle.dtal_code.proofs.PlaceWords.{length-put, get-put_same, get-put_other, get_within}
use Rattle.dtal_emit.specs.Acting.{takes_places}
use Rattle.dtal_emit.specs.Homes.{home_of, homes_of, is_slot, alone, moved_if, loads, entry_move, entry_moves}
use Rattle.dtal_emit.specs.Emitted.{fewer, emitted_instr, emitted_all, by_kind}
use Rattle.dtal_emit.proofs.CodePieces.{Has, has_first}
use Rattle.dtal_emit.proofs.WordMoves.{Leads, leads_here, leads_step, leads_append, move_step, ops_of}
use Rattle.dtal_safety.proofs.Lookups.{within_there}
use Rattle.emission_laws.specs.ApartHomes.{IsHome}
use Rattle.emission_laws.proofs.PlacesHeld.{AreHeld, same_or_other}
use Rattle.emission_laws.proofs.PoisedStates.{stretch_has, emitted_is, piece_behind, piece_front}
use Rattle.emission_laws.proofs.RunsBeside.{stretch_at, Stands, text_state}
use Rattle.emission_laws.proofs.StretchesStand.{stretch}

-- ---- words that a function begins with

get_equal : {A : Type 0} (z w : A) (n p : ℕ) → slice_get (replicate n z) p ≡ Some w → (w ≡ z) × (p < n)
get_equal z w zero p e = absurd (none-some w e)
get_equal z w (suc n) zero e = (sym (same_Some z w e), omega arith)
get_equal z w (suc n) (suc p) e = (let r = get_equal z w n p e in let l = r.1 in (r.0, omega (arith, l)))

equal_get : {A : Type 0} (z : A) (n p : ℕ) → p < n → slice_get (replicate n z) p ≡ Some z
equal_get z zero p h = absurd (omega (arith, h))
equal_get z (suc n) zero h = refl
equal_get z (suc n) (suc p) h = equal_get z n p (omega (arith, h))

longer : {A : Type 0} (xs : List A) (z w : A) (m n p : ℕ) → m ≤ n → slice_get (xs ++ replicate m z) p ≡ Some w → slice_get (xs ++ replicate n z) p ≡ Some w
longer [] z w m n p h e = (let r = get_equal z w m p e in let l = r.1 in equal_get z n p (omega (arith, h, l)) ∙ ap Some (sym r.0))
longer (x ∷ xs) z w m n zero h e = e
longer (x ∷ xs) z w m n (suc p) h e = longer xs z w m n p h e

past_words : {A : Type 0} (xs : List A) (z w : A) (m p : ℕ) → length xs ≤ p → slice_get (xs ++ replicate m z) p ≡ Some w → w ≡ z
past_words [] z w m p h e = (let r = get_equal z w m p e in r.0)
past_words (x ∷ xs) z w m zero h e = absurd (omega (arith, h))
past_words (x ∷ xs) z w m (suc p) h e = past_words xs z w m p (omega (arith, h)) e

words_past : {A : Type 0} (xs : List A) (z : A) (n p : ℕ) → length xs ≤ p → p < length xs + n → slice_get (xs ++ replicate n z) p ≡ Some z
words_past [] z n p h l = equal_get z n p (omega (arith, l))
words_past (x ∷ xs) z n zero h l = absurd (omega (arith, h))
words_past (x ∷ xs) z n (suc p) h l = words_past xs z n p (omega (arith, h)) (omega (arith, l))

begins_alike : (given : List ℤ) (p : ℕ) (w : ℤ) → slice_get (low.places_of given) p ≡ Some w → slice_get (places_of given) p ≡ Some w
unfolding low.places_of places_of
begins_alike given p w e = longer given (pos 0) w (PLACES - length given) (256 - length given) p (omega arith) e

begins_zero : (given : List ℤ) (p : ℕ) (w : ℤ) → length given ≤ p → slice_get (low.places_of given) p ≡ Some w → w ≡ pos 0
unfolding low.places_of
begins_zero given p w h e = past_words given (pos 0) w (PLACES - length given) p h e

zero_begins : (given : List ℤ) (p : ℕ) → length given ≤ p → p < 256 → slice_get (places_of given) p ≡ Some (pos 0)
unfolding places_of
zero_begins given p h l = words_past given (pos 0) (256 - length given) p h (omega (arith, h, l))

-- ---- moves

module _ (code : Code) (funs : List LowFun) (kept : (fun at place : ℕ) → Type 0) where
  abbrev Texts : Flat → ℕ → List Activation → State
  Texts store depth bs = text_state code funs kept store depth bs

  module _ (store : Flat) (depth : ℕ) (bs : List Activation) (result : Option ℕ) (start : ℕ) (at_label : ℕ → ℕ) (homes : List ℕ) (first : List ℤ) (whole : length first ≡ 256)
      (homes_are : (place : ℕ) → IsHome (home_of homes place)) where
    abbrev act : ℕ → List ℤ → Activation
    act at places = record { at = at; places = places; result_to = result }

    record IsMoved (n : ℕ) : Type 0 where
      places : List ℤ
      leads : Leads code (Texts store depth (act start first ∷ bs)) (Texts store depth (act (start + length (entry_moves homes n)) places ∷ bs))
      as_many : length places ≡ 256
      registers : (k : ℕ) → k < 16 → slice_get places k ≡ slice_get first k
      others : (k : ℕ) (w : ℤ) → 16 ≤ k → ((q : ℕ) → q < n → home_of homes q ≢ k) → slice_get first k ≡ Some w → slice_get places k ≡ Some w
      params : (q : ℕ) (w : ℤ) → q < n → 16 ≤ home_of homes q → ((r : ℕ) → r < n → r ≢ q → home_of homes r ≢ home_of homes q) → slice_get first q ≡ Some w
          → slice_get places (home_of homes q) ≡ Some w

    stays_there : (n : ℕ) → is_slot (home_of homes n) ≡ false → IsMoved n → IsMoved (suc n)
    unfolding entry_moves
    stays_there n s m = record {
      places = m.places;
      leads = subst (λ l. Leads code (Texts store depth (act start first ∷ bs)) (Texts store depth (act (start + length l) m.places ∷ bs)))
          (sym (append-nil (entry_moves homes n)) ∙ ap (λ k. entry_moves homes n ++ moved_if k (home_of homes n) n) (sym s)) m.leads;
      as_many = m.as_many;
      registers = m.registers;
      others = λ k w high apart e. m.others k w high (λ q lt. apart q (omega (arith, lt))) e;
      params = λ q w lt high apart e. m.params q w (below q lt high (same_or_other q n)) high (λ r l. apart r (omega (arith, l))) e;
    }
      where
        below : (q : ℕ) → q < suc n → 16 ≤ home_of homes q → (q ≡ n) ⊎ (q ≢ n) → q < n
        below q lt high (inl same) =
            let h : 16 ≤ home_of homes n = subst (λ x. 16 ≤ home_of homes x) same high in
            let t : is_slot (home_of homes n) ≡ true = grind (arith, nat_tests, h) in
            let bad : true ≡ false = sym t ∙ s in cc
        below q lt high (inr differ) = by_order (cases_lt q n)
          where
            by_order : (q < n) ⊎ (n ≤ q) → q < n
            by_order (inl l) = l
            by_order (inr g) = absurd (differ (let e : q ≡ n = omega (arith, lt, g) in e))

    goes_there : (n : ℕ) → n < 8 → is_slot (home_of homes n) ≡ true → Has code.ops start (ops_of at_label (entry_moves homes n ++ entry_move homes n)) → IsMoved n → (x : ℤ) → slice_get first n ≡ Some x → IsMoved (suc n)
    unfolding entry_moves
    goes_there n few s has m x x_is =
        let h = home_of homes n in
        let high : 16 ≤ h = slot_high h s in
        let within = (homes_are n).within in
        let here : slice_get m.places n ≡ Some x = m.registers n (omega (arith, few)) ∙ x_is in
        let many = m.as_many in
        let one : entry_move homes n ≡ alone (op.Mv h n) ∷ [] = ap (λ k. moved_if k h n) s in
        let there = piece_behind code.ops at_label start (entry_moves homes n) (entry_move homes n) has in
        let mid = act (start + length (entry_moves homes n)) m.places in
        let stepped = leads_step code (Texts store depth (mid ∷ bs)) _ (move_step code (Texts store depth (mid ∷ bs)) mid bs h n x
        (has_first code.ops (start + length (entry_moves homes n)) (run_op.Mv h n) [] (subst (λ l. Has code.ops (start + length (entry_moves homes n)) (ops_of at_label l)) one there))
        here (omega (arith, within, many))) in
        let size = length-append (entry_moves homes n) (entry_move homes n) in
        let one_more : length (entry_move homes n) ≡ 1 = ap length one in
        let on : suc (start + length (entry_moves homes n)) ≡ start + length (entry_moves homes n ++ entry_move homes n) = omega (arith, size, one_more) in
        record {
          places = slice_set m.places h x;
          leads = leads_append code _ _ _ m.leads
              (subst (λ l. Leads code (Texts store depth (mid ∷ bs)) (Texts store depth (act l (slice_set m.places h x) ∷ bs))) on stepped);
          as_many = length-put m.places h x ∙ m.as_many;
          registers = λ k low_k. get-put_other m.places h k x (λ e. absurd (omega (arith, e, low_k, high))) ∙ m.registers k low_k;
          others = λ k w high_k apart e. get-put_other m.places h k x (λ f. apart n (omega arith) (sym f)) ∙ m.others k w high_k (λ q lt. apart q (omega (arith, lt))) e;
          params = λ q w lt high_q apart e. by_param q w lt high_q apart e (same_or_other n q);
        }
      where
        slot_high : (h : ℕ) → is_slot h ≡ true → 16 ≤ h
        slot_high h s = grind (arith, nat_tests)

        by_param : (q : ℕ) (w : ℤ) → q < suc n → 16 ≤ home_of homes q → ((r : ℕ) → r < suc n → r ≢ q → home_of homes r ≢ home_of homes q) → slice_get first q ≡ Some w → (n ≡ q) ⊎ (n ≢ q)
            → slice_get (slice_set m.places (home_of homes n) x) (home_of homes q) ≡ Some w
        by_param q w lt high_q apart e (inl same) =
            let within = (homes_are n).within in
            let many = m.as_many in
            subst (λ k. slice_get (slice_set m.places (home_of homes n) x) (home_of homes k) ≡ Some w) same
            (get-put_same m.places (home_of homes n) x (omega (arith, within, many)) ∙ sym x_is ∙ ap (slice_get first) same ∙ e)
        by_param q w lt high_q apart e (inr differ) =
            get-put_other m.places (home_of homes n) (home_of homes q) x (λ f. apart n (omega arith) differ (sym f))
            ∙ m.params q w (below (cases_lt q n)) high_q (λ r l. apart r (omega (arith, l))) e
          where
            below : (q < n) ⊎ (n ≤ q) → q < n
            below (inl l) = l
            below (inr g) = absurd (differ (let f : n ≡ q = omega (arith, lt, g) in f))

    moved_all : (n : ℕ) → n ≤ 8 → Has code.ops start (ops_of at_label (entry_moves homes n)) → IsMoved n
    unfolding entry_moves
    moved_all zero few has = record {
      places = first;
      leads = (let z : start ≡ start + 0 = omega arith in
          subst (λ l. Leads code (Texts store depth (act start first ∷ bs)) (Texts store depth (act l first ∷ bs))) z (leads_here code (Texts store depth (act start first ∷ bs))));
      as_many = whole;
      registers = λ k l. refl;
      others = λ k w high apart e. e;
      params = λ q w lt high apart e. absurd (omega (arith, lt));
    }
    moved_all (suc n) few has =
        by_slot (is_slot (home_of homes n)) refl (moved_all n (omega (arith, few)) (piece_front code.ops at_label start (entry_moves homes n) (entry_move homes n) has))
      where
        by_slot : (k : Bool) → is_slot (home_of homes n) ≡ k → IsMoved n → IsMoved (suc n)
        by_slot true s m = (let x = get_within first n (omega (arith, few, whole)) in goes_there n (omega (arith, few)) s has m x.0 x.1)
        by_slot false s m = stays_there n s m

  -- ---- a function

  pub entered : (store : Flat) (depth number : ℕ) (given : List ℤ) (result : Option ℕ) (bs : List Activation) (fun : LowFun) (stands : Stands code funs kept number fun)
      → length given ≤ length fun.sig.params → (length (places_of given) ≡ 256)
      → (places : List ℤ) × Leads code (Texts store depth (run.first_activation stands.start given result ∷ bs))
      (Texts store depth (record { at = stretch_at stands.start stands.homes fun stands.edges 0; places = places; result_to = result } ∷ bs))
      × AreHeld stands.homes (kept number 0) (low.places_of given) places
  unfolding emitted_all
  entered store depth number given result bs fun stands few whole =
      let hs = stands.homes in
      let count = length fun.sig.params in
      let params = stands.ready.few_params in
      let is_count : fewer 8 count ≡ count = (let t : nat_lt 8 count ≡ false = grind (arith, nat_tests, params) in ap (λ b. if b then 8 else count) t) in
      let has = piece_front code.ops stands.at_label stands.start (entry_moves hs (fewer 8 count)) (emitted_all hs fun.code stands.edges) stands.has in
      let homes_are = stands.apart.homes_are in
      let m = moved_all store depth bs result stands.start stands.at_label hs (places_of given) whole homes_are (fewer 8 count) (omega (arith, is_count, params)) has in
      let here : stands.start + length (entry_moves hs (fewer 8 count)) ≡ stretch_at stands.start hs fun stands.edges 0 = omega arith in (
        m.places,
        subst (λ n. Leads code (Texts store depth (run.first_activation stands.start given result ∷ bs)) (Texts store depth (record { at = n; places = m.places; result_to = result } ∷ bs))) here m.leads,
        record { as_many = m.as_many; held = λ place word keeps e. by_home store depth bs result number fun given stands few whole m place word keeps e is_count (stands.apart.begins place keeps) },
      )
    where
      by_home : (store : Flat) (depth : ℕ) (bs : List Activation) (result : Option ℕ) (number : ℕ) (fun : LowFun) (given : List ℤ) (stands : Stands code funs kept number fun)
          (few : length given ≤ length fun.sig.params) (whole : length (places_of given) ≡ 256)
          (m : IsMoved store depth bs result stands.start stands.at_label stands.homes (places_of given) whole stands.apart.homes_are (fewer 8 (length fun.sig.params)))
          (place : ℕ) (word : ℤ) → kept number 0 place → slice_get (low.places_of given) place ≡ Some word → fewer 8 (length fun.sig.params) ≡ length fun.sig.params
          → (home_of stands.homes place ≡ place) ⊎ (16 ≤ home_of stands.homes place) → slice_get m.places (home_of stands.homes place) ≡ Some word
      by_home store depth bs result number fun given stands few whole m place word keeps e is_count is = by_class (cases_lt (home_of stands.homes place) 16)
        where
          in_slot : 16 ≤ home_of stands.homes place → (place < length fun.sig.params) ⊎ (length fun.sig.params ≤ place) → slice_get m.places (home_of stands.homes place) ≡ Some word
          in_slot high (inl param) =
              m.params place word (omega (arith, param, is_count)) high (λ r l differ. stands.apart.params_apart r place (omega (arith, l, is_count)) keeps differ) (begins_alike given place word e)
          in_slot high (inr past) =
              let params = stands.ready.few_params in
              let within = (stands.apart.homes_are place).within in
              let zero_is = begins_zero given place word (omega (arith, few, past)) e in
              m.others (home_of stands.homes place) word high
              (λ q l. stands.apart.params_apart q place (omega (arith, l, is_count)) keeps (λ f. absurd (omega (arith, f, l, is_count, past))))
              (zero_begins given (home_of stands.homes place) (omega (arith, few, params, high)) within ∙ ap Some (sym zero_is))

          in_register : home_of stands.homes place < 16 → (home_of stands.homes place ≡ place) ⊎ (16 ≤ home_of stands.homes place) → slice_get m.places (home_of stands.homes place) ≡ Some word
          in_register lt (inl same) = m.registers (home_of stands.homes place) lt ∙ ap (slice_get (places_of given)) same ∙ begins_alike given place word e
          in_register lt (inr high) = absurd (omega (arith, lt, high))

          by_class : (home_of stands.homes place < 16) ⊎ (16 ≤ home_of stands.homes place) → slice_get m.places (home_of stands.homes place) ≡ Some word
          by_class (inl lt) = in_register lt is
          by_class (inr high) = in_slot high (cases_lt place (length fun.sig.params))

  pub first_there : (number to : ℕ) (fun : LowFun) (stands : Stands code funs kept number fun) → to < length fun.code
      → stretch_at stands.start stands.homes fun stands.edges to < length code.ops
  first_there number to fun stands h =
      let i = within_there fun.code to h in
      let each = stands.ready.edge_each in
      let edge = within_there stands.edges to (omega (arith, each, h)) in
      let ready = stands.ready.instrs to i.value i.there in
      let s = stretch stands.homes fun.code stands.edges to i.value edge.value i.there edge.there in
      let has = stretch_has code.ops stands.at_label stands.start (entry_moves stands.homes (fewer 8 (length fun.sig.params))) (emitted_all stands.homes fun.code stands.edges) _
      (emitted_instr stands.homes i.value edge.value) s.rest s.is stands.has in
      let piece = by_kind (takes_places i.value.op) stands.homes i.value edge.value (homes_of stands.homes ready.form.writes) (homes_of stands.homes ready.form.reads) in
      let some = not_empty (takes_places i.value.op) stands.homes i.value edge.value (homes_of stands.homes ready.form.writes) (homes_of stands.homes ready.form.reads) in
      let same : length (emitted_instr stands.homes i.value edge.value) ≡ length piece = ap length (emitted_is stands.homes i.value edge.value ready.form ready.is_form) in
      let many = length-map (emitted_instr stands.homes i.value edge.value) (λ (x : Instr). resolved stands.at_label x.op) in
      let o = within_there (ops_of stands.at_label (emitted_instr stands.homes i.value edge.value)) 0 (omega (arith, some, same, many)) in
      let at = stretch_at stands.start stands.homes fun stands.edges to in
      let g = get_bound code.ops (at + 0) o.value (has.by 0 o.value o.there) in
      omega (arith, g)
    where
      get_bound : {A : Type 0} (xs : List A) (n : ℕ) (x : A) → slice_get xs n ≡ Some x → n < length xs
      get_bound [] n x e = absurd (none-some x e)
      get_bound (y ∷ xs) zero x e = omega arith
      get_bound (y ∷ xs) (suc n) x e = (let r = get_bound xs n x e in omega (arith, r))

      some_behind : {A : Type 0} (xs : List A) (y : A) (ys : List A) → 0 < length (xs ++ y ∷ ys)
      some_behind [] y ys = omega arith
      some_behind (x ∷ xs) y ys = omega arith

      not_empty : (k : Bool) (homes : List ℕ) (i : LowInstr) (edge : Edge) (ws rs : List ℕ) → 0 < length (by_kind k homes i edge ws rs)
      not_empty true homes i edge ws rs = omega arith
      not_empty false homes i edge ws rs = some_behind (loads 13 rs) _ _
