-- The emitted program comes to the instruction that acts: the words that are read are in its places, and what it writes comes to the homes behind it.
use Rattle.std.proofs.Common.{◌≡◌, ◌≢◌, ◌⊎◌, inl, inr, ℕ, suc, ◌+◌, ◌<◌, ◌≤◌, ℤ, Bool, true, false, List, [], ◌∷◌, ◌++◌, length, map, Some, None, nat_lt, slice_get, slice_set, if◌then◌else◌, refl, sym, ap, subst, ◌∙◌, arith, length-append}
use Rattle.std.specs.List.{Contains}
use Rattle.std.proofs.lemmas.Bool.{cases_lt}
use Rattle.std.proofs.lemmas.Bool.Decides.{nat_tests}
use Rattle.std.proofs.lemmas.Option.{none-some, same_Some}
use Rattle.std.proofs.lemmas.List.{length-map, map-append}
use Rattle.operation_rules.specs.FlatWords.{Flat}
use Rattle.three_address.specs.Flow.{instruction_at, reads_at, writes_at, ways_from, label_at, ways, reads_of, writes_of, ways_of, target_of, with_instruction}
use Rattle.three_address.specs.Instructions as places
use Rattle.three_address.specs.Machine as low
use Rattle.three_address.specs.Splits.{Parts, parts_of}
use Rattle.three_address.proofs.SplitParts.{parts_in, parts_are}
use Rattle.three_address.specs.declared.function.LowFun.{LowFun}
use Rattle.three_address.specs.declared.instruction.LowInstr.{LowInstr}
use Rattle.three_address.specs.declared.typed.Edge.{Edge}
use Rattle.dtal_code.specs.declared.instruction.Instr.{Instr}
use Rattle.dtal_code.specs.declared.instruction.Op.TheVariants as op
use Rattle.dtal_code.specs.declared.object.RunOp.{RunOp}
use Rattle.dtal_code.specs.declared.object.RunOp.TheVariants as run_op
use Rattle.dtal_code.specs.Instructions.{instruction_of, resolved}
use Rattle.dtal_code.specs.Machine.{Activation}
use Rattle.dtal_code.specs.ObjectCode.{Code}
use Rattle.dtal_code.specs.Running.{words_in, with_words}
use Rattle.dtal_code.proofs.PlaceWords.{length-put, get-put_same, get-put_other}
use Rattle.dtal_emit.specs.Acting.{takes_places, acting}
use Rattle.dtal_emit.specs.Homes.{home_of, homes_of, is_slot, alone, moved_if, loads, registers, results, stores, entry_moves}
use Rattle.dtal_emit.specs.Emitted.{fewer, emitted_instr, emitted_all, with_edge, over_registers, by_kind, with_parts}
use Rattle.dtal_emit.proofs.CodePieces.{Has, has_first, has_rest, has_front, has_back}
use Rattle.dtal_emit.proofs.WordMoves as moves
use Rattle.dtal_emit.proofs.WordMoves.{Leads, leads_here, leads_step, move_step, load_words, ops_of, AreHomes, NoHome, AHome}
use Rattle.emission_laws.specs.ApartHomes.{IsReady}
use Rattle.emission_laws.proofs.ActingForms.{target_for, acts_so, are_few}
use Rattle.emission_laws.proofs.KindsOfInstructions.{kind_by, kind_same, is_calling, calling_places, is_formed, same_operation}
use Rattle.emission_laws.proofs.KeptHeap.{kind_of}
use Rattle.emission_laws.proofs.PlacesHeld.{all_homes, contains_first, AreHeld, AreAside, read_alike, write_all, one_aside, aside_all, low_one}
use Rattle.emission_laws.proofs.RunsBeside.{stretch_at, Stands, text_state}
use Rattle.emission_laws.proofs.StretchesStand.{stretch}

-- ---- how many registers

pub length_registers : (hs : List ℕ) (scratch : ℕ) → length (registers scratch hs) ≡ length hs
unfolding registers
length_registers [] scratch = refl
length_registers (h ∷ hs) scratch = ap suc (length_registers hs _)

pub length_results : (hs : List ℕ) → length hs ≤ 1 → length (results hs) ≡ length hs
length_results [] h = refl
length_results (x ∷ []) h = refl
length_results (x ∷ y ∷ hs) h = absurd (omega (arith, h))

-- ---- object code of a stretch

pub piece_behind : (ops : List RunOp) (at_label : ℕ → ℕ) (at : ℕ) (xs ys : List Instr) → Has ops at (ops_of at_label (xs ++ ys)) → Has ops (at + length xs) (ops_of at_label ys)
piece_behind ops at_label at xs ys h =
    let f = λ (i : Instr). resolved at_label i.op in
    subst (λ n. Has ops (at + n) (ops_of at_label ys)) (length-map xs f)
    (has_back ops at (ops_of at_label xs) (ops_of at_label ys) (subst (Has ops at) (map-append f xs ys) h))

pub piece_front : (ops : List RunOp) (at_label : ℕ → ℕ) (at : ℕ) (xs ys : List Instr) → Has ops at (ops_of at_label (xs ++ ys)) → Has ops at (ops_of at_label xs)
piece_front ops at_label at xs ys h =
    let f = λ (i : Instr). resolved at_label i.op in has_front ops at (ops_of at_label xs) (ops_of at_label ys) (subst (Has ops at) (map-append f xs ys) h)

pub stretch_has : (ops : List RunOp) (at_label : ℕ → ℕ) (start : ℕ) (m all p s r : List Instr) → all ≡ p ++ (s ++ r) → Has ops start (ops_of at_label (m ++ all))
    → Has ops (start + (length m + length p)) (ops_of at_label s)
stretch_has ops at_label start m all p s r e h =
    let one = piece_behind ops at_label start m all h in
    let two = piece_behind ops at_label (start + length m) p (s ++ r) (subst (λ l. Has ops (start + length m) (ops_of at_label l)) e one) in
    let three = piece_front ops at_label (start + length m + length p) s r two in
    subst (λ n. Has ops n (ops_of at_label s)) (let z : start + length m + length p ≡ start + (length m + length p) = omega arith in z) three

pub emitted_is : (homes : List ℕ) (i : LowInstr) (edge : Edge) (form : places.Instruction) → places.instruction_of i ≡ Some form
    → emitted_instr homes i edge ≡ by_kind (takes_places i.op) homes i edge (homes_of homes form.writes) (homes_of homes form.reads)
unfolding emitted_instr
emitted_is homes i edge form e = ap (with_parts homes i edge) (parts_are i ∙ ap parts_in e)

-- ---- what stands at a position

pub reads_there : (fun : LowFun) (at : ℕ) (i : LowInstr) (form : places.Instruction) → slice_get fun.code at ≡ Some i → places.instruction_of i ≡ Some form → reads_at fun at ≡ form.reads
unfolding reads_at instruction_at
reads_there fun at i form e f = ap (λ o. reads_of (with_instruction o places.instruction_of)) e ∙ ap reads_of f

pub writes_there : (fun : LowFun) (at : ℕ) (i : LowInstr) (form : places.Instruction) → slice_get fun.code at ≡ Some i → places.instruction_of i ≡ Some form → writes_at fun at ≡ form.writes
unfolding writes_at instruction_at
writes_there fun at i form e f = ap (λ o. writes_of (with_instruction o places.instruction_of)) e ∙ ap writes_of f

pub ways_there : (fun : LowFun) (at : ℕ) (i : LowInstr) (form : places.Instruction) → slice_get fun.code at ≡ Some i → places.instruction_of i ≡ Some form
    → ways_from fun at ≡ ways form.operation at (label_at fun.labels i.target)
unfolding ways_from instruction_at
ways_there fun at i form e f =
    ap (λ o. ways_of (with_instruction o places.instruction_of) at (label_at fun.labels (target_of o))) e ∙ ap (λ o. ways_of o at (label_at fun.labels i.target)) f

-- ---- poised

module _ (code : Code) (funs : List LowFun) (kept : (fun at place : ℕ) → Type 0) where
  abbrev behind : (number at : ℕ) (fun : LowFun) → Stands code funs kept number fun → ℕ
  behind number at fun stands = stretch_at stands.start stands.homes fun stands.edges (suc at)

  pub record IsPut (depth number at next : ℕ) (homes : List ℕ) (b : Activation) (bs : List Activation) (here : ℕ) (places : List ℤ) (ws : List ℕ) (found new : List ℤ) : Type 0 where
    pub first : List ℤ
    pub is_first : with_words places ws found ≡ Some first
    pub last : List ℤ
    pub leads : (store : Flat) → Leads code (text_state code funs kept store depth (record b { at = suc here; places = first } ∷ bs))
        (text_state code funs kept store depth (record b { at = next; places = last } ∷ bs))
    pub held : AreHeld homes (kept number (suc at)) new last

  pub record IsPoised (store : Flat) (depth number at : ℕ) (words : List ℤ) (b : Activation) (bs : List Activation) (fun : LowFun) (stands : Stands code funs kept number fun)
      (i : LowInstr) (form : places.Instruction) (found : List ℤ) : Type 0 where
    pub here : ℕ
    pub places : List ℤ
    pub ws : List ℕ
    pub rs : List ℕ
    pub leads : Leads code (text_state code funs kept store depth (b ∷ bs)) (text_state code funs kept store depth (record b { at = here; places = places } ∷ bs))
    pub held : AreHeld stands.homes (kept number at) words places
    pub read : words_in places rs ≡ Some found
    pub run : RunOp
    pub there : slice_get code.ops here ≡ Some run
    pub acts : instruction_of run ≡ record { operation = form.operation; writes = ws; reads = rs; target = target_for i.op (stands.at_label i.target) }
    pub silent : form.writes ≡ [] → suc here ≡ stretch_at stands.start stands.homes fun stands.edges (suc at)
    pub calls : is_calling (kind_of form.operation) ≡ true → (ws ≡ map (home_of stands.homes) form.writes) × (suc here ≡ stretch_at stands.start stands.homes fun stands.edges (suc at))
    pub puts : Contains (ways_from fun at) (suc at) → (more new : List ℤ) → low.with_words words form.writes more ≡ Some new
        → IsPut depth number at (stretch_at stands.start stands.homes fun stands.edges (suc at)) stands.homes b bs here places ws more new

  module _ (store : Flat) (depth number at : ℕ) (words : List ℤ) (b : Activation) (bs : List Activation) (fun : LowFun) (stands : Stands code funs kept number fun)
      (i : LowInstr) (form : places.Instruction) (edge : Edge) (found : List ℤ) (is_there : slice_get fun.code at ≡ Some i) (edge_there : slice_get stands.edges at ≡ Some edge)
      (is_form : places.instruction_of i ≡ Some form) (ready : IsReady funs i) (few_written : length form.writes ≤ 8) (few_read : length form.reads ≤ 8)
      (here_is : b.at ≡ stretch_at stands.start stands.homes fun stands.edges at) (held : AreHeld stands.homes (kept number at) words b.places) (reads : low.words_in words form.reads ≡ Some found) where
    abbrev homes : List ℕ
    homes = stands.homes

    abbrev next : ℕ
    next = stretch_at stands.start stands.homes fun stands.edges (suc at)

    abbrev parts : Parts
    parts = (form.writes, form.reads)

    -- the form, as the tables of emission have it
    operation_is : (ws rs : List ℕ) → length ws ≡ length form.writes → length rs ≡ length form.reads
        → instruction_of (resolved stands.at_label (acting i.op i.number i.target ws rs)) ≡ record { operation = form.operation; writes = ws; reads = rs; target = target_for i.op (stands.at_label i.target) }
    unfolding parts_of
    operation_is ws rs many as_many =
        let f = is_formed i form is_form in
        let same : form.operation ≡ f.operation = ap (λ (x : places.Instruction). x.operation) f.is_form ∙ same_operation f.operation i.places in
        acts_so stands.at_label i.target ws rs i.places f.operation parts many as_many i.op i.number ready.named f.is_operation (parts_are i ∙ ap parts_in is_form)
        ∙ ap (λ o. record { operation = o; writes = ws; reads = rs; target = target_for i.op (stands.at_label i.target) }) (sym same)

    is_kind : kind_of form.operation ≡ kind_by i.op
    is_kind =
        let f = is_formed i form is_form in
        let same : form.operation ≡ f.operation = ap (λ (x : places.Instruction). x.operation) f.is_form ∙ same_operation f.operation i.places in
        ap kind_of same ∙ kind_same i.op i.number i.target (length i.places) f.operation f.is_operation

    piece : Has code.ops b.at (ops_of stands.at_label (by_kind (takes_places i.op) homes i edge (homes_of homes form.writes) (homes_of homes form.reads)))
    piece =
        let s = stretch homes fun.code stands.edges at i edge is_there edge_there in
        let h = stretch_has code.ops stands.at_label stands.start (entry_moves homes (fewer 8 (length fun.sig.params))) (emitted_all homes fun.code stands.edges) _ (emitted_instr homes i edge) s.rest s.is stands.has in
        subst (λ l. Has code.ops b.at (ops_of stands.at_label l)) (emitted_is homes i edge form is_form)
        (subst (λ n. Has code.ops n (ops_of stands.at_label (emitted_instr homes i edge))) (sym here_is) h)

    size_is : (l : List Instr) → by_kind (takes_places i.op) homes i edge (homes_of homes form.writes) (homes_of homes form.reads) ≡ l → b.at + length l ≡ next
    size_is l e =
        let s = stretch homes fun.code stands.edges at i edge is_there edge_there in
        let n = s.next in
        let same : length (emitted_instr homes i edge) ≡ length l = ap length (emitted_is homes i edge form is_form ∙ e) in
        omega (arith, here_is, n, same)

    -- what is kept behind and not written was kept before
    set_aside : (now : List ℤ) → AreHeld homes (kept number at) words now → Contains (ways_from fun at) (suc at) → AreAside homes (kept number (suc at)) form.writes words now
    set_aside now has way = record {
      as_many = has.as_many;
      held = λ place word keeps out e. has.held place word
          (stands.apart.stays at (suc at) place way (λ c. out (subst (λ l. Contains l place) (writes_there fun at i form is_there is_form) c)) keeps) e;
    }

    apart_there : Contains (ways_from fun at) (suc at) → (written other : ℕ) → Contains form.writes written → kept number (suc at) other → written ≢ other
        → home_of homes written ≢ home_of homes other
    apart_there way written other c keeps differ =
        stands.apart.apart at (suc at) written other way (subst (λ l. Contains l written) (sym (writes_there fun at i form is_there is_form)) c) keeps differ

    all_read : (place : ℕ) → Contains form.reads place → kept number at place
    all_read place c = stands.apart.read at place (subst (λ l. Contains l place) (sym (reads_there fun at i form is_there is_form)) c)

    -- a result goes to its home at once
    put_there : (here : ℕ) (now : List ℤ) (ws : List ℕ) → ws ≡ map (home_of homes) form.writes → suc here ≡ next → AreHeld homes (kept number at) words now
        → Contains (ways_from fun at) (suc at) → (more new : List ℤ) → low.with_words words form.writes more ≡ Some new → IsPut depth number at next homes b bs here now ws more new
    put_there here now ws ws_are on has way more new e =
        let w = write_all homes stands.apart.homes_are (kept number (suc at)) form.writes more words now new (apart_there way) (set_aside now has way) e in
        record {
          first = w.places;
          is_first = ap (λ l. with_words now l more) ws_are ∙ w.is;
          last = w.places;
          leads = λ st. subst (λ n. Leads code (text_state code funs kept st depth (record b { at = suc here; places = w.places } ∷ bs)) (text_state code funs kept st depth (record b { at = n; places = w.places } ∷ bs)))
              on (leads_here code (text_state code funs kept st depth (record b { at = suc here; places = w.places } ∷ bs)));
          held = w.are;
        }

    -- places are taken as they are
    poised_there : takes_places i.op ≡ true → IsPoised store depth number at words b bs fun stands i form found
    poised_there t =
        let ws = map (home_of homes) form.writes in
        let rs = map (home_of homes) form.reads in
        let is : by_kind (takes_places i.op) homes i edge (homes_of homes form.writes) (homes_of homes form.reads) ≡ with_edge homes i edge ws rs ∷ []
        = ap (λ k. by_kind k homes i edge (homes_of homes form.writes) (homes_of homes form.reads)) t
        ∙ ap (λ l. with_edge homes i edge l (homes_of homes form.reads) ∷ []) (all_homes homes form.writes few_written)
        ∙ ap (λ l. with_edge homes i edge ws l ∷ []) (all_homes homes form.reads few_read) in
        let has = subst (λ l. Has code.ops b.at (ops_of stands.at_label l)) is piece in
        let size = size_is (with_edge homes i edge ws rs ∷ []) is in
        let on : suc b.at ≡ next = omega (arith, size) in
        record {
          here = b.at;
          places = b.places;
          ws = ws;
          rs = rs;
          leads = leads_here code (text_state code funs kept store depth (b ∷ bs));
          held = held;
          read = read_alike homes (kept number at) words b.places form.reads found held all_read reads;
          run = resolved stands.at_label (acting i.op i.number i.target ws rs);
          there = has_first code.ops b.at (resolved stands.at_label (acting i.op i.number i.target ws rs)) [] has;
          acts = operation_is ws rs (length-map form.writes (home_of homes)) (length-map form.reads (home_of homes));
          silent = λ none. on;
          calls = λ c. (refl, on);
          puts = put_there b.at b.places ws refl on held;
        }

    -- ---- over registers

    home_is : (place : ℕ) → moves.IsHome (home_of homes place)
    home_is place = (let h = stands.apart.homes_are place in record { low = h.low; within = h.within })

    homes_fit : (ps : List ℕ) → AreHomes (map (home_of homes) ps)
    homes_fit [] = NoHome
    homes_fit (p ∷ ps) = AHome (home_of homes p) (map (home_of homes) ps) (home_is p) (homes_fit ps)

    outside : (home scratch : ℕ) → moves.IsHome home → 13 ≤ scratch → (home < scratch) ⊎ (16 ≤ home)
    outside home scratch is low_enough = by_test (cases_lt home 13)
      where
        by_test : (home < 13) ⊎ (13 ≤ home) → (home < scratch) ⊎ (16 ≤ home)
        by_test (inl lt) = inl (omega (arith, lt, low_enough))
        by_test (inr le) = inr (is.low le)

    -- the piece, by the places that are written
    abbrev front : List Instr
    front = loads 13 (map (home_of homes) form.reads)

    abbrev registers_read : List ℕ
    registers_read = registers 13 (map (home_of homes) form.reads)

    piece_is : takes_places i.op ≡ false → (writes : List ℕ) → form.writes ≡ writes
        → by_kind (takes_places i.op) homes i edge (homes_of homes form.writes) (homes_of homes form.reads)
        ≡ front ++ (with_edge homes i edge (results (map (home_of homes) form.writes)) registers_read ∷ stores (map (home_of homes) form.writes))
    piece_is t writes e =
        ap (λ k. by_kind k homes i edge (homes_of homes form.writes) (homes_of homes form.reads)) t
        ∙ ap (λ l. over_registers homes i edge l (homes_of homes form.reads)) (all_homes homes form.writes few_written)
        ∙ ap (λ l. over_registers homes i edge (map (home_of homes) form.writes) l) (all_homes homes form.reads few_read)

    module _ (t : takes_places i.op ≡ false) where
      few : length form.reads ≤ 3
      unfolding parts_of
      few = (let f = are_few i.op i.number i.places parts t (parts_are i ∙ ap parts_in is_form) in f.few_read)

      one : length form.writes ≤ 1
      unfolding parts_of
      one = (let f = are_few i.op i.number i.places parts t (parts_are i ∙ ap parts_in is_form) in f.few_written)

      no_call : is_calling (kind_of form.operation) ≡ true → ⊥
      no_call c =
          let p : takes_places i.op ≡ true = calling_places i.op (ap is_calling (sym is_kind) ∙ c) in
          let bad : true ≡ false = sym p ∙ t in cc

      loaded : moves.LoadsTo code (text_state code funs kept store depth (b ∷ bs)) b bs (length front) 13 registers_read found
      loaded =
          let many : length (map (home_of homes) form.reads) ≡ length form.reads = length-map form.reads (home_of homes) in
          let small = few in
          let room : 13 + length (map (home_of homes) form.reads) ≤ 16 = omega (arith, many, small) in
          let read = read_alike homes (kept number at) words b.places form.reads found held all_read reads in
          let has = subst (λ l. Has code.ops b.at (ops_of stands.at_label l)) (piece_is t form.writes refl) piece in
          load_words code stands.at_label (text_state code funs kept store depth (b ∷ bs)) bs b 13 (map (home_of homes) form.reads) found (homes_fit form.reads) (omega arith) room held.as_many read
          (piece_front code.ops stands.at_label b.at front _ has)

      held_loaded : AreHeld homes (kept number at) words loaded.places
      held_loaded = record {
        as_many = loaded.loaded.as_many ∙ held.as_many;
        held = λ place word keeps e. loaded.loaded.kept (home_of homes place) (outside (home_of homes place) 13 (home_is place) (omega arith)) ∙ held.held place word keeps e;
      }

      has_acting : Has code.ops (b.at + length front) (ops_of stands.at_label (with_edge homes i edge (results (map (home_of homes) form.writes)) registers_read ∷ stores (map (home_of homes) form.writes)))
      has_acting = piece_behind code.ops stands.at_label b.at front _ (subst (λ l. Has code.ops b.at (ops_of stands.at_label l)) (piece_is t form.writes refl) piece)

      abbrev result_places : List ℕ
      result_places = results (map (home_of homes) form.writes)

      size_on : b.at + length (front ++ (with_edge homes i edge result_places registers_read ∷ stores (map (home_of homes) form.writes))) ≡ next
      size_on = size_is _ (piece_is t form.writes refl)

      silent_on : form.writes ≡ [] → suc (b.at + length front) ≡ next
      silent_on none =
          let size = size_on in
          let a = length-append front (with_edge homes i edge result_places registers_read ∷ stores (map (home_of homes) form.writes)) in
          let z : length (stores (map (home_of homes) form.writes)) ≡ 0 = ap (λ l. length (stores (map (home_of homes) l))) none in
          omega (arith, size, a, z)

      Puts : (writes : List ℕ) → Type 0
      Puts writes = (more new : List ℤ) → low.with_words words writes more ≡ Some new
          → IsPut depth number at next homes b bs (b.at + length front) loaded.places (results (map (home_of homes) writes)) more new

      -- a result for a slot is moved there
      slot_put : (place : ℕ) → form.writes ≡ place ∷ [] → is_slot (home_of homes place) ≡ true → Contains (ways_from fun at) (suc at) → Puts (place ∷ [])
      unfolding Puts low.with_words with_words
      slot_put place e s way [] new is = absurd (none-some new is)
      slot_put place e s way (w ∷ v ∷ more) new is = absurd (two_words (nat_lt place (length words)) is)
        where
          two_words : (b : Bool) → (if b then None else None) ≡ Some new → ⊥
          two_words true f = absurd (none-some new f)
          two_words false f = absurd (none-some new f)
      slot_put place e s way (w ∷ []) new is =
          let h = home_of homes place in
          let hw = stands.apart.homes_are place in
          let now = loaded.places in
          let many = held_loaded.as_many in
          let p = low_one homes (nat_lt place (length words)) place [] w [] words new refl is in
          let high : 16 ≤ h = slot_high h s in
          let scratch : List ℤ = slice_set now 13 w in
          let same_new : slice_set words place w ≡ new = same_Some _ new p.1 in
          let before : AreAside homes (kept number (suc at)) (place ∷ []) words now
          = subst (λ l. AreAside homes (kept number (suc at)) l words now) e (set_aside now held_loaded way) in
          let behind_first : AreAside homes (kept number (suc at)) (place ∷ []) words scratch
          = record {
            as_many = length-put now 13 w ∙ many;
            held = λ other v keeps out f. get-put_other now 13 (home_of homes other) w (not_scratch (home_of homes other) (home_is other)) ∙ before.held other v keeps out f;
          } in
          let last : AreAside homes (kept number (suc at)) [] (slice_set words place w) (slice_set scratch h w)
          = one_aside homes (kept number (suc at)) place [] w words scratch hw.within p.0
          (λ other keeps differ. apart_there way place other (subst (λ l. Contains l place) (sym e) (contains_first place [])) keeps differ) behind_first in
          let fits : nat_lt 13 (length now) ≡ true = grind (arith, nat_tests, many) in
          let results_are : results (map (home_of homes) (place ∷ [])) ≡ 13 ∷ [] = ap (λ k. (if k then 13 else h) ∷ []) s in
          let stores_are : stores (map (home_of homes) form.writes) ≡ alone (op.Mv h 13) ∷ [] = ap (λ l. stores (map (home_of homes) l)) e ∙ ap (λ k. moved_if k h 13) s in
          let store_has : Has code.ops (suc (b.at + length front)) (ops_of stands.at_label (alone (op.Mv h 13) ∷ []))
          = subst (λ l. Has code.ops (suc (b.at + length front)) (ops_of stands.at_label l)) stores_are (has_rest code.ops (b.at + length front) _ _ has_acting) in
          let mid : Activation = record b { at = suc (b.at + length front); places = scratch } in
          let size = size_on in
          let app = length-append front (with_edge homes i edge result_places registers_read ∷ stores (map (home_of homes) form.writes)) in
          let one_store : length (stores (map (home_of homes) form.writes)) ≡ 1 = ap length stores_are in
          let on : suc (suc (b.at + length front)) ≡ next = omega (arith, size, app, one_store) in
          record {
            first = scratch;
            is_first = ap (λ l. with_words now l (w ∷ [])) results_are ∙ ap (λ k. if k then Some scratch else None) fits;
            last = slice_set scratch h w;
            leads = λ st.
                subst (λ n. Leads code (text_state code funs kept st depth (mid ∷ bs)) (text_state code funs kept st depth (record b { at = n; places = slice_set scratch h w } ∷ bs))) on
                (leads_step code _ _ (move_step code (text_state code funs kept st depth (mid ∷ bs)) mid bs h 13 w (has_first code.ops (suc (b.at + length front)) (run_op.Mv h 13) [] store_has)
                (get-put_same now 13 w (let m = many in omega (arith, m))) (let m = behind_first.as_many in let l = hw.within in omega (arith, m, l))));
            held = subst (λ l. AreHeld homes (kept number (suc at)) l (slice_set scratch h w)) same_new (aside_all homes (kept number (suc at)) (slice_set words place w) (slice_set scratch h w) last);
          }
        where
          slot_high : (h : ℕ) → is_slot h ≡ true → 16 ≤ h
          slot_high h s = grind (arith, nat_tests)

          not_scratch : (h : ℕ) → moves.IsHome h → h ≢ 13
          not_scratch h is f = (let l : 13 ≤ h = omega (arith, f) in let g = is.low l in absurd (omega (arith, f, g)))

      -- a result for a register is there
      register_put : (writes : List ℕ) → form.writes ≡ writes → results (map (home_of homes) writes) ≡ map (home_of homes) writes → stores (map (home_of homes) writes) ≡ []
          → Contains (ways_from fun at) (suc at) → Puts writes
      unfolding Puts
      register_put writes e rs ss way more new is =
          let size = size_on in
          let app = length-append front (with_edge homes i edge result_places registers_read ∷ stores (map (home_of homes) form.writes)) in
          let no_store : length (stores (map (home_of homes) form.writes)) ≡ 0 = ap (λ l. length (stores (map (home_of homes) l))) e ∙ ap length ss in
          let on : suc (b.at + length front) ≡ next = omega (arith, size, app, no_store) in
          put_there (b.at + length front) loaded.places (results (map (home_of homes) writes)) (rs ∙ ap (map (home_of homes)) (sym e)) on held_loaded way more new (ap (λ l. low.with_words words l more) e ∙ is)

      puts_on : (writes : List ℕ) → form.writes ≡ writes → length writes ≤ 1 → Contains (ways_from fun at) (suc at) → Puts writes
      puts_on [] e h way = register_put [] e refl refl way
      puts_on (x ∷ y ∷ writes) e h way = absurd (omega (arith, h))
      puts_on (place ∷ []) e h way = by_slot (is_slot (home_of homes place)) refl
        where
          by_slot : (k : Bool) → is_slot (home_of homes place) ≡ k → Puts (place ∷ [])
          by_slot true s = slot_put place e s way
          by_slot false s = register_put (place ∷ []) e (ap (λ k. (if k then 13 else home_of homes place) ∷ []) s) (ap (λ k. moved_if k (home_of homes place) 13) s) way

    puts_whole : (t : takes_places i.op ≡ false) → Contains (ways_from fun at) (suc at) → (more new : List ℤ) → low.with_words words form.writes more ≡ Some new
        → IsPut depth number at next homes b bs (b.at + length front) (loaded t).places (result_places t) more new
    unfolding Puts
    puts_whole t way = puts_on t form.writes refl (one t) way

    poised_registers : takes_places i.op ≡ false → IsPoised store depth number at words b bs fun stands i form found
    poised_registers t =
        let many = length_results (map (home_of homes) form.writes) (let l = length-map form.writes (home_of homes) in let o = one t in omega (arith, l, o)) in
        record {
          here = b.at + length front;
          places = (loaded t).places;
          ws = result_places t;
          rs = registers_read;
          leads = (loaded t).leads;
          held = held_loaded t;
          read = (loaded t).loaded.held;
          run = resolved stands.at_label (acting i.op i.number i.target (result_places t) registers_read);
          there = has_first code.ops (b.at + length front) (resolved stands.at_label (acting i.op i.number i.target (result_places t) registers_read)) _ (has_acting t);
          acts = operation_is (result_places t) registers_read (many ∙ length-map form.writes (home_of homes))
              (length_registers (map (home_of homes) form.reads) 13 ∙ length-map form.reads (home_of homes));
          silent = silent_on t;
          calls = λ c. absurd (no_call t c);
          puts = λ way. puts_whole t way;
        }

    pub poised : IsPoised store depth number at words b bs fun stands i form found
    poised = by_places (takes_places i.op) refl
      where
        by_places : (k : Bool) → takes_places i.op ≡ k → IsPoised store depth number at words b bs fun stands i form found
        by_places true t = poised_there t
        by_places false t = poised_registers t
