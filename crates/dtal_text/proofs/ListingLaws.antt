-- Lists with a byte between two items and a mark at the end: where each item has one spelling, so has the list.
use Rattle.std.proofs.Common.{◌≡◌, ℕ, zero, suc, ◌≤◌, Bool, true, false, List, [], ◌∷◌, ◌++◌, length, Option, Some, None, Ok, nat_le, refl, sym, ap, subst, ◌∙◌, append_assoc, append-nil, arith, inl, inr}
use Rattle.std.specs.List.{All}
use Rattle.std.proofs.lemmas.Bool.{eq-eqb}
use Rattle.std.proofs.lemmas.Bool.Decides.{nat_tests}
use Rattle.std.proofs.lemmas.List.{length-append}
use Rattle.std.proofs.lemmas.List.Elements.{All-nil, All-cons, All-head, All-tail}
use Rattle.xan_seq.specs.Rising.{KeysRise}
use Rattle.xan_read.specs.Reader.{Reader, Exact}
use Rattle.xan_read.specs.Combinators.{IsGiven, InTurn, IsMade, literal, IsBehind, after, WhereComes}
use Rattle.xan_read.specs.Spelled.{Any, Spelled}
use Rattle.xan_read.proofs.ReaderLaws.{given, exact-made, exact-in_turn, exact-behind, exact-where_comes, exact_as, after_other}
use Rattle.dtal_code.specs.Spelling.{each_behind, joined}
use Rattle.dtal_text.specs.Listings.{item_or_mark, listed_item, listed_next, listing_at, listing, some_listing, always, same, unbounded, has_room, less_room, bounded, some_bounded, is_up_to, above, rising}
use Rattle.dtal_text.proofs.ChainedLists.{IsChain, exact-chain}

-- what each item is may hang on those before it
abbrev pub ListFits : {T B : Type 0} → (T → Bool) → (T → B → T) → (T → B → Type 0) → T → List B → Type 0
ListFits may next Fits t [] = Unit {0}
ListFits may next Fits t (x ∷ xs) = (may t ≡ true) × (Fits t x × ListFits may next Fits (next t x) xs)

-- at least one
abbrev pub SomeFit : {T B : Type 0} → (T → Bool) → (T → B → T) → (T → B → Type 0) → T → List B → Type 0
SomeFit may next Fits t [] = ⊥
SomeFit may next Fits t (x ∷ xs) = Fits t x × ListFits may next Fits (next t x) xs

module _ {T B : Type 0} (between mark : ℕ) (may : T → Bool) (item : T → Reader B) (next : T → B → T) (Fits : T → B → Type 0) (spelling : B → List ℕ) (Stops : List ℕ → Type 0)
    (exact : (t : T) → may t ≡ true → Exact (item t) (Spelled Any (Fits t) spelling) Stops)
    (apart : between ≡ mark → ⊥)
    (some : (t : T) (x : B) → Fits t x → 1 ≤ length (spelling x))
    (begins : (t : T) (x : B) (rest : List ℕ) → Fits t x → after mark (spelling x ++ rest) ≡ None)
    (between_stops : (rest : List ℕ) → Stops (between ∷ rest)) (mark_stops : (rest : List ℕ) → Stops (mark ∷ rest)) where
  abbrev lead : Bool → List ℕ
  lead true = []
  lead false = between ∷ []

  record ItemText (s : Bool × T) (x : B) (text : List ℕ) : Type 0 where
    may_come : may s.1 ≡ true
    fits : Fits s.1 x
    is : text ≡ lead s.0 ++ spelling x

  abbrev Item : Bool × T → Option B → List ℕ → Type 0
  Item s None text = text ≡ mark ∷ []
  Item s (Some x) text = ItemText s x text

  abbrev IsItem : T → B → List ℕ → Type 0
  IsItem t = Spelled Any (Fits t) spelling

  -- ---- an item or the mark

  from_mark : (s : Bool × T) (o : Option B) (text : List ℕ) → IsBehind (mark ∷ []) (IsGiven None) o text → Item s o text
  from_mark s o text i = subst (λ (p : Option B). Item s p text) (sym i.is.value) (i.parts ∙ ap (λ (t : List ℕ). mark ∷ t) i.is.nothing)

  abbrev to_mark : (text : List ℕ) → text ≡ mark ∷ [] → IsBehind (mark ∷ []) (IsGiven {A = Option B} None) None text
  to_mark text e = record { back = []; is = record { value = refl; nothing = refl }; parts = e }

  from_item : (t : T) (o : Option B) (text : List ℕ) → may t ≡ true → IsMade Some (IsItem t) o text → Item (true, t) o text
  from_item t o text e i = subst (λ (p : Option B). Item (true, t) p text) (sym i.made) (record { may_come = e; fits = i.is.fits; is = i.is.is })

  from_later : (t : T) (o : Option B) (text : List ℕ) → may t ≡ true → IsBehind (between ∷ []) (IsMade Some (IsItem t)) o text → Item (false, t) o text
  from_later t o text e i = subst (λ (p : Option B). Item (false, t) p text) (sym i.is.made)
      (record { may_come = e; fits = i.is.is.fits; is = i.parts ∙ ap (λ (u : List ℕ). between ∷ u) i.is.is.is })

  exact_by : (b first : Bool) (t : T) → may t ≡ b → Exact (item_or_mark between mark item b first t) (Item (first, t)) Stops
  exact_by false first t e = exact_as _ (IsBehind (mark ∷ []) (IsGiven None)) _ Stops Stops (exact-behind (mark ∷ []) _ _ Stops (given None Stops))
      (λ o text i. from_mark (first, t) o text i) back (λ _ h. h)
    where
      back : (o : Option B) (text : List ℕ) → Item (first, t) o text → IsBehind (mark ∷ []) (IsGiven None) o text
      back None text i = to_mark text i
      back (Some x) text i = absurd (clash (may t) i.may_come e)
        where
          clash : (b : Bool) → b ≡ true → b ≡ false → ⊥
          clash b e1 e2 = absurd cc
  exact_by true true t e = exact_as _ (WhereComes mark (IsGiven None) (IsMade Some (IsItem t))) _ Stops Stops
      (exact-where_comes mark _ _ (IsGiven None) (IsMade Some (IsItem t)) Stops Stops (given None Stops) (exact-made Some (item t) (IsItem t) Stops (exact t e))
      (λ o text rest i h. (h, ap (λ (u : List ℕ). after mark (u ++ rest)) i.is.is ∙ begins t i.value rest i.is.fits)))
      into back (λ _ h. h)
    where
      into : (o : Option B) (text : List ℕ) → WhereComes mark (IsGiven None) (IsMade Some (IsItem t)) o text → Item (true, t) o text
      into o text (inl i) = from_mark (true, t) o text i
      into o text (inr i) = from_item t o text e i

      back : (o : Option B) (text : List ℕ) → Item (true, t) o text → WhereComes mark (IsGiven None) (IsMade Some (IsItem t)) o text
      back None text i = inl (to_mark text i)
      back (Some x) text i = inr (record { value = x; made = refl; is = record { known = tt; fits = i.fits; is = i.is } })
  exact_by true false t e = exact_as _ (WhereComes mark (IsGiven None) (IsBehind (between ∷ []) (IsMade Some (IsItem t)))) _ Stops Stops
      (exact-where_comes mark _ _ (IsGiven None) (IsBehind (between ∷ []) (IsMade Some (IsItem t))) Stops Stops (given None Stops)
      (exact-behind (between ∷ []) _ _ Stops (exact-made Some (item t) (IsItem t) Stops (exact t e)))
      (λ o text rest i h. (h, ap (λ (u : List ℕ). after mark (u ++ rest)) i.parts ∙ after_other mark between (i.back ++ rest) apart)))
      into back (λ _ h. h)
    where
      into : (o : Option B) (text : List ℕ) → WhereComes mark (IsGiven None) (IsBehind (between ∷ []) (IsMade Some (IsItem t))) o text → Item (false, t) o text
      into o text (inl i) = from_mark (false, t) o text i
      into o text (inr i) = from_later t o text e i

      back : (o : Option B) (text : List ℕ) → Item (false, t) o text → WhereComes mark (IsGiven None) (IsBehind (between ∷ []) (IsMade Some (IsItem t))) o text
      back None text i = inl (to_mark text i)
      back (Some x) text i = inr (record { back = spelling x; is = record { value = x; made = refl; is = record { known = tt; fits = i.fits; is = refl } }; parts = i.is })

  -- the mark is read whatever follows it
  mark_alone : (b first : Bool) (t : T) (rest : List ℕ) → item_or_mark between mark item b first t (mark ∷ rest) ≡ Ok (None, rest)
  unfolding after literal
  mark_alone false first t rest = rw (eq-eqb mark mark refl) refl
  mark_alone true true t rest = rw (eq-eqb mark mark refl) refl
  mark_alone true false t rest = rw (eq-eqb mark mark refl) refl

  item_some : (s : Bool × T) (x : B) (text : List ℕ) → Item s (Some x) text → 1 ≤ length text
  item_some s x text i = omega (arith, ap length i.is, length-append (lead s.0) (spelling x), some s.1 x i.fits)

  item_stops : (s : Bool × T) (x : B) (front : List ℕ) (o : Option B) (text rest : List ℕ) → Unit {0} → Item s (Some x) front → Item (listed_next next s x) o text → Stops (text ++ rest)
  item_stops s x front None text rest good is i = subst (λ (u : List ℕ). Stops (u ++ rest)) (sym i) (mark_stops rest)
  item_stops s x front (Some y) text rest good is i = subst (λ (u : List ℕ). Stops (u ++ rest)) (sym i.is) (between_stops (spelling y ++ rest))

  abbrev IsList : Bool × T → List B → List ℕ → Type 0
  IsList = IsChain (listed_next next) Item

  exact_list : (first : Bool) (t : T) → Exact (listing_at between mark may item next first t) (IsList (first, t)) (λ _. Unit {0})
  exact_list first t = exact-chain (listed_item between mark may item) (listed_next next) (λ _. Unit {0}) Item Stops
      (λ s _. exact_by (may s.1) s.0 s.1 refl)
      (λ s front rest _ is. ap (λ (u : List ℕ). listed_item between mark may item s (u ++ rest)) is ∙ mark_alone (may s.1) s.0 s.1 rest)
      item_some (λ s x front _ is. tt) item_stops (λ s _. record { xs = []; text = mark ∷ []; is = refl }) (first, t) tt

  -- ---- with one spelling

  abbrev Listed : T → List B → Type 0
  Listed t xs = ListFits may next Fits t xs

  abbrev more_text : List B → List ℕ
  more_text xs = each_behind (between ∷ []) spelling xs ++ (mark ∷ [])

  abbrev list_text : List B → List ℕ
  list_text xs = joined (between ∷ []) spelling xs ++ (mark ∷ [])

  more_from : (xs : List B) (t : T) (text : List ℕ) → IsList (false, t) xs text → Listed t xs × (text ≡ more_text xs)
  unfolding each_behind
  more_from [] t text i = (tt, i)
  more_from (x ∷ xs) t text i =
      let others = more_from xs (next t x) i.back i.others in (
        (i.first.may_come, (i.first.fits, others.0)),
        i.parts ∙ ap (λ (u : List ℕ). u ++ i.back) i.first.is ∙ ap (λ (u : List ℕ). between ∷ (spelling x ++ u)) others.1
            ∙ ap (λ (u : List ℕ). between ∷ u) (sym (append_assoc (spelling x) (each_behind (between ∷ []) spelling xs) (mark ∷ []))),
      )

  more_to : (xs : List B) (t : T) (text : List ℕ) → Listed t xs → text ≡ more_text xs → IsList (false, t) xs text
  unfolding each_behind
  more_to [] t text h e = e
  more_to (x ∷ xs) t text h e = record {
    front = between ∷ spelling x;
    back = more_text xs;
    first = record { may_come = h.0; fits = h.1.0; is = refl };
    others = more_to xs (next t x) (more_text xs) h.1.1 refl;
    parts = e ∙ ap (λ (u : List ℕ). between ∷ u) (append_assoc (spelling x) (each_behind (between ∷ []) spelling xs) (mark ∷ []));
  }

  list_from : (xs : List B) (t : T) (text : List ℕ) → IsList (true, t) xs text → Listed t xs × (text ≡ list_text xs)
  list_from [] t text i = (tt, i)
  list_from (x ∷ xs) t text i =
      let others = more_from xs (next t x) i.back i.others in (
        (i.first.may_come, (i.first.fits, others.0)),
        i.parts ∙ ap (λ (u : List ℕ). u ++ i.back) i.first.is ∙ ap (λ (u : List ℕ). spelling x ++ u) others.1
            ∙ sym (append_assoc (spelling x) (each_behind (between ∷ []) spelling xs) (mark ∷ [])),
      )

  list_to : (xs : List B) (t : T) (text : List ℕ) → Listed t xs → text ≡ list_text xs → IsList (true, t) xs text
  list_to [] t text h e = e
  list_to (x ∷ xs) t text h e = record {
    front = spelling x;
    back = more_text xs;
    first = record { may_come = h.0; fits = h.1.0; is = refl };
    others = more_to xs (next t x) (more_text xs) h.1.1 refl;
    parts = e ∙ append_assoc (spelling x) (each_behind (between ∷ []) spelling xs) (mark ∷ []);
  }

  spelled-more : (t : T) → Exact (listing_at between mark may item next false t) (Spelled Any (Listed t) more_text) (λ _. Unit {0})
  spelled-more t = exact_as _ (IsList (false, t)) _ (λ _. Unit {0}) (λ _. Unit {0}) (exact_list false t)
      (λ xs text i. let m = more_from xs t text i in record { known = tt; fits = m.0; is = m.1 })
      (λ xs text s. more_to xs t text s.fits s.is) (λ _ _. tt)

  pub spelled-listing : (t : T) → Exact (listing between mark may item next t) (Spelled Any (Listed t) list_text) (λ _. Unit {0})
  spelled-listing t = exact_as _ (IsList (true, t)) _ (λ _. Unit {0}) (λ _. Unit {0}) (exact_list true t)
      (λ xs text i. let m = list_from xs t text i in record { known = tt; fits = m.0; is = m.1 })
      (λ xs text s. list_to xs t text s.fits s.is) (λ _ _. tt)

  -- ---- at least one

  abbrev IsSome : T → List B → List ℕ → Type 0
  IsSome t = InTurn (IsItem t) (λ x. InTurn (Spelled Any (Listed (next t x)) more_text) (λ xs. IsGiven (x ∷ xs)))

  more_stops : (xs : List B) (rest : List ℕ) → Stops (more_text xs ++ rest)
  unfolding each_behind
  more_stops [] rest = mark_stops rest
  more_stops (x ∷ xs) rest = between_stops (((spelling x ++ each_behind (between ∷ []) spelling xs) ++ (mark ∷ [])) ++ rest)

  some_from : (xs : List B) (t : T) (text : List ℕ) → IsSome t xs text → SomeFit may next Fits t xs × (text ≡ list_text xs)
  some_from xs t text i =
      subst (λ (ys : List B). SomeFit may next Fits t ys × (text ≡ list_text ys)) (sym i.second.second.value) (
        (i.first.fits, i.second.first.fits),
        i.parts ∙ ap (λ (u : List ℕ). u ++ i.back) i.first.is
            ∙ ap (λ (u : List ℕ). spelling i.value ++ u) (i.second.parts ∙ ap (λ (u : List ℕ). i.second.front ++ u) i.second.second.nothing ∙ append-nil i.second.front ∙ i.second.first.is)
            ∙ sym (append_assoc (spelling i.value) (each_behind (between ∷ []) spelling i.second.value) (mark ∷ [])),
      )

  some_to : (xs : List B) (t : T) (text : List ℕ) → SomeFit may next Fits t xs → text ≡ list_text xs → IsSome t xs text
  some_to [] t text h e = absurd h
  some_to (x ∷ xs) t text h e = record {
    value = x;
    front = spelling x;
    back = more_text xs;
    first = record { known = tt; fits = h.0; is = refl };
    second = record {
      value = xs;
      front = more_text xs;
      back = [];
      first = record { known = tt; fits = h.1; is = refl };
      second = record { value = refl; nothing = refl };
      parts = sym (append-nil (more_text xs));
    };
    parts = e ∙ append_assoc (spelling x) (each_behind (between ∷ []) spelling xs) (mark ∷ []);
  }

  pub spelled-some : (t : T) → may t ≡ true → Exact (some_listing between mark may item next t) (Spelled Any (SomeFit may next Fits t) list_text) (λ _. Unit {0})
  spelled-some t e = exact_as _ (IsSome t) _ (λ _. Unit {0}) (λ _. Unit {0})
      (exact-in_turn _ _ (IsItem t) _ Stops (λ _. Unit {0}) (exact t e)
      (λ x _ _. exact-in_turn _ _ (Spelled Any (Listed (next t x)) more_text) (λ xs. IsGiven (x ∷ xs)) (λ _. Unit {0}) (λ _. Unit {0}) (spelled-more (next t x))
      (λ xs _ _. given (x ∷ xs) (λ _. Unit {0})) (λ _ _ _ _ _ _. tt))
      (λ x y back rest i h. subst (λ (u : List ℕ). Stops (u ++ rest))
      (sym (i.parts ∙ ap (λ (u : List ℕ). i.front ++ u) i.second.nothing ∙ append-nil i.front ∙ i.first.is)) (more_stops i.value rest)))
      (λ xs text i. let m = some_from xs t text i in record { known = tt; fits = m.0; is = m.1 })
      (λ xs text s. some_to xs t text s.fits s.is) (λ _ _. tt)

-- ---- any number of items

module _ {B : Type 0} (Fits : B → Type 0) where
  abbrev Each : Unit {0} → B → Type 0
  Each _ x = Fits x

  all_from : (xs : List B) → ListFits always same Each tt xs → All Fits xs
  all_from [] h = All-nil Fits
  all_from (x ∷ xs) h = All-cons Fits x xs h.1.0 (all_from xs h.1.1)

  all_to : (xs : List B) → All Fits xs → ListFits always same Each tt xs
  all_to [] h = tt
  all_to (x ∷ xs) h = (refl, (All-head Fits x xs h, all_to xs (All-tail Fits x xs h)))

  -- ---- so many items at most

  abbrev InRoom : ℕ → B → Type 0
  InRoom _ x = Fits x

  pub few_from : (room : ℕ) (xs : List B) → ListFits has_room less_room InRoom room xs → (length xs ≤ room) × All Fits xs
  few_from room [] h = (omega arith, All-nil Fits)
  few_from zero (x ∷ xs) h = absurd cc
  few_from (suc room) (x ∷ xs) h = let more = few_from room xs h.1.1 in (omega (arith, more.0), All-cons Fits x xs h.1.0 more.1)

  pub few_to : (room : ℕ) (xs : List B) → length xs ≤ room → All Fits xs → ListFits has_room less_room InRoom room xs
  few_to room [] few h = tt
  few_to zero (x ∷ xs) few h = absurd (omega arith)
  few_to (suc room) (x ∷ xs) few h = (refl, (All-head Fits x xs h, few_to room xs (omega arith) (All-tail Fits x xs h)))

-- ---- items of one kind

module _ {B : Type 0} (between mark : ℕ) (item : Reader B) (Fits : B → Type 0) (spelling : B → List ℕ) (Stops : List ℕ → Type 0)
    (exact : Exact item (Spelled Any Fits spelling) Stops)
    (apart : between ≡ mark → ⊥)
    (some : (x : B) → Fits x → 1 ≤ length (spelling x))
    (begins : (x : B) (rest : List ℕ) → Fits x → after mark (spelling x ++ rest) ≡ None)
    (between_stops : (rest : List ℕ) → Stops (between ∷ rest)) (mark_stops : (rest : List ℕ) → Stops (mark ∷ rest)) where
  abbrev text_of : List B → List ℕ
  text_of xs = joined (between ∷ []) spelling xs ++ (mark ∷ [])

  pub spelled-unbounded : Exact (unbounded between mark item) (Spelled Any (All Fits) text_of) (λ _. Unit {0})
  spelled-unbounded = exact_as _ (Spelled Any (ListFits always same (Each Fits) tt) text_of) _ (λ _. Unit {0}) (λ _. Unit {0})
      (spelled-listing between mark always (λ _. item) same (Each Fits) spelling Stops (λ _ _. exact) apart (λ _ x h. some x h) (λ _ x rest h. begins x rest h) between_stops mark_stops tt)
      (λ xs text s. record { known = tt; fits = all_from Fits xs s.fits; is = s.is }) (λ xs text s. record { known = tt; fits = all_to Fits xs s.fits; is = s.is }) (λ _ _. tt)

  abbrev Few : ℕ → List B → Type 0
  Few room xs = (length xs ≤ room) × All Fits xs

  pub spelled-bounded : (room : ℕ) → Exact (bounded between mark room item) (Spelled Any (Few room) text_of) (λ _. Unit {0})
  spelled-bounded room = exact_as _ (Spelled Any (ListFits has_room less_room (InRoom Fits) room) text_of) _ (λ _. Unit {0}) (λ _. Unit {0})
      (spelled-listing between mark has_room (λ _. item) less_room (InRoom Fits) spelling Stops (λ _ _. exact) apart (λ _ x h. some x h) (λ _ x rest h. begins x rest h) between_stops mark_stops room)
      (λ xs text s. record { known = tt; fits = few_from Fits room xs s.fits; is = s.is })
      (λ xs text s. record { known = tt; fits = few_to Fits room xs s.fits.0 s.fits.1; is = s.is }) (λ _ _. tt)

  abbrev SomeFew : ℕ → List B → Type 0
  SomeFew room xs = (1 ≤ length xs) × (length xs ≤ room) × All Fits xs

  some_few_from : (room : ℕ) (xs : List B) → SomeFit has_room less_room (InRoom Fits) (suc room) xs → SomeFew (suc room) xs
  some_few_from room [] h = absurd h
  some_few_from room (x ∷ xs) h = let more = few_from Fits room xs h.1 in (omega arith, omega (arith, more.0), All-cons Fits x xs h.0 more.1)

  some_few_to : (room : ℕ) (xs : List B) → SomeFew (suc room) xs → SomeFit has_room less_room (InRoom Fits) (suc room) xs
  some_few_to room [] h = absurd (omega (arith, h.0))
  some_few_to room (x ∷ xs) h = (All-head Fits x xs h.2, few_to Fits room xs (omega (arith, h.1)) (All-tail Fits x xs h.2))

  pub spelled-some_bounded : (room : ℕ) → Exact (some_bounded between mark (suc room) item) (Spelled Any (SomeFew (suc room)) text_of) (λ _. Unit {0})
  spelled-some_bounded room = exact_as _ (Spelled Any (SomeFit has_room less_room (InRoom Fits) (suc room)) text_of) _ (λ _. Unit {0}) (λ _. Unit {0})
      (spelled-some between mark has_room (λ _. item) less_room (InRoom Fits) spelling Stops (λ _ _. exact) apart (λ _ x h. some x h) (λ _ x rest h. begins x rest h) between_stops mark_stops (suc room) refl)
      (λ xs text s. record { known = tt; fits = some_few_from room xs s.fits; is = s.is })
      (λ xs text s. record { known = tt; fits = some_few_to room xs s.fits; is = s.is }) (λ _ _. tt)

-- ---- items with a number that rises

module _ {B : Type 0} (between mark most : ℕ) (item : ℕ → Reader (ℕ × B)) (Fits : ℕ × B → Type 0) (spelling : ℕ × B → List ℕ) (Stops : List ℕ → Type 0)
    (exact : (low : ℕ) → low ≤ most → Exact (item low) (Spelled Any (λ x. (low ≤ x.0) × Fits x) spelling) Stops)
    (small : (x : ℕ × B) → Fits x → x.0 ≤ most)
    (apart : between ≡ mark → ⊥)
    (some : (x : ℕ × B) → Fits x → 1 ≤ length (spelling x))
    (begins : (x : ℕ × B) (rest : List ℕ) → Fits x → after mark (spelling x ++ rest) ≡ None)
    (between_stops : (rest : List ℕ) → Stops (between ∷ rest)) (mark_stops : (rest : List ℕ) → Stops (mark ∷ rest)) where
  abbrev From : ℕ → ℕ × B → Type 0
  From low x = (low ≤ x.0) × Fits x

  abbrev rising_text : List (ℕ × B) → List ℕ
  rising_text xs = joined (between ∷ []) spelling xs ++ (mark ∷ [])

  abbrev Rises : List (ℕ × B) → Type 0
  Rises xs = KeysRise 0 xs × All Fits xs

  rises_from : (low : ℕ) (xs : List (ℕ × B)) → ListFits (is_up_to most) above From low xs → KeysRise low xs × All Fits xs
  rises_from low [] h = (tt, All-nil Fits)
  rises_from low (x ∷ xs) h = let more = rises_from (suc x.0) xs h.1.1 in ((h.1.0.0, more.0), All-cons Fits x xs h.1.0.1 more.1)

  rises_to : (low : ℕ) (xs : List (ℕ × B)) → KeysRise low xs → All Fits xs → ListFits (is_up_to most) above From low xs
  rises_to low [] rise h = tt
  rises_to low (x ∷ xs) rise h = (up_to low x.0 rise.0 (small x (All-head Fits x xs h)), ((rise.0, All-head Fits x xs h), rises_to (suc x.0) xs rise.1 (All-tail Fits x xs h)))
    where
      up_to : (low n : ℕ) → low ≤ n → n ≤ most → nat_le low most ≡ true
      up_to low n a b = grind (arith, nat_tests)

  low_is : (low : ℕ) → nat_le low most ≡ true → low ≤ most
  low_is low e = grind (arith, nat_tests)

  pub spelled-rising : Exact (rising between mark most item) (Spelled Any Rises rising_text) (λ _. Unit {0})
  spelled-rising = exact_as _ (Spelled Any (ListFits (is_up_to most) above From 0) rising_text) _ (λ _. Unit {0}) (λ _. Unit {0})
      (spelled-listing between mark (is_up_to most) item above From spelling Stops (λ low e. exact low (low_is low e)) apart (λ _ x h. some x h.1) (λ _ x rest h. begins x rest h.1) between_stops mark_stops 0)
      (λ xs text s. record { known = tt; fits = rises_from 0 xs s.fits; is = s.is })
      (λ xs text s. record { known = tt; fits = rises_to 0 xs s.fits.0 s.fits.1; is = s.is }) (λ _ _. tt)
