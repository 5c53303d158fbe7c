-- The readers of lists are exact.
use Rattle.std.proofs.Common.{◌≡◌, ℕ, zero, suc, List, [], ◌∷◌, ◌++◌, None, refl, sym, ap, subst, ◌∙◌, append_assoc, arith, inl, inr}
use Rattle.std.proofs.lemmas.List.{append-nil}
use Rattle.xan_read.specs.Reader.{Reader, Exact}
use Rattle.xan_read.specs.Combinators.{give, IsGiven, in_turn, InTurn, behind, IsBehind, after, WhereComes}
use Rattle.xan_read.specs.Lists.{IsRepeated, repeated, IsSeparated, separated, IsClosed, closed, Ends}
use Rattle.xan_read.proofs.ReaderLaws.{given, passed, exact-give, exact-in_turn, exact-behind, exact-where_comes, exact_as, after_other}

module _ {A : Type 0} (c : ℕ) (p : Reader A) (Is : A → List ℕ → Type 0) (Stops : List ℕ → Type 0) (exact : Exact p Is Stops) (next : (rest : List ℕ) → Stops (c ∷ rest)) where
  -- what follows an item: the rest of the list, and then what follows the list
  behind_item : (room : ℕ) (xs : List A) (text rest : List ℕ) → IsRepeated c room Is xs text → Ends Stops c rest → Stops (text ++ rest)
  behind_item room [] text rest is h = subst (λ (t : List ℕ). Stops (t ++ rest)) (sym is.are) h.item
  behind_item room (x ∷ xs) text rest is h = subst (λ (t : List ℕ). Stops (t ++ rest)) (sym is.are.4) (next ((is.are.0 ++ is.are.1) ++ rest))

  -- an item and more of them, at the front of a list
  Front : ℕ → List A → List ℕ → Type 0
  Front room = InTurn Is (λ x. InTurn (IsRepeated c room Is) (λ xs. IsGiven (x ∷ xs)))

  exact_front : (room : ℕ) → Exact (repeated c room p) (IsRepeated c room Is) (Ends Stops c) → Exact (in_turn p (λ x. in_turn (repeated c room p) (λ xs. give (x ∷ xs)))) (Front room) (Ends Stops c)
  unfolding Front
  exact_front room more = exact-in_turn p _ Is _ Stops (Ends Stops c) exact
      (λ x front is. exact-in_turn (repeated c room p) _ (IsRepeated c room Is) (λ xs. IsGiven (x ∷ xs)) (Ends Stops c) (Ends Stops c) more
      (λ xs front is. given (x ∷ xs) (Ends Stops c)) (λ xs y back rest g h. passed (x ∷ xs) y (Ends Stops c) back rest g h))
      (λ x y back rest is h. behind_item room is.value back rest (repeated_back x y back is) h)
    where
      repeated_back : (x : A) (y : List A) (back : List ℕ) (is : InTurn (IsRepeated c room Is) (λ xs. IsGiven (x ∷ xs)) y back) → IsRepeated c room Is is.value back
      repeated_back x y back is = subst (λ (t : List ℕ). IsRepeated c room Is is.value t) (sym (is.parts ∙ ap (λ (t : List ℕ). is.front ++ t) is.second.nothing ∙ append-nil is.front)) is.first

  front_is : (room : ℕ) (y : List A) (text : List ℕ) → Front room y text → IsSeparated c room Is y text
  unfolding Front
  front_is room y text f = subst (λ (z : List A). IsSeparated c room Is z text) (sym f.second.second.value)
      (f.front, f.back, f.first, subst (λ (t : List ℕ). IsRepeated c room Is f.second.value t) (sym (f.second.parts ∙ ap (λ (t : List ℕ). f.second.front ++ t) f.second.second.nothing ∙ append-nil f.second.front)) f.second.first, f.parts)

  front_from : (room : ℕ) (y : List A) (text : List ℕ) → IsSeparated c room Is y text → Front room y text
  unfolding Front
  front_from room [] text s = absurd s
  front_from room (x ∷ xs) text s = record {
    value = x;
    front = s.0;
    back = s.1;
    first = s.2;
    parts = s.4;
    second = record { value = xs; front = s.1; back = []; first = s.3; second = record { value = refl; nothing = refl }; parts = sym (append-nil s.1) };
  }

  repeated_is : (room : ℕ) (xs : List A) (text : List ℕ) → WhereComes c (Front room) (IsGiven []) xs text → IsRepeated c (suc room) Is xs text
  repeated_is room xs text (inl b) = go xs (front_is room xs b.back b.is)
    where
      go : (xs : List A) → IsSeparated c room Is xs b.back → IsRepeated c (suc room) Is xs text
      go [] s = absurd s
      go (x ∷ xs) s = record { few = omega (arith, s.3.few); are = (s.0, s.1, s.2, s.3.are, b.parts ∙ ap (λ (t : List ℕ). c ∷ t) s.4) }
  repeated_is room xs text (inr g) = subst (λ (ys : List A). IsRepeated c (suc room) Is ys text) (sym g.value) (record { few = omega arith; are = g.nothing })

  repeated_from : (room : ℕ) (xs : List A) (text : List ℕ) → IsRepeated c (suc room) Is xs text → WhereComes c (Front room) (IsGiven []) xs text
  repeated_from room [] text r = inr (record { value = refl; nothing = r.are })
  repeated_from room (x ∷ xs) text r = inl (record {
    back = r.are.0 ++ r.are.1;
    parts = r.are.4;
    is = front_from room (x ∷ xs) (r.are.0 ++ r.are.1) (r.are.0, r.are.1, r.are.2, record { few = omega (arith, r.few); are = r.are.3 }, refl);
  })

  none_is : (xs : List A) (text : List ℕ) → IsGiven [] xs text → IsRepeated c 0 Is xs text
  none_is xs text g = subst (λ (ys : List A). IsRepeated c 0 Is ys text) (sym g.value) (record { few = omega arith; are = g.nothing })

  none_from : (xs : List A) (text : List ℕ) → IsRepeated c 0 Is xs text → IsGiven [] xs text
  none_from [] text r = record { value = refl; nothing = r.are }
  none_from (x ∷ xs) text r = absurd (omega (arith, r.few))

  pub exact-repeated : (room : ℕ) → Exact (repeated c room p) (IsRepeated c room Is) (Ends Stops c)
  unfolding repeated
  exact-repeated zero = exact_as (give []) (IsGiven []) (IsRepeated c 0 Is) (λ _. Unit {0}) (Ends Stops c) (exact-give []) none_is none_from (λ _ _. tt)
  exact-repeated (suc room) = exact_as _ (WhereComes c (Front room) (IsGiven [])) (IsRepeated c (suc room) Is) (Ends Stops c) (Ends Stops c)
      (exact-where_comes c _ (give []) (Front room) (IsGiven []) (λ _. Unit {0}) (Ends Stops c) (exact_front room (exact-repeated room)) (exact-give [])
      (λ x text rest g h. (tt, subst (λ (t : List ℕ). after c (t ++ rest) ≡ None) (sym g.nothing) h.list)))
      (repeated_is room) (repeated_from room) (λ _ h. h)

  pub exact-separated : (room : ℕ) → Exact (separated c room p) (IsSeparated c room Is) (Ends Stops c)
  unfolding separated
  exact-separated room = exact_as _ (Front room) (IsSeparated c room Is) (Ends Stops c) (Ends Stops c) (exact_front room (exact-repeated room)) (front_is room) (front_from room) (λ _ h. h)

  -- ---- with a mark at the end

  module _ (end : ℕ) (apart : end ≡ c → ⊥) (last : (rest : List ℕ) → Stops (end ∷ rest))
      (begins : (x : A) (text rest : List ℕ) → Is x text → after end (text ++ rest) ≡ None) where
    Body : ℕ → List A → List ℕ → Type 0
    Body room = InTurn (IsSeparated c room Is) (λ xs. IsBehind (end ∷ []) (IsGiven xs))

    exact_body : (room : ℕ) → Exact (in_turn (separated c room p) (λ xs. behind (end ∷ []) (give xs))) (Body room) (λ _. Unit {0})
    unfolding Body
    exact_body room = exact-in_turn (separated c room p) _ (IsSeparated c room Is) (λ xs. IsBehind (end ∷ []) (IsGiven xs)) (Ends Stops c) (λ _. Unit {0})
        (exact-separated room) (λ xs front is. exact-behind (end ∷ []) (give xs) (IsGiven xs) (λ _. Unit {0}) (exact-give xs))
        (λ xs y back rest is h. subst (λ (t : List ℕ). Ends Stops c (t ++ rest)) (sym is.parts) (record { item = last (is.back ++ rest); list = after_other c end (is.back ++ rest) apart }))

    not_end : (room : ℕ) (y : List A) (text rest : List ℕ) → Body room y text → after end (text ++ rest) ≡ None
    unfolding Body
    not_end room y text rest b = go b.value b.first
      where
        go : (xs : List A) → IsSeparated c room Is xs b.front → after end (text ++ rest) ≡ None
        go [] s = absurd s
        go (x ∷ xs) s =
            let split : text ++ rest ≡ s.0 ++ ((s.1 ++ b.back) ++ rest) = ap (λ (t : List ℕ). t ++ rest) (b.parts ∙ ap (λ (t : List ℕ). t ++ b.back) s.4 ∙ append_assoc s.0 s.1 b.back) ∙ append_assoc s.0 (s.1 ++ b.back) rest in
            ap (after end) split ∙ begins x s.0 ((s.1 ++ b.back) ++ rest) s.2

    body_is : (room : ℕ) (y : List A) (text : List ℕ) → Body room y text → IsClosed c end (suc room) Is y text
    unfolding Body
    body_is room y text b = subst (λ (z : List A). IsClosed c end (suc room) Is z text) (sym b.second.is.value) (go b.value b.first)
      where
        whole : text ≡ b.front ++ end ∷ []
        whole = b.parts ∙ ap (λ (t : List ℕ). b.front ++ t) (b.second.parts ∙ ap (λ (t : List ℕ). end ∷ t) b.second.is.nothing)

        go : (xs : List A) → IsSeparated c room Is xs b.front → IsClosed c end (suc room) Is xs text
        go [] s = absurd s
        go (x ∷ xs) s = (b.front, s, whole)

    closed_is : (room : ℕ) (y : List A) (text : List ℕ) → WhereComes end (IsGiven []) (Body room) y text → IsClosed c end (suc room) Is y text
    closed_is room y text (inl e) = subst (λ (z : List A). IsClosed c end (suc room) Is z text) (sym e.is.value) (e.parts ∙ ap (λ (t : List ℕ). end ∷ t) e.is.nothing)
    closed_is room y text (inr b) = body_is room y text b

    closed_from : (room : ℕ) (y : List A) (text : List ℕ) → IsClosed c end (suc room) Is y text → WhereComes end (IsGiven []) (Body room) y text
    unfolding Body
    closed_from room [] text e = inl (record { back = []; is = record { value = refl; nothing = refl }; parts = e })
    closed_from room (x ∷ xs) text e = inr (record {
      value = x ∷ xs;
      front = e.0;
      back = end ∷ [];
      first = e.1;
      parts = e.2;
      second = record { back = []; is = record { value = refl; nothing = refl }; parts = refl };
    })

    empty_is : (y : List A) (text : List ℕ) → IsBehind (end ∷ []) (IsGiven []) y text → IsClosed c end 0 Is y text
    empty_is y text e = subst (λ (z : List A). IsClosed c end 0 Is z text) (sym e.is.value) (e.parts ∙ ap (λ (t : List ℕ). end ∷ t) e.is.nothing)

    empty_from : (y : List A) (text : List ℕ) → IsClosed c end 0 Is y text → IsBehind (end ∷ []) (IsGiven []) y text
    empty_from [] text e = record { back = []; is = record { value = refl; nothing = refl }; parts = e }
    empty_from (x ∷ xs) text e = absurd e

    pub exact-closed : (room : ℕ) → Exact (closed c end room p) (IsClosed c end room Is) (λ _. Unit {0})
    unfolding closed
    exact-closed zero = exact_as _ (IsBehind (end ∷ []) (IsGiven [])) (IsClosed c end 0 Is) (λ _. Unit {0}) (λ _. Unit {0}) (exact-behind (end ∷ []) (give []) (IsGiven []) (λ _. Unit {0}) (exact-give [])) empty_is empty_from (λ _ h. h)
    exact-closed (suc room) = exact_as _ (WhereComes end (IsGiven []) (Body room)) (IsClosed c end (suc room) Is) (λ _. Unit {0}) (λ _. Unit {0})
        (exact-where_comes end (give []) _ (IsGiven []) (Body room) (λ _. Unit {0}) (λ _. Unit {0}) (exact-give []) (exact_body room) (λ y text rest b h. (tt, not_end room y text rest b)))
        (closed_is room) (closed_from room) (λ _ h. h)
