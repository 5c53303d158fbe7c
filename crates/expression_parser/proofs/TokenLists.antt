-- Lists, item by item, as a loop reads them: what is still to be read, behind what was found, is the whole.
use Rattle.std.proofs.Common.{◌≡◌, ℕ, zero, suc, List, [], ◌∷◌, ◌++◌, length, map, Some, None, Result, Ok, Err, refl, sym, ap, subst, ◌∙◌}
use Rattle.std.proofs.lemmas.List.{map-append}
use Rattle.xanadu_lexer.specs.declared.token.Token.{Token}
use Rattle.expression_parser.specs.declared.stop.Stop.{Stop}
use Rattle.expression_parser.specs.declared.stop.Stop.TheVariants as stop
use Rattle.xan_read.specs.Reader.{◌>>=◌}
use Rattle.xan_read.specs.Symbols.{eat, repeated_from, until_from}
use Rattle.expression_parser.specs.Reader.{Read, Reader, Table}
use Rattle.expression_parser.specs.Adds.{Adds}
use Rattle.expression_parser.specs.Code.{Fails, Reads}

-- one value more, as it is seen
pub seen : {X B : Type 0} (view : X → B) (new old : List X) (x : X) → new ≡ old ++ x ∷ [] → map view new ≡ map view old ++ view x ∷ []
seen view new old x e = ap (map view) e ∙ map-append view old (x ∷ [])

module _ {A B : Type 0} (table : Table A) (item : A → Reader B) where
  -- one item more
  pub more : (left fewer : ℕ) (found : List B) (tokens : List Token) (a : A) (rest : List Token) (x : B) (others : List Token) (new : List B) (total : Read (List B))
      → left ≡ suc fewer → eat table tokens ≡ Some (a, rest) → item a rest ≡ Ok (x, others) → new ≡ found ++ x ∷ []
      → repeated_from table item left found tokens ≡ total → repeated_from table item fewer new others ≡ total
  unfolding repeated_from
  more left fewer found tokens a rest x others new total e0 e1 e2 e3 so_far =
      let one : repeated_from table item left found tokens ≡ repeated_from table item fewer (found ++ x ∷ []) others = rw (e0, e1, e2) refl in
      ap (λ l. repeated_from table item fewer l others) e3 ∙ sym one ∙ so_far

  -- an item that was not read
  pub fails : (e : Stop) (left fewer : ℕ) (found : List B) (tokens : List Token) (a : A) (rest : List Token) (total : Read (List B))
      → left ≡ suc fewer → eat table tokens ≡ Some (a, rest) → Fails e (item a rest) → repeated_from table item left found tokens ≡ total → Fails e total
  unfolding repeated_from
  fails stop.Memory left fewer found tokens a rest total e0 e1 e2 so_far = tt
  fails (stop.Fault n) left fewer found tokens a rest total e0 e1 e2 so_far =
      let one : repeated_from table item left found tokens ≡ Err n = rw (e0, e1, e2) refl in
      sym so_far ∙ one

  -- no item more
  pub ends : (left : ℕ) (found : List B) (tokens new : List Token) (total : Read (List B)) → (eat table tokens ≡ None) × (new ≡ tokens)
      → repeated_from table item left found tokens ≡ total → total ≡ Ok (found, new)
  unfolding repeated_from
  ends zero found tokens new total e so_far = sym so_far ∙ ap (λ t. Ok (found, t)) (sym e.1)
  ends (suc left) found tokens new total e so_far =
      let one : repeated_from table item (suc left) found tokens ≡ Ok (found, tokens) = rw e.0 refl in
      sym so_far ∙ one ∙ ap (λ t. Ok (found, t)) (sym e.1)

  -- no room
  pub full : (left : ℕ) (found : List B) (tokens : List Token) (total : Read (List B)) → left ≡ 0
      → repeated_from table item left found tokens ≡ total → total ≡ Ok (found, tokens)
  unfolding repeated_from
  full left found tokens total e so_far = sym so_far ∙ ap (λ n. repeated_from table item n found tokens) e

-- a stop that is another one
pub same_stop : {B : Type 0} (stop other : Stop) (read : Read B) → other ≡ stop → Fails stop read → Fails other read
same_stop stop other read same h = subst (λ (s : Stop). Fails s read) (sym same) h

-- want of memory says nothing
pub no_memory : {B : Type 0} (error : Stop) (read : Read B) → error ≡ stop.Memory → Fails error read
no_memory error read same = same_stop stop.Memory error read same tt

-- The item that was read, and put behind the others, is made of what `inner` reads; `made` is what the reader makes of that.
module _ {A B X Y Z : Type 0} (table : Table A) (item : A → Reader B) (inner : Reader Z) (plain : X → Z) (view : Y → B) (put : X → Y) where
  pub more_put : {U : Type 0} (read : Result X Stop) (done : U) (left fewer : ℕ) (old new : List Y) (tokens : List Token) (a : A) (rest others : List Token) (total : Read (List B))
      → left ≡ suc fewer → eat table tokens ≡ Some (a, rest) → Reads plain read others (inner rest) → Adds put read old new (Ok done)
      → ((x : X) → inner rest ≡ Ok (plain x, others) → item a rest ≡ Ok (view (put x), others))
      → repeated_from table item left (map view old) tokens ≡ total → repeated_from table item fewer (map view new) others ≡ total
  more_put (Ok x) done left fewer old new tokens a rest others total e0 e1 e2 e3 one so_far =
      more table item left fewer (map view old) tokens a rest (view (put x)) others (map view new) total e0 e1 (one x e2) (seen view new old (put x) e3) so_far
  more_put (Err error) done left fewer old new tokens a rest others total e0 e1 e2 e3 one so_far = absurd e3

  pub fails_put : (read : Result X Stop) (error : Stop) (left fewer : ℕ) (old new : List Y) (tokens : List Token) (a : A) (rest others : List Token) (total : Read (List B))
      → left ≡ suc fewer → eat table tokens ≡ Some (a, rest) → Reads plain read others (inner rest) → Adds {U = Unit {0}} put read old new (Err error)
      → ((n : ℕ) → inner rest ≡ Err n → item a rest ≡ Err n)
      → repeated_from table item left (map view old) tokens ≡ total → Fails error total
  fails_put (Ok x) error left fewer old new tokens a rest others total e0 e1 e2 e3 none so_far = no_memory error total e3
  fails_put (Err stop.Memory) error left fewer old new tokens a rest others total e0 e1 e2 e3 none so_far = no_memory error total e3
  fails_put (Err (stop.Fault n)) error left fewer old new tokens a rest others total e0 e1 e2 e3 none so_far =
      same_stop (stop.Fault n) error total e3 (fails table item (stop.Fault n) left fewer (map view old) tokens a rest total e0 e1 (none n e2) so_far)

-- items up to a token of a table
module _ {A B : Type 0} (end : Table A) (item : Reader B) where
  pub until_more : (left fewer : ℕ) (found : List B) (tokens new : List Token) (x : B) (others : List Token) (now : List B) (total : Read (List B))
      → left ≡ suc fewer → (eat end tokens ≡ None) × (new ≡ tokens) → item new ≡ Ok (x, others) → now ≡ found ++ x ∷ []
      → until_from end item left found tokens ≡ total → until_from end item fewer now others ≡ total
  unfolding until_from
  until_more left fewer found tokens new x others now total e0 e1 e2 e3 so_far =
      let read : item tokens ≡ Ok (x, others) = ap item (sym e1.1) ∙ e2 in
      let one : until_from end item left found tokens ≡ until_from end item fewer (found ++ x ∷ []) others = rw (e0, e1.0, read) refl in
      ap (λ l. until_from end item fewer l others) e3 ∙ sym one ∙ so_far

  pub until_fails : (e : Stop) (left fewer : ℕ) (found : List B) (tokens new : List Token) (total : Read (List B))
      → left ≡ suc fewer → (eat end tokens ≡ None) × (new ≡ tokens) → Fails e (item new) → until_from end item left found tokens ≡ total → Fails e total
  unfolding until_from
  until_fails stop.Memory left fewer found tokens new total e0 e1 e2 so_far = tt
  until_fails (stop.Fault n) left fewer found tokens new total e0 e1 e2 so_far =
      let read : item tokens ≡ Err n = ap item (sym e1.1) ∙ e2 in
      let one : until_from end item left found tokens ≡ Err n = rw (e0, e1.0, read) refl in
      sym so_far ∙ one

  pub until_ends : (left fewer : ℕ) (found : List B) (tokens : List Token) (a : A) (rest : List Token) (total : Read (List B)) → left ≡ suc fewer → eat end tokens ≡ Some (a, rest)
      → until_from end item left found tokens ≡ total → total ≡ Ok (found, rest)
  unfolding until_from
  until_ends left fewer found tokens a rest total e0 e1 so_far =
      let one : until_from end item left found tokens ≡ Ok (found, rest) = rw (e0, e1) refl in
      sym so_far ∙ one

  pub until_full : (left : ℕ) (found : List B) (tokens : List Token) (total : Read (List B)) → left ≡ 0
      → until_from end item left found tokens ≡ total → total ≡ Err (length tokens)
  unfolding until_from
  until_full left found tokens total e so_far = sym so_far ∙ ap (λ n. until_from end item n found tokens) e

-- the same where the item that was read is put behind the others
module _ {A B X : Type 0} (end : Table A) (item : Reader B) (view : X → B) where
  pub until_put : {U : Type 0} (read : Result X Stop) (done : U) (left fewer : ℕ) (old new : List X) (tokens ahead others : List Token) (total : Read (List B))
      → left ≡ suc fewer → (eat end tokens ≡ None) × (ahead ≡ tokens) → Reads view read others (item ahead) → Adds (λ x. x) read old new (Ok done)
      → until_from end item left (map view old) tokens ≡ total → until_from end item fewer (map view new) others ≡ total
  until_put (Ok x) done left fewer old new tokens ahead others total e0 e1 e2 e3 so_far =
      until_more end item left fewer (map view old) tokens ahead (view x) others (map view new) total e0 e1 e2 (seen view new old x e3) so_far
  until_put (Err error) done left fewer old new tokens ahead others total e0 e1 e2 e3 so_far = absurd e3

  pub until_not_put : (read : Result X Stop) (error : Stop) (left fewer : ℕ) (old new : List X) (tokens ahead others : List Token) (total : Read (List B))
      → left ≡ suc fewer → (eat end tokens ≡ None) × (ahead ≡ tokens) → Reads view read others (item ahead) → Adds {U = Unit {0}} (λ x. x) read old new (Err error)
      → until_from end item left (map view old) tokens ≡ total → Fails error total
  until_not_put (Ok x) error left fewer old new tokens ahead others total e0 e1 e2 e3 so_far = no_memory error total e3
  until_not_put (Err stopped) error left fewer old new tokens ahead others total e0 e1 e2 e3 so_far =
      same_stop stopped error total e3 (until_fails end item stopped left fewer (map view old) tokens ahead total e0 e1 e2 so_far)

-- what fails, fails with what would be done behind it
pub fails_then : {A B : Type 0} (e : Stop) (r : Result A ℕ) (f : A → Result B ℕ) → Fails e r → Fails e (r >>= f)
fails_then stop.Memory r f h = tt
fails_then (stop.Fault n) r f h = ap (λ r. r >>= f) h
