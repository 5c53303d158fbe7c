-- Declarations, one by one, as the loop reads them.
use Rattle.std.proofs.Common.{◌≡◌, ℕ, zero, suc, ◌<◌, List, [], ◌∷◌, ◌++◌, length, map, Result, Ok, Err, refl, sym, ap, ◌∙◌, arith}
use Rattle.xanadu_lexer.specs.declared.token.Token.{Token}
use Rattle.xanadu_tree.specs.PlainTree as plain
use Rattle.expression_parser.specs.declared.stop.Stop.{Stop}
use Rattle.expression_parser.specs.declared.stop.Stop.TheVariants as stop
use Rattle.expression_parser.specs.Reader.{Read}
use Rattle.expression_parser.specs.Adds.{Adds}
use Rattle.expression_parser.specs.Code.{Fails, Reads}
use Rattle.expression_parser.proofs.TokenLists.{seen, same_stop, no_memory}
use Rattle.xanadu_parser.specs.Declarations.{declaration, declarations_from}

module _ (room : ℕ) where
  pub one_declaration : (left fewer : ℕ) (found : List plain.Declaration) (tokens : List Token) (x : plain.Declaration) (others : List Token) (now : List plain.Declaration) (total : Read (List plain.Declaration))
      → left ≡ suc fewer → 0 < length tokens → declaration room tokens ≡ Ok (x, others) → now ≡ found ++ x ∷ []
      → declarations_from room left found tokens ≡ total → declarations_from room fewer now others ≡ total
  unfolding declarations_from
  one_declaration left fewer found [] x others now total e0 some e1 e2 so_far = absurd (omega arith)
  one_declaration left fewer found (token ∷ tokens) x others now total e0 some e1 e2 so_far =
      let one : declarations_from room left found (token ∷ tokens) ≡ declarations_from room fewer (found ++ x ∷ []) others = rw (e0, e1) refl in
      ap (λ l. declarations_from room fewer l others) e2 ∙ sym one ∙ so_far

  pub no_declaration : (e : Stop) (left fewer : ℕ) (found : List plain.Declaration) (tokens : List Token) (total : Read (List plain.Declaration))
      → left ≡ suc fewer → 0 < length tokens → Fails e (declaration room tokens) → declarations_from room left found tokens ≡ total → Fails e total
  unfolding declarations_from
  no_declaration e left fewer found [] total e0 some h so_far = absurd (omega arith)
  no_declaration stop.Memory left fewer found (token ∷ tokens) total e0 some h so_far = tt
  no_declaration (stop.Fault n) left fewer found (token ∷ tokens) total e0 some h so_far =
      let one : declarations_from room left found (token ∷ tokens) ≡ Err n = rw (e0, h) refl in
      sym so_far ∙ one

  -- the same where the declaration that was read is put behind the others
  module _ {X : Type 0} (view : X → plain.Declaration) where
    pub declaration_put : {U : Type 0} (read : Result X Stop) (done : U) (left fewer : ℕ) (old new : List X) (tokens others : List Token) (total : Read (List plain.Declaration))
        → left ≡ suc fewer → 0 < length tokens → Reads view read others (declaration room tokens) → Adds (λ x. x) read old new (Ok done)
        → declarations_from room left (map view old) tokens ≡ total → declarations_from room fewer (map view new) others ≡ total
    declaration_put (Ok x) done left fewer old new tokens others total e0 some e1 e2 so_far =
        one_declaration left fewer (map view old) tokens (view x) others (map view new) total e0 some e1 (seen view new old x e2) so_far
    declaration_put (Err error) done left fewer old new tokens others total e0 some e1 e2 so_far = absurd e2

    pub declaration_not_put : (read : Result X Stop) (error : Stop) (left fewer : ℕ) (old new : List X) (tokens others : List Token) (total : Read (List plain.Declaration))
        → left ≡ suc fewer → 0 < length tokens → Reads view read others (declaration room tokens) → Adds {U = Unit {0}} (λ x. x) read old new (Err error)
        → declarations_from room left (map view old) tokens ≡ total → Fails error total
    declaration_not_put (Ok x) error left fewer old new tokens others total e0 some e1 e2 so_far = no_memory error total e2
    declaration_not_put (Err stopped) error left fewer old new tokens others total e0 some e1 e2 so_far =
        same_stop stopped error total e2 (no_declaration stopped left fewer (map view old) tokens total e0 some e1 so_far)

  pub all_declared : (left : ℕ) (found : List plain.Declaration) (tokens : List Token) (total : Read (List plain.Declaration)) → length tokens ≡ 0
      → declarations_from room left found tokens ≡ total → total ≡ Ok (found, tokens)
  unfolding declarations_from
  all_declared left found [] total none so_far = sym so_far
  all_declared left found (token ∷ tokens) total none so_far = absurd (omega arith)

  pub none_left : (left : ℕ) (found : List plain.Declaration) (tokens : List Token) (total : Read (List plain.Declaration)) → left ≡ 0
      → declarations_from room left found tokens ≡ total → total ≡ Ok (found, tokens)
  unfolding declarations_from
  none_left left found [] total none so_far = sym so_far
  none_left zero found (token ∷ tokens) total none so_far = sym so_far
  none_left (suc left) found (token ∷ tokens) total none so_far = absurd (omega arith)
