-- A source has at most one core, or comes to none for one thing at most.
use Rattle.std.proofs.Common.{◌≡◌, ℕ, zero, suc, ◌-◌, ◌<◌, ◌≤◌, List, [], ◌∷◌, ◌++◌, length, take, drop, Result, Ok, Err, refl, sym, ap, ap₂, ◌∙◌, subst, arith, append_assoc}
use Rattle.xanadu_lexer.specs.declared.error.LexError.{LexError}
use Rattle.xanadu_lexer.specs.declared.error.LexError.TheVariants as lex_error
use Rattle.xanadu_lexer.specs.declared.error.LexKind.{LexKind}
use Rattle.xanadu_lexer.specs.declared.token.Token.{Token}
use Rattle.xanadu_parser.specs.Faults.{Begins, IsFault}
use Rattle.xanadu_parser.specs.Kinds.{kinds_of}
use Rattle.xanadu_parser.specs.Parsing.{first_at}
use Rattle.xanadu_parser.proofs.ParsedPrograms.{one_tree}
use Rattle.xanadu_tree.specs.Nesting.{IsTooNested}
use Rattle.xanadu_tree.specs.Plain as plain
use Rattle.xanadu_tree.specs.PlainTree as tree
use Rattle.xanadu_tree.specs.Written.{IsWritten, Parses}
use Rattle.xanadu_tree.proofs.ReadTrees.{read_is_written}
use Rattle.type_shapes.specs.declared.error.ShapeKind.{ShapeKind}
use Rattle.type_shapes.specs.Faults.{Fault}
use Rattle.scope_shapes.specs.Shape.{shape}
use Rattle.command_reports.specs.declared.refusal.Refusal.{Refusal}
use Rattle.command_reports.specs.declared.refusal.Refusal.TheVariants as refusal
use Rattle.xanadu_driver.specs.Source.{source_most, HasTokens, HasTree, IsCore, IsBytesFault, IsNestedSource, IsParseFault, IsShapeFault}

-- it comes to no core for this
abbrev pub HasNoCore : List ℕ → Refusal → Type 0
HasNoCore bytes refusal.Length = source_most < length bytes
HasNoCore bytes (refusal.Bytes at) = IsBytesFault bytes at
HasNoCore bytes refusal.Nesting = IsNestedSource bytes
HasNoCore bytes (refusal.Parse at) = IsParseFault bytes at
HasNoCore bytes (refusal.Shape kind at) = IsShapeFault bytes kind at
HasNoCore bytes _ = ⊥

-- ---- trees

pub tree_is_written : (bytes : List ℕ) (written : tree.Tree) → HasTree bytes written → IsWritten written
tree_is_written bytes written has = read_is_written bytes written (record { tokens = has.tokens; lexed = has.has.lexed; parsed = has.parses })

-- ---- tokens

abbrev of_tokens : List Token → Result (List Token) LexError
of_tokens tokens = Ok tokens

abbrev at_fault : ℕ → LexKind → Result (List Token) LexError
at_fault at kind = Err (lex_error.Fault at kind)

same_tokens : (a b : List Token) → of_tokens a ≡ of_tokens b → a ≡ b
same_tokens a b e = cc

same_fault : (a b : ℕ) (k l : LexKind) → at_fault a k ≡ at_fault b l → a ≡ b
same_fault a b k l e = cc

one_tokens : (bytes : List ℕ) (a b : List Token) → HasTokens bytes a → HasTokens bytes b → a ≡ b
one_tokens bytes a b x y = same_tokens a b (sym x.lexed ∙ y.lexed)

no_tokens : (bytes : List ℕ) (at : ℕ) (tokens : List Token) → IsBytesFault bytes at → HasTokens bytes tokens → ⊥
no_tokens bytes at tokens x y = never at x.kind tokens (sym x.fault ∙ y.lexed)
  where
    never : (at : ℕ) (kind : LexKind) (tokens : List Token) → at_fault at kind ≡ of_tokens tokens → ⊥
    never at kind tokens e = cc

-- ---- where tokens stop being the beginning of a program

begins_front : (a b : List Token) → Begins (a ++ b) → Begins a
begins_front a b h = record {
  tree = h.tree;
  end = h.end;
  ending = b ++ h.ending;
  parses = subst (λ (l : List Token). Parses l h.end h.tree) (append_assoc a b h.ending) h.parses;
}

taken_none : (n : ℕ) → ◌≡◌ {A = List Token} (take n []) []
taken_none zero = refl
taken_none (suc n) = refl

dropped_none : (n : ℕ) → ◌≡◌ {A = List Token} (drop n []) []
dropped_none zero = refl
dropped_none (suc n) = refl

taken_more : (tokens : List Token) (n m : ℕ) → n ≤ m → take m tokens ≡ take n tokens ++ take (m - n) (drop n tokens)
taken_more [] n m le =
    taken_none m ∙ sym (ap₂ (λ (a b : List Token). a ++ b) (taken_none n) (ap (take (m - n)) (dropped_none n) ∙ taken_none (m - n)))
taken_more (t ∷ ts) zero m le = let e : m ≡ m - 0 = omega arith in ap (λ (k : ℕ). take k (t ∷ ts)) e
taken_more (t ∷ ts) (suc n) zero le = absurd (omega (arith, le))
taken_more (t ∷ ts) (suc n) (suc m) le =
    let e : suc m - suc n ≡ m - n = omega arith in rw e (ap (λ (l : List Token). t ∷ l) (taken_more ts n m (omega (arith, le))))

begins_less : (tokens : List Token) (n m : ℕ) → n ≤ m → Begins (take m tokens) → Begins (take n tokens)
begins_less tokens n m le h = begins_front (take n tokens) (take (m - n) (drop n tokens)) (subst Begins (taken_more tokens n m le) h)

not_less : (tokens : List Token) (end a b : ℕ) (x : IsFault tokens end a) (y : IsFault tokens end b) → x.good < y.good → ⊥
not_less tokens end a b x y less = x.no_more (omega (arith, less, y.within)) (begins_less tokens (suc x.good) y.good (omega (arith, less)) y.begins)

same_good : (a b : ℕ) → (a < b → ⊥) → (b < a → ⊥) → a ≡ b
same_good a b x y = grind arith

one_fault : (tokens : List Token) (end a b : ℕ) → IsFault tokens end a → IsFault tokens end b → a ≡ b
one_fault tokens end a b x y =
    let same = same_good x.good y.good (not_less tokens end a b x y) (not_less tokens end b a y x) in
    x.place ∙ ap (λ (n : ℕ). first_at (drop n tokens) end) same ∙ sym y.place

-- ---- trees and cores

abbrev of_core : plain.Program → Result plain.Program Fault
of_core core = Ok core

abbrev of_shape : ℕ → ShapeKind → Result plain.Program Fault
of_shape at kind = Err (record { at = at; kind = kind })

kind_or : ShapeKind → Result plain.Program Fault → ShapeKind
kind_or d (Ok core) = d
kind_or d (Err fault) = fault.kind

place_or : ℕ → Result plain.Program Fault → ℕ
place_or d (Ok core) = d
place_or d (Err fault) = fault.at

same_shape : (k l : ShapeKind) (a b : ℕ) → of_shape a k ≡ of_shape b l → refusal.Shape k a ≡ refusal.Shape l b
unfolding kind_or place_or
same_shape k l a b e = ap₂ refusal.Shape (ap (kind_or k) e) (ap (place_or a) e)

module _ (bytes : List ℕ) where
  one_written : (a b : tree.Tree) → HasTree bytes a → HasTree bytes b → a ≡ b
  one_written a b x y =
      one_tree y.tokens (length bytes) a b (subst (λ (l : List Token). Parses l (length bytes) a) (one_tokens bytes x.tokens y.tokens x.has y.has) x.parses) y.parses

  same_core : (a b : plain.Program) → of_core a ≡ of_core b → a ≡ b
  same_core a b e = cc

  pub one_core : (a b : plain.Program) → IsCore bytes a → IsCore bytes b → a ≡ b
  one_core a b x y =
      same_core a b (sym x.shaped ∙ ap (λ (t : tree.Tree). shape t (length bytes)) (one_written x.written y.written x.has y.has) ∙ y.shaped)

  no_core : (kind : ShapeKind) (at : ℕ) (core : plain.Program) → IsShapeFault bytes kind at → IsCore bytes core → ⊥
  no_core kind at core x y =
      never at kind core (sym x.fault ∙ ap (λ (t : tree.Tree). shape t (length bytes)) (one_written x.written y.written x.has y.has) ∙ y.shaped)
    where
      never : (at : ℕ) (kind : ShapeKind) (core : plain.Program) → of_shape at kind ≡ of_core core → ⊥
      never at kind core e = cc

  no_written : (at : ℕ) (written : tree.Tree) → IsParseFault bytes at → HasTree bytes written → ⊥
  no_written at written x y =
      x.fault.no_tree written (subst (λ (l : List Token). Parses l (length bytes) written) (one_tokens bytes y.tokens x.tokens y.has x.has) y.parses)

  too_long : source_most < length bytes → length bytes ≤ source_most → ⊥
  too_long x y = absurd (omega (arith, x, y))

  not_nested : IsNestedSource bytes → (tokens : List Token) → HasTokens bytes tokens → (IsTooNested (kinds_of tokens) → ⊥) → ⊥
  not_nested x tokens has shallow = shallow (subst (λ (l : List Token). IsTooNested (kinds_of l)) (one_tokens bytes x.tokens tokens x.has has) x.deep)

  one_place : (a b : ℕ) → IsParseFault bytes a → IsParseFault bytes b → a ≡ b
  one_place a b x y =
      one_fault y.tokens (length bytes) a b (subst (λ (l : List Token). IsFault l (length bytes) a) (one_tokens bytes x.tokens y.tokens x.has y.has) x.fault) y.fault

  one_shape : (k l : ShapeKind) (a b : ℕ) → IsShapeFault bytes k a → IsShapeFault bytes l b → refusal.Shape k a ≡ refusal.Shape l b
  one_shape k l a b x y =
      same_shape k l a b (sym x.fault ∙ ap (λ (t : tree.Tree). shape t (length bytes)) (one_written x.written y.written x.has y.has) ∙ y.fault)

  -- a source comes to no core for one thing at most
  pub one_refusal : (r s : Refusal) → HasNoCore bytes r → HasNoCore bytes s → r ≡ s
  one_refusal refusal.Length refusal.Length x y = refl
  one_refusal refusal.Length (refusal.Bytes at') x y = absurd (too_long x (y.short))
  one_refusal refusal.Length refusal.Nesting x y = absurd (too_long x (y.has.short))
  one_refusal refusal.Length (refusal.Parse at') x y = absurd (too_long x (y.has.short))
  one_refusal refusal.Length (refusal.Shape kind' at') x y = absurd (too_long x (y.has.has.short))
  one_refusal refusal.Length (refusal.Past kind') x y = absurd y
  one_refusal refusal.Length (refusal.Goal number' at' row' answer') x y = absurd y
  one_refusal (refusal.Bytes at) refusal.Length x y = absurd (too_long y (x.short))
  one_refusal (refusal.Bytes at) (refusal.Bytes at') x y = ap refusal.Bytes (same_fault at at' x.kind y.kind (sym x.fault ∙ y.fault))
  one_refusal (refusal.Bytes at) refusal.Nesting x y = absurd (no_tokens bytes at y.tokens x y.has)
  one_refusal (refusal.Bytes at) (refusal.Parse at') x y = absurd (no_tokens bytes at y.tokens x y.has)
  one_refusal (refusal.Bytes at) (refusal.Shape kind' at') x y = absurd (no_tokens bytes at y.has.tokens x y.has.has)
  one_refusal (refusal.Bytes at) (refusal.Past kind') x y = absurd y
  one_refusal (refusal.Bytes at) (refusal.Goal number' at' row' answer') x y = absurd y
  one_refusal refusal.Nesting refusal.Length x y = absurd (too_long y (x.has.short))
  one_refusal refusal.Nesting (refusal.Bytes at') x y = absurd (no_tokens bytes at' x.tokens y x.has)
  one_refusal refusal.Nesting refusal.Nesting x y = refl
  one_refusal refusal.Nesting (refusal.Parse at') x y = absurd (not_nested x y.tokens y.has y.shallow)
  one_refusal refusal.Nesting (refusal.Shape kind' at') x y = absurd (not_nested x y.has.tokens y.has.has y.has.shallow)
  one_refusal refusal.Nesting (refusal.Past kind') x y = absurd y
  one_refusal refusal.Nesting (refusal.Goal number' at' row' answer') x y = absurd y
  one_refusal (refusal.Parse at) refusal.Length x y = absurd (too_long y (x.has.short))
  one_refusal (refusal.Parse at) (refusal.Bytes at') x y = absurd (no_tokens bytes at' x.tokens y x.has)
  one_refusal (refusal.Parse at) refusal.Nesting x y = absurd (not_nested y x.tokens x.has x.shallow)
  one_refusal (refusal.Parse at) (refusal.Parse at') x y = ap refusal.Parse (one_place at at' x y)
  one_refusal (refusal.Parse at) (refusal.Shape kind' at') x y = absurd (no_written at y.written x y.has)
  one_refusal (refusal.Parse at) (refusal.Past kind') x y = absurd y
  one_refusal (refusal.Parse at) (refusal.Goal number' at' row' answer') x y = absurd y
  one_refusal (refusal.Shape kind at) refusal.Length x y = absurd (too_long y (x.has.has.short))
  one_refusal (refusal.Shape kind at) (refusal.Bytes at') x y = absurd (no_tokens bytes at' x.has.tokens y x.has.has)
  one_refusal (refusal.Shape kind at) refusal.Nesting x y = absurd (not_nested y x.has.tokens x.has.has x.has.shallow)
  one_refusal (refusal.Shape kind at) (refusal.Parse at') x y = absurd (no_written at' x.written y x.has)
  one_refusal (refusal.Shape kind at) (refusal.Shape kind' at') x y = one_shape kind kind' at at' x y
  one_refusal (refusal.Shape kind at) (refusal.Past kind') x y = absurd y
  one_refusal (refusal.Shape kind at) (refusal.Goal number' at' row' answer') x y = absurd y
  one_refusal (refusal.Past kind) s x y = absurd x
  one_refusal (refusal.Goal number at row answer) s x y = absurd x

  -- and then it has none
  pub not_refused : (r : Refusal) (core : plain.Program) → HasNoCore bytes r → IsCore bytes core → ⊥
  not_refused refusal.Length core x c = too_long x c.has.has.short
  not_refused (refusal.Bytes at) core x c = no_tokens bytes at c.has.tokens x c.has.has
  not_refused refusal.Nesting core x c = not_nested x c.has.tokens c.has.has c.has.shallow
  not_refused (refusal.Parse at) core x c = no_written at c.written x c.has
  not_refused (refusal.Shape kind at) core x c = no_core kind at core x c
  not_refused (refusal.Past kind) core x c = absurd x
  not_refused (refusal.Goal number at row answer) core x c = absurd x
