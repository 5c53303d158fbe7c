-- What is read as a program is spelled so, and what is spelled so is read.
use Rattle.std.proofs.Common.{◌≡◌, ℕ, ◌≤◌, IsTrue, List, [], ◌∷◌, ◌++◌, length, None, codes, refl, sym, ap, subst, ◌∙◌, arith}
use Rattle.std.specs.List.{All}
use Rattle.std.proofs.lemmas.List.Elements.{All-nil, All-cons, All-head, All-tail}
use Rattle.xan_read.specs.Reader.{Reader, Exact, ReadsWhole}
use Rattle.xan_read.specs.Combinators.{after}
use Rattle.xan_read.specs.Lists.{AreBehind, IsRepeated, repeated, Ends}
use Rattle.xan_read.specs.Names.{name, IsName, NoName}
use Rattle.xan_read.specs.Spelled.{Any, Spelled, Both}
use Rattle.xan_read.proofs.ReaderLaws.{exact_as, after_other, reads_whole}
use Rattle.xan_read.proofs.ListLaws.{exact-repeated}
use Rattle.xan_read.proofs.NameLaws.{exact-name}
use Rattle.xan_read.proofs.SpelledLaws.{spelled_behind}
use Rattle.state_types.specs.declared.closed.Packed.{Packed}
use Rattle.state_types.specs.declared.closed.Signature.{Signature}
use Rattle.dtal_code.specs.declared.limits.TheConstants.{LAST_NUMBER, MOST_TYPES}
use Rattle.dtal_code.specs.declared.program.Block.{Block}
use Rattle.dtal_code.specs.declared.program.Function.{Function}
use Rattle.dtal_code.specs.declared.program.DtalProgram.{DtalProgram}
use Rattle.dtal_code.specs.Grammar.{IsTypeIn, IsSignature, IsFunction, InGrammar, Spells}
use Rattle.dtal_code.specs.Lower.{keywords, is_lower}
use Rattle.dtal_code.specs.Spelling.{each, quantifier_text, kind_text, types_text, type_line as type_line_text, signature_text, function_text, program_text}
use Rattle.dtal_text.specs.ProgramReading.{function_of, function, blocks, program_of, program}
use Rattle.dtal_text.specs.TypeReading.{signature, type_line}
use Rattle.dtal_text.proofs.BlockTexts.{BlocksFit, function_blocks, spelled-blocks}
use Rattle.dtal_text.proofs.LowerNames.{lower_from, lower_to}
use Rattle.dtal_text.proofs.SpelledValues.{joined_by, spelled_two, spelled_made}
use Rattle.dtal_text.proofs.SpelledTypes.{Anything, IsTypeLine, exact-type_line, spelled-signature}

-- ---- functions

abbrev IsLower : List ℕ → Type 0
IsLower n = IsTrue (is_lower n)

abbrev itself : List ℕ → List ℕ
itself n = n

spelled-name : Exact (name keywords) (Spelled Any IsLower itself) NoName
spelled-name = exact_as _ (IsName keywords) _ NoName NoName (exact-name keywords)
    (λ n text i. record { known = tt; fits = lower_from n text i; is = sym i.is })
    (λ n text s. subst (IsName keywords n) (sym s.is) (lower_to n s.fits)) (λ _ h. h)

abbrev FunctionParts : List ℕ × (Signature × List Block) → Type 0
FunctionParts = Both IsLower (Both IsSignature BlocksFit)

abbrev parts_text : List ℕ × (Signature × List Block) → List ℕ
parts_text = joined_by itself (codes " ") (joined_by signature_text (codes "\n") function_blocks)

-- behind the first bytes
abbrev function_tail : Function → List ℕ
function_tail fun = parts_text (fun.name, (fun.sig, fun.blocks))

spelled-function : Exact function (Spelled Any IsFunction (λ fun. codes "un " ++ function_tail fun)) Anything
unfolding function
spelled-function = spelled_behind (codes "un ") _ Any IsFunction function_tail Anything
    (spelled_made function_of (λ fun. (fun.name, (fun.sig, fun.blocks))) _ FunctionParts IsFunction parts_text function_tail Anything
    (spelled_two (name keywords) (codes " ") _ IsLower (Both IsSignature BlocksFit) itself (joined_by signature_text (codes "\n") function_blocks) NoName Anything spelled-name
    (spelled_two signature (codes "\n") blocks IsSignature BlocksFit signature_text function_blocks Anything Anything spelled-signature spelled-blocks (λ _ _ _ _. tt)) (λ b rest _ _. refl))
    (λ x h. record { name = h.0; sig = h.1.0; blocks = h.1.1.0; few = h.1.1.1 })
    (λ fun h. (h.name, (h.sig, (h.blocks, h.few)))) (λ fun _. refl) (λ x. refl))

-- ---- lists of lines, each behind its first byte

module _ {A : Type 0} (c room : ℕ) (item : Reader A) (Fits : A → Type 0) (text tail : A → List ℕ)
    (exact : Exact item (Spelled Any Fits tail) Anything) (whole : (x : A) → c ∷ tail x ≡ text x) where
  abbrev IsTail : A → List ℕ → Type 0
  IsTail = Spelled Any Fits tail

  abbrev FewFit : List A → Type 0
  FewFit xs = (length xs ≤ room) × All Fits xs

  each_from : (xs : List A) (t : List ℕ) → AreBehind c IsTail xs t → All Fits xs × (t ≡ each text xs)
  unfolding each
  each_from [] t i = (All-nil Fits, i)
  each_from (x ∷ xs) t i =
      let others = each_from xs i.1 i.3 in (
        All-cons Fits x xs i.2.fits others.0,
        i.4 ∙ ap (λ (u : List ℕ). c ∷ (u ++ i.1)) i.2.is ∙ ap (λ (u : List ℕ). u ++ i.1) (whole x) ∙ ap (λ (u : List ℕ). text x ++ u) others.1,
      )

  each_to : (xs : List A) (t : List ℕ) → All Fits xs → t ≡ each text xs → AreBehind c IsTail xs t
  unfolding each
  each_to [] t h e = e
  each_to (x ∷ xs) t h e = (
    tail x,
    each text xs,
    record { known = tt; fits = All-head Fits x xs h; is = refl },
    each_to xs (each text xs) (All-tail Fits x xs h) refl,
    e ∙ ap (λ (u : List ℕ). u ++ each text xs) (sym (whole x)),
  )

  spelled-each : Exact (repeated c room item) (Spelled Any FewFit (each text)) (Ends Anything c)
  spelled-each = exact_as _ (IsRepeated c room IsTail) _ (Ends Anything c) (Ends Anything c) (exact-repeated c item IsTail Anything exact (λ _. tt) room)
      (λ xs t i. (let m = each_from xs t i.are in record { known = tt; fits = (i.few, m.0); is = m.1 }))
      (λ xs t s. record { few = s.fits.0; are = each_to xs t s.fits.1 s.is }) (λ _ h. h)

-- ---- type lines

abbrev type_tail : Packed → List ℕ
type_tail packed = codes "ype " ++ (quantifier_text packed.vars packed.rows ++ (kind_text packed.tuple ++ (types_text packed.parts ++ codes "\n")))

spelled-type_line : Exact type_line (Spelled Any IsTypeIn type_tail) Anything
spelled-type_line = exact_as _ IsTypeLine _ Anything Anything exact-type_line
    (λ packed text l. record { known = tt; fits = l.fits; is = tail_is 116 text (type_tail packed) l.is })
    (λ packed text s. record { fits = s.fits; is = ap (λ (t : List ℕ). 116 ∷ t) s.is }) (λ _ _. tt)
  where
    tail_is : (c : ℕ) (a b : List ℕ) → c ∷ a ≡ c ∷ b → a ≡ b
    tail_is c a b e = cc

-- ---- programs

-- no type line and no function goes on
record AtEnd (rest : List ℕ) : Type 0 where
  no_type : after 116 rest ≡ None
  no_function : after 102 rest ≡ None

abbrev FewTypes : List Packed → Type 0
FewTypes types = (length types ≤ MOST_TYPES) × All IsTypeIn types

abbrev FewFunctions : List Function → Type 0
FewFunctions funs = (length funs ≤ LAST_NUMBER) × All IsFunction funs

spelled-types : Exact (repeated 116 MOST_TYPES type_line) (Spelled Any FewTypes (each type_line_text)) (Ends Anything 116)
spelled-types = spelled-each 116 MOST_TYPES type_line IsTypeIn type_line_text type_tail spelled-type_line (λ packed. refl)

spelled-functions : Exact (repeated 102 LAST_NUMBER function) (Spelled Any FewFunctions (each function_text)) AtEnd
spelled-functions = exact_as _ (Spelled Any FewFunctions (each function_text)) _ (Ends Anything 102) AtEnd
    (spelled-each 102 LAST_NUMBER function IsFunction function_text (λ fun. codes "un " ++ function_tail fun) spelled-function (λ fun. refl))
    (λ _ _ s. s) (λ _ _ s. s) (λ rest h. record { item = tt; list = h.no_function })

-- functions begin with no type line
functions_stop : (funs : List Function) (rest : List ℕ) → AtEnd rest → Ends Anything 116 (each function_text funs ++ rest)
unfolding each
functions_stop [] rest h = record { item = tt; list = h.no_type }
functions_stop (fun ∷ funs) rest h = record { item = tt; list = after_other 116 102 _ (λ e. omega arith) }

abbrev all_text : List Packed × List Function → List ℕ
all_text = joined_by (each type_line_text) [] (each function_text)

spelled-program : Exact program (Spelled Any InGrammar program_text) AtEnd
unfolding program
spelled-program = spelled_behind (codes "dtal 1\n") _ Any InGrammar (λ p. all_text (p.types, p.funs)) AtEnd
    (spelled_made program_of (λ p. (p.types, p.funs)) _ (Both FewTypes FewFunctions) InGrammar all_text (λ p. all_text (p.types, p.funs)) AtEnd
    (spelled_two (repeated 116 MOST_TYPES type_line) [] (repeated 102 LAST_NUMBER function) FewTypes FewFunctions (each type_line_text) (each function_text) (Ends Anything 116) AtEnd
    spelled-types spelled-functions (λ funs rest _ h. functions_stop funs rest h))
    (λ x h. record { few_types = h.0.0; types = h.0.1; few_funs = h.1.0; funs = h.1.1 })
    (λ p h. ((h.few_types, h.types), (h.few_funs, h.funs))) (λ p _. refl) (λ x. refl))

abbrev IsSpelled : DtalProgram → List ℕ → Type 0
IsSpelled p bytes = Spells bytes p

exact-program : Exact program IsSpelled AtEnd
exact-program = exact_as _ (Spelled Any InGrammar program_text) _ AtEnd AtEnd spelled-program
    (λ p text s. record { text = s.is; grammar = s.fits }) (λ p text s. record { known = tt; fits = s.grammar; is = s.text }) (λ _ h. h)

pub program_is_read : ReadsWhole program IsSpelled
unfolding after
program_is_read = reads_whole program IsSpelled AtEnd exact-program (record { no_type = refl; no_function = refl })
