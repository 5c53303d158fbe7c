-- When a word of the code is the value of the source: a number is itself, a truth value is 0 or 1 in both, and a block is named by its number in the source and
-- by its address in the code. An address is a sum of the sizes of the blocks before it, and stays as blocks become more.
use Rattle.std.proofs.Common.{◌≡◌, ◌∙◌, ℕ, zero, suc, ◌+◌, ◌<◌, ℤ, pos, List, [], ◌∷◌, ◌++◌, append_assoc, append-nil, length, length-append, Bool as Flag, refl, sym, ap, arith}
use Rattle.std.specs.List.{AllZip}
use Rattle.operation_rules.specs.Effects.{truth_word}
use Rattle.typed_core.specs.SourceValues.{Tag, Number, Truth, Array, Tuple, Value, number}

-- the address of a block among blocks of so many cells each
unfoldable pub address : (sizes : List ℕ) → (block : ℕ) → ℕ
address [] block = 0
address (size ∷ sizes) zero = 0
address (size ∷ sizes) (suc block) = size + 2 + address sizes block

pub record IsTruth (v w : ℤ) : Type 0 where
  pub truth : Flag
  pub is : v ≡ truth_word truth
  pub same : w ≡ truth_word truth

pub record IsAddress (sizes : List ℕ) (v w : ℤ) : Type 0 where
  pub block : ℕ
  pub below : block < length sizes
  pub is : v ≡ pos block
  pub at : w ≡ pos (address sizes block)

abbrev pub FitsTag : List ℕ → Tag → ℤ → ℤ → Type 0
FitsTag sizes Number v w = w ≡ v
FitsTag sizes Truth v w = IsTruth v w
FitsTag sizes Array v w = IsAddress sizes v w
FitsTag sizes Tuple v w = IsAddress sizes v w

pub record Fits (sizes : List ℕ) (v : Value) (w : ℤ) : Type 0 where
  pub is : FitsTag sizes v.tag v.word w

-- ---- blocks become more

pub record Extends (old new : List ℕ) : Type 0 where
  pub more : List ℕ
  pub is : new ≡ old ++ more

pub extends_same : (sizes : List ℕ) → Extends sizes sizes
extends_same sizes = record { more = []; is = sym (append-nil sizes) }

pub extends_then : (a b c : List ℕ) → Extends a b → Extends b c → Extends a c
extends_then a b c h k = record { more = h.more ++ k.more; is = k.is ∙ ap (λ x. x ++ k.more) h.is ∙ append_assoc a h.more k.more }

address_front : (sizes more : List ℕ) (block : ℕ) → block < length sizes → address (sizes ++ more) block ≡ address sizes block
unfolding address
address_front [] more block h = absurd (omega (arith, h))
address_front (n ∷ ns) more zero h = refl
address_front (n ∷ ns) more (suc block) h = ap (λ k. n + 2 + k) (address_front ns more block (omega (arith, h)))

pub extends_address : (old new : List ℕ) (block : ℕ) → Extends old new → block < length old → address new block ≡ address old block
extends_address old new block h lt = ap (λ ns. address ns block) h.is ∙ address_front old h.more block lt

pub extends_below : (old new : List ℕ) (block : ℕ) → Extends old new → block < length old → block < length new
extends_below old new block h lt = omega (arith, ap length h.is, length-append old h.more, lt)

address_more : (old new : List ℕ) (v w : ℤ) → Extends old new → IsAddress old v w → IsAddress new v w
address_more old new v w h a = record {
  block = a.block;
  below = extends_below old new a.block h a.below;
  is = a.is;
  at = a.at ∙ ap pos (sym (extends_address old new a.block h a.below));
}

tag_more : (old new : List ℕ) (tag : Tag) (v w : ℤ) → Extends old new → FitsTag old tag v w → FitsTag new tag v w
tag_more old new Number v w h f = f
tag_more old new Truth v w h f = f
tag_more old new Array v w h f = address_more old new v w h f
tag_more old new Tuple v w h f = address_more old new v w h f

pub fits_more : (old new : List ℕ) (v : Value) (w : ℤ) → Extends old new → Fits old v w → Fits new v w
fits_more old new v w h f = record { is = tag_more old new v.tag v.word w h f.is }

pub all_fit_more : (old new : List ℕ) (vs : List Value) (ws : List ℤ) → Extends old new → AllZip (Fits old) vs ws → AllZip (Fits new) vs ws
all_fit_more old new [] [] h f = tt
all_fit_more old new [] (w ∷ ws) h f = absurd f
all_fit_more old new (v ∷ vs) [] h f = absurd f
all_fit_more old new (v ∷ vs) (w ∷ ws) h f = (fits_more old new v w h f.0, all_fit_more old new vs ws h f.1)

pub all_fit_length : (sizes : List ℕ) (vs : List Value) (ws : List ℤ) → AllZip (Fits sizes) vs ws → length ws ≡ length vs
all_fit_length sizes [] [] f = refl
all_fit_length sizes [] (w ∷ ws) f = absurd f
all_fit_length sizes (v ∷ vs) [] f = absurd f
all_fit_length sizes (v ∷ vs) (w ∷ ws) f = ap suc (all_fit_length sizes vs ws f.1)

-- ---- values of a tag

pub number_fits : (sizes : List ℕ) (n : ℤ) → Fits sizes (number n) n
number_fits sizes n = record { is = refl }

pub truth_fits : (sizes : List ℕ) (b : Flag) → Fits sizes (record { tag = Truth; word = truth_word b }) (truth_word b)
truth_fits sizes b = record { is = record { truth = b; is = refl; same = refl } }
