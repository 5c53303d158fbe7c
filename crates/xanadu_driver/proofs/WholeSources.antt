-- A source whose goals are proved, and its text.
use Rattle.std.proofs.Common.{◌≡◌, ℕ, List, Option, Some, None, Result, Ok, Err, IfOk, sym, ap, ◌∙◌, subst, arith}
use Rattle.std.specs.Prelude.{Vec}
use Rattle.std.specs.declared.alloc.Global.{Global}
use Rattle.xan_io.specs.declared.files.FileRead.{FileRead}
use Rattle.xan_io.specs.declared.files.FileRead.TheVariants.{Whole}
use Rattle.xan_io.specs.Contents.{ReadsAs, replaced}
use Rattle.goal_table.specs.Answers.{AllAreProved, AreShort}
use Rattle.program_builder.specs.NumberedLines.{AreNumberable}
use Rattle.typed_core.specs.Proving.{ElaboratedParts, ProvedParts}
use Rattle.xanadu_tree.specs.PlainOf.{plain_core}
use Rattle.command_reports.specs.declared.refusal.SourceError.{SourceError}
use Rattle.xanadu_driver.specs.declared.translate.Text.{Text}
use Rattle.xanadu_driver.specs.Correct.{IsTextOf, Translates}
use Rattle.xanadu_driver.specs.Source.{IsElaborated}

-- a text can number the lines that a buffer holds
pub short_numberable : (proved : ProvedParts) → AreShort proved.lines → AreNumberable proved.lines
short_numberable proved short k d within = let few = short k d within in omega (arith, few)

-- the text of an elaborated program whose goals are all proved
pub whole_text : (source : List ℕ) (base : ElaboratedParts) (proved : ProvedParts) (printed : Result Text SourceError)
    → IsElaborated source (plain_core base.core) base.made → AllAreProved base proved
    → IfOk printed (λ text. IsTextOf (plain_core proved.base.core) proved.base.made text.bytes.items text.counts)
    → IfOk printed (λ text. Translates source text.bytes.items text.counts)
whole_text source base proved (Ok text) has all is = record {
  core = plain_core base.core;
  made = base.made;
  proved = record { has = has; proved = all.none };
  is = subst (λ (p : ProvedParts). IsTextOf (plain_core p.base.core) p.base.made text.bytes.items text.counts) all.is is;
}
whole_text source base proved (Err stop) has all is = tt

-- ---- what was read

or_bytes : List ℕ → Option (List ℕ) → List ℕ
or_bytes d None = d
or_bytes d (Some bytes) = bytes

-- where contents are told, the whole that was read is the content
pub whole_is : (content : Option (List ℕ)) (told bytes : List ℕ) → content ≡ Some told → content ≡ replaced content bytes → told ≡ bytes
unfolding or_bytes
whole_is content told bytes here whole = ap (or_bytes told) (sym here ∙ whole ∙ ap (λ c. replaced c bytes) here)

pub whole_read : (content : Option (List ℕ)) (most : ℕ) (read : FileRead) (bytes : Vec ℕ Global) → read ≡ Whole bytes → ReadsAs content most read
    → content ≡ replaced content bytes.items
whole_read content most read bytes is reads = let r = subst (ReadsAs content most) is reads in r.1
