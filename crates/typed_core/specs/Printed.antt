-- What a run has printed only becomes more.
use Rattle.std.specs.Prelude.{ℕ, List, Ok, Err}
use Rattle.typed_core.specs.Growth.{Continues}
use Rattle.typed_core.specs.SourceRuns.{Run, Answer, Calls}
use Rattle.typed_core.specs.SourceValues.{Value}

module _ {L : Type 0} where
  -- the run behind an answer, or at its end
  abbrev pub run_of : {A : Type 0} → Answer L A → Run L
  run_of (Ok done) = done.1
  run_of (Err end) = end.run

  -- what was printed before stands in front of what is printed then
  abbrev pub PrintsOn : {A : Type 0} → Run L → Answer L A → Type 0
  PrintsOn st answer = Continues st.printed (run_of answer).printed

  pub record CallsPrintOn (call : Calls L) : Type 0 where
    pub by : (fun : ℕ) (values : List Value) (st : Run L) → PrintsOn st (call fun values st)
