pub mod SaidRuns
