pub mod Commands
pub mod InstructionCounts
pub mod LineParts
pub mod Promises
pub mod Reports
pub mod MachineRuns
pub mod Statuses
