pub mod DeclarationLaws
pub mod Groups
pub mod ParsedPrograms
pub mod ProgramLaws
pub mod Programs
pub mod StatementLaws
