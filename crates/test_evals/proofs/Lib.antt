pub mod WrittenSources
