pub mod ReaderSample
