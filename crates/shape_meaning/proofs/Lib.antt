mod FormValues
mod WrittenValues
mod RelationRows
mod SourceReading
mod CoreExamples
