pub mod CounterLaws
pub mod RowLaws
pub mod RowSets
pub mod EntryRows
