pub mod Cells
pub mod SizeLemmas
pub mod EntriesLemmas
pub mod KeysLemmas
pub mod RestoredLemmas
