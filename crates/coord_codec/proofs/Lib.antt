pub mod ByNumber
pub mod WorldGrammars
pub mod RowsRead
pub mod WorldRows
pub mod Lengths
