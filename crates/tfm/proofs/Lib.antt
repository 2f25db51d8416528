pub mod ChainLemmas
pub mod LoopLemmas
pub mod ProgramLemmas
pub mod TableLemmas
