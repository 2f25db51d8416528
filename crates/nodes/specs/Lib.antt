pub mod Inside
pub mod PackingMeasure
pub mod PackingTree
pub mod PackingTold
