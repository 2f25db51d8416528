pub mod KeptLaws
pub mod StepLaws
pub mod WordLaws
pub mod TreeLaws
pub mod ExampleLaws
