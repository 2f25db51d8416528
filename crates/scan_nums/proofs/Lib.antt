pub mod ConstantLaws
mod DimenExamples
pub mod DimenLaws
mod Examples
pub mod GlueCharacter
pub mod GlueExamples
pub mod GlueLaws
pub mod IntLaws
