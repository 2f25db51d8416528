pub mod Glue
pub mod ArithmeticBadness
pub mod ArithmeticQuotients
pub mod ArithmeticDecimals
pub mod ArithmeticRoman
pub mod Numeral
