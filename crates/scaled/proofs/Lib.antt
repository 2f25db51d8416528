pub mod DecimalLaws
pub mod PrintLaws
pub mod PrintedDigits
pub mod QuotientLaws
pub mod RomanLaws
