pub mod SpelledNumbers
pub mod Lines
pub mod Words
