pub mod Lexicon
pub mod ByteClasses
pub mod Names
pub mod Lex
pub mod Forms
pub mod FormText
pub mod Forest
pub mod Building
