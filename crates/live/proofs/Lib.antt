-- Laws.
pub mod Refusing
pub mod Heard
pub mod ExactlyWhen
pub mod Whole
pub mod History
pub mod CallsExactlyWhen
pub mod HeardBack
pub mod AnyReader
