pub mod Keys
pub mod OwnKeys
pub mod StrView
pub mod Utf8
