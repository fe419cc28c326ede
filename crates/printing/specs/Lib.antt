-- What each word is handed, and what several words share.
pub mod Ready
pub mod Texts
