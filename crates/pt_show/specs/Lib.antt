-- Inner. The files of definitions, lowest first.
pub mod Texts
pub mod EditTexts
pub mod HostTexts
pub mod SessionTexts
pub mod ActTexts
pub mod AnswerTexts
pub mod Laws
