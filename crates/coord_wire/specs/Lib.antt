pub mod OrderLine
pub mod AnswerLine
pub mod ShowLine
pub mod Laws
