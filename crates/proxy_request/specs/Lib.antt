pub mod Ops
pub mod Requests
pub mod Spelling
pub mod Answers
pub mod Laws
pub mod WorkedLines
