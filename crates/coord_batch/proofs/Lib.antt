pub mod Grammars
pub mod StepGrammars
pub mod Loops
pub mod Batched
pub mod Lengths
pub mod Decoded
pub mod SpellingLaws
pub mod Worked
