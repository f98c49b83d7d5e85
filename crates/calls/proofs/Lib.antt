pub mod AnswerBuffers
pub mod Refused
pub mod StoreDone
pub mod WorkingNumbers
