pub mod Call
pub mod StoreDone
