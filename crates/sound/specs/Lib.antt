pub mod CheckPassed
