pub mod NotedPath
pub mod Noting
