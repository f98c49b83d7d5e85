pub mod Adding
pub mod Building
pub mod StoreStage
