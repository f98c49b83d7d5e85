pub mod StoreStage
