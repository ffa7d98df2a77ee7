pub mod Mark
pub mod Count
