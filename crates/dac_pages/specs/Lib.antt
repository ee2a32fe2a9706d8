pub mod Published
pub mod Rising
